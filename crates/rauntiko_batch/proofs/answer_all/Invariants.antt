-- The batch is answered as far as the turns went.
use Rattle.rauntiko_batch.proofs.Sofar.{Sofar}
use Rattle.rauntiko_batch.proofs.answer_all.Given as goal

abbrev pub invariant-loop-turn : goal.invariant-loop-turn
invariant-loop-turn g l =
    Sofar (g.R.Read.remaining l.initial.reader) (g.R.Read.remaining l.reader) (g.W.Write.contents l.initial.out)
    (g.W.Write.contents l.out) l.turn
