-- A turn answers the first of the books that are left, or finds that there is none.
use Rattle.std.proofs.Common.{subst}
use Rattle.rauntiko_batch.specs.Batch.{AnswersFirst}
use Rattle.rauntiko_batch.proofs.Sofar.{sofar_more, sofar_all}
use Rattle.rauntiko_batch.proofs.answer_all.Goals as goal

pub returns-then-not-branch : goal.returns-then-not-branch
returns-then-not-branch g c =
    let b = g.R.Read.remaining c.loop-turn.reader in
    let left = g.R.Read.remaining c.answer_next.new.reader in
    let mid = g.W.Write.contents c.loop-turn.out in
    let new = g.W.Write.contents c.answer_next.new.out in
    sofar_all (g.R.Read.remaining c.args.reader.now) b left (g.W.Write.contents c.args.out.now) mid new
    c.loop-turn.turn c.loop-turn.invariant
    (subst (λ there. AnswersFirst b left mid new there) c.if-not-branch.true c.in_ok-answer_next.ensures)

pub loop-turn-preserved : goal.loop-turn-preserved
loop-turn-preserved g c =
    let b = g.R.Read.remaining c.loop-turn.reader in
    let left = g.R.Read.remaining c.answer_next.new.reader in
    let mid = g.W.Write.contents c.loop-turn.out in
    let new = g.W.Write.contents c.answer_next.new.out in
    sofar_more (g.R.Read.remaining c.args.reader.now) b left (g.W.Write.contents c.args.out.now) mid new
    c.loop-turn.turn c.loop-turn.invariant
    (subst (λ there. AnswersFirst b left mid new there) c.if-not-branch.false c.in_ok-answer_next.ensures)
