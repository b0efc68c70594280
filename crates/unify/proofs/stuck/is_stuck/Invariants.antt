-- `unify::stuck::is_stuck` meets its contract. The loop's invariant: what bars the atom from the head atoms yet to come bars
-- it from all.
use Rattle.covering.specs.Record.{stored, atom_at}
use Rattle.unification.specs.Step.{move}
use Rattle.unify.specs.Table.{tabled}
use Rattle.unify.specs.InBytes.{rule_of, classes_of}
use Rattle.unify.specs.Stuck.{Barred}
use Rattle.unify.proofs.StuckBytes.{Each}
use Rattle.unify.proofs.stuck.is_stuck.Given as goal

abbrev pub invariant-loop-n : goal.invariant-loop-n
invariant-loop-n l =
    let B = l.rule.book.now in
    let p = l.rule.parts in
    let barred = Barred (tabled (classes_of l.table)) (move 48 (rule_of B p)) (atom_at stored l.question l.i) in
    Each barred B p.head p.heads l.n → Each barred B p.head p.heads 0
