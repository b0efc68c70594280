-- `lister::prefix::leave_unmet` meets its contract. The loop's invariant: the atoms left so far, and those from the j-th on
-- that no head atom can meet, are what is to be left.
use mathlib.Core.List.{◌++◌}
use lib.ListN.{drop}
use Rattle.covering.specs.Record.{stored, question_of}
use Rattle.unify.specs.InBytes.{rule_of}
use Rattle.lister.specs.FirstDigits.{unmet}
use Rattle.lister.proofs.Unmet.{Leaving}
use Rattle.lister.proofs.prefix.leave_unmet.Given as goal

abbrev pub invariant-loop-j : goal.invariant-loop-j
invariant-loop-j l =
    let H = (rule_of l.rule.book.now l.rule.parts).head in
    let Q = question_of stored l.question in
    Leaving H (l.initial.left ++ unmet H (drop l.p Q)) l.question l.j l.left
