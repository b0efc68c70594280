-- `unify::validity::is_valid` meets its contract. The loop's invariant: the classes are valid exactly where each term
-- of the head atoms from here on is allowed.
use mathlib.Core.Path.{◌≡◌}
use Rattle.covering.specs.Lists.{all}
use Rattle.covering.specs.Term.{on_question, terms}
use Rattle.covering.specs.Record.{stored, question_of}
use Rattle.unification.specs.Step.{up, move, valid}
use Rattle.unify.specs.Table.{tabled}
use Rattle.unify.specs.InBytes.{rule_of, classes_of}
use Rattle.unify.proofs.EachTerm.{from_atom}
use Rattle.unify.proofs.ValidTests.{allowed_byte}
use Rattle.unify.proofs.validity.is_valid.Given as goal

abbrev pub invariant-loop-k : goal.invariant-loop-k
invariant-loop-k l =
    let r = rule_of l.rule.book.now l.rule.parts in
    valid (tabled (classes_of l.table)) (question_of stored l.left) (move 48 r)
    ≡ all
    (allowed_byte l.left r l.table)
    (terms (on_question (up 48) (from_atom l.rule.book.now l.rule.parts.head l.rule.parts.heads l.k)))
