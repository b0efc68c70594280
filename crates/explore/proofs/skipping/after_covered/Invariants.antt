-- `explore::skipping::after_covered` meets its contract. The loop's invariant: all that is listed between the choice and
-- the number to go on from is covered.
use Rattle.covering.specs.Record.{stored, question_of}
use Rattle.unify.specs.InBytes.{rule_of}
use Rattle.explore.specs.Skipping.{GoesOn}
use Rattle.explore.proofs.skipping.after_covered.Given as goal

abbrev pub invariant-loop-p : goal.invariant-loop-p
invariant-loop-p l =
    GoesOn (rule_of l.rule.book.now l.rule.parts) (question_of stored l.member) l.members.members l.choice l.from
