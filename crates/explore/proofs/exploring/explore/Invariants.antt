-- `explore::exploring::explore` meets its contract. The loop's invariant (`Onward`): the exploration's outcome is that of
-- the rewritings yet to come, from the union as it is then. The measure is the number of rewritings yet to come.
use lib.ListN.{length, drop}
use Rattle.covering.specs.Record.{stored, question_of}
use Rattle.reading.specs.Book.{book_of}
use Rattle.exploration.specs.Refusals.{limits_of}
use Rattle.explore.proofs.Coming.{coming}
use Rattle.explore.proofs.Onward.{Onward}
use Rattle.explore.proofs.exploring.explore.Given as goal

abbrev pub invariant-loop-taken : goal.invariant-loop-taken
invariant-loop-taken l =
    Onward (limits_of l.rules) (book_of l.rules).rules (question_of stored l.member) l.initial.members l.members l.rule l.from

abbrev pub decreases-loop-taken : goal.decreases-loop-taken
decreases-loop-taken l = length (coming (question_of stored l.member) l.from (drop l.rule (book_of l.rules).rules))
