-- `admit::searching::member_covering`: so many of the members are passed; of the member at hand, so many of the
-- candidates are asked.
use Prim.Native.Nat.{◌-◌}
use lib.ListN.{length}
use Rattle.covering.specs.Record.{stored, question_of}
use Rattle.admit.proofs.Finding.{Passed, Asked}
use Rattle.admit.proofs.searching.member_covering.Given as goal

abbrev pub invariant-members : goal.invariant-members
invariant-members l = Passed l.work l.sets l.map (question_of stored l.rewriting) l.at l.i

abbrev pub decreases-members : goal.decreases-members
decreases-members l = length l.sets - l.i

abbrev pub invariant-loop-k : goal.invariant-loop-k
invariant-loop-k l = Asked l.member l.rewriting l.map l.k
