-- `admit::removing::keep_uncovered`: the removal is midway, and these are the sets of the members left.
use Prim.Native.Nat.{◌-◌}
use lib.ListN.{length}
use Rattle.covering.specs.Record.{stored, question_of}
use Rattle.admit.proofs.Removal.{Midway}
use Rattle.exploration.specs.Held.{held_from}
use Rattle.admit.specs.Sets.{SetsFrom}
use Rattle.admit.proofs.removing.keep_uncovered.Given as goal

abbrev pub invariant-loop-set : goal.invariant-loop-set
invariant-loop-set l =
    Midway l.initial.work l.from l.to (length l.sets) (question_of stored l.rewriting) l.work l.at l.end l.kept l.set-index
    × SetsFrom l.sets l.set-index (held_from l.initial.work l.at (length l.sets - l.set-index))
