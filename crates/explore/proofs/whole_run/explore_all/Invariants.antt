-- `explore::whole_run::explore_all` meets its contract. The loop's invariant is `Running`; the measure is the number of
-- explorations left.
use Prim.Native.Nat.{◌-◌}
use Rattle.explore.proofs.Running.{Running}
use Rattle.explore.proofs.whole_run.explore_all.Given as goal

abbrev pub invariant-loop-rules : goal.invariant-loop-rules
invariant-loop-rules l = Running l.book l.members l.taken

abbrev pub decreases-loop-rules : goal.decreases-loop-rules
decreases-loop-rules l = l.allowed - l.taken
