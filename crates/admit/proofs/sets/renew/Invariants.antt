-- `admit::sets::renew`: the sets of the members passed are made, and the next one stands where they end.
use mathlib.Core.Path.{◌≡◌}
use Prim.Native.Nat.{◌-◌}
use Rattle.exploration.specs.Held.{held_from, Standing}
use Rattle.exploration.proofs.Members.{ending}
use Rattle.admit.specs.Sets.{SetsFrom}
use Rattle.admit.proofs.sets.renew.Given as goal

abbrev pub invariant-loop-set : goal.invariant-loop-set
invariant-loop-set l = (l.at ≡ ending l.work 8 l.set-index)
    × Standing l.work l.at (l.count - l.set-index)
    × SetsFrom l.set-items 0 (held_from l.work 8 l.set-index)
