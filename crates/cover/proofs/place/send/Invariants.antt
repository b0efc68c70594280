-- `cover::place::send` meets its contract. The loop's invariant: j places are sent, and what the map had for each is
-- kept.
use mathlib.Core.Path.{◌≡◌}
use Prim.Native.Nat.{◌-◌}
use lib.Dec.{T}
use Rattle.covering.specs.Record.{stored, used_first}
use Rattle.cover.specs.HeldMap.{sent_to, HadBefore}
use Rattle.cover.proofs.place.send.Given as goal

abbrev pub invariant-loop-j : goal.invariant-loop-j
invariant-loop-j l = (l.map ≡ sent_to l.initial.map l.terms l.others l.j)
    × HadBefore l.initial.map l.terms l.others l.j l.before
    × T (used_first stored l.terms l.j (6 - l.j))
