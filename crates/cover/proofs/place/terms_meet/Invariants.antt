-- `cover::place::terms_meet` meets its contract. The loop's invariant: sending all the places is sending those from the
-- j-th on under the map that the places before make, and these are sound.
use mathlib.Core.Path.{◌≡◌}
use Prim.Native.Nat.{ℕ, ◌-◌, ◌<◌}
use lib.Dec.{T}
use lib.ListN.{get_or}
use Rattle.covering.specs.Search.{place_terms}
use Rattle.covering.specs.Record.{stored, args_at, used_first}
use Rattle.cover.specs.HeldMap.{part_of, sent_to}
use Rattle.cover.proofs.place.terms_meet.Given as goal

abbrev pub invariant-loop-j : goal.invariant-loop-j
invariant-loop-j l = T (used_first stored l.terms l.j (6 - l.j))
    × ((n : ℕ) → n < l.j → get_or l.others n 0 ≡ 255 → ⊥)
    × (place_terms (part_of l.map) (args_at l.terms 0 6) (args_at l.others 0 6)
    ≡ place_terms
    (part_of (sent_to l.map l.terms l.others l.j))
    (args_at l.terms l.j (6 - l.j))
    (args_at l.others l.j (6 - l.j)))
