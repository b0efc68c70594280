-- `unify::validity::apart_places` meets its contract. The loop's invariant: the terms in the places are apart exactly
-- where those from the j-th place on are, and these places are sound.
use mathlib.Core.Path.{◌≡◌}
use mathlib.Core.List.{map}
use Prim.Native.Nat.{◌+◌, ◌-◌}
use lib.Dec.{T}
use Rattle.covering.specs.Lists.{all}
use Rattle.covering.specs.Term.{on_term}
use Rattle.covering.specs.Record.{args_at, used_first}
use Rattle.unification.specs.Step.{up}
use Rattle.unify.specs.InBytes.{in_book}
use Rattle.unify.proofs.ValidTests.{apart_byte}
use Rattle.unify.proofs.validity.apart_places.Given as goal

abbrev pub invariant-loop-j : goal.invariant-loop-j
invariant-loop-j l = T (used_first in_book l.s (l.i + l.j) (6 - l.j))
    × (all (apart_byte l.table l.z l.rep) (map (on_term (up l.shift)) (args_at l.s l.i 6))
    ≡ all (apart_byte l.table l.z l.rep) (map (on_term (up l.shift)) (args_at l.s (l.i + l.j) (6 - l.j))))
