-- `cover::search::leads_on` meets its contract. The loop's invariant: the atom brings something new exactly where a place
-- from the j-th on does, and these are sound.
use mathlib.Core.Path.{◌≡◌}
use mathlib.Core.Bool.{◌&&◌}
use Prim.Native.Nat.{◌+◌, ◌-◌}
use lib.Dec.{T}
use lib.ListN.{drop}
use Rattle.covering.specs.Lists.{any}
use Rattle.covering.specs.Term.{terms, eq_term}
use Rattle.covering.specs.Record.{stored, args_at, used_first}
use Rattle.cover.specs.HeldMap.{part_of}
use Rattle.cover.specs.Candidates.{new_to}
use Rattle.cover.specs.Rest.{atoms_of}
use Rattle.cover.proofs.search.leads_on.Given as goal

abbrev pub invariant-loop-j : goal.invariant-loop-j
invariant-loop-j l = T (used_first stored l.rest (1 + l.j) (6 - l.j))
    × (any (λ t. new_to (part_of l.map) t && any (eq_term t) (terms (atoms_of (drop 7 l.rest)))) (args_at l.rest 1 6)
    ≡ any (λ t. new_to (part_of l.map) t && any (eq_term t) (terms (atoms_of (drop 7 l.rest))))
    (args_at l.rest (1 + l.j) (6 - l.j)))
