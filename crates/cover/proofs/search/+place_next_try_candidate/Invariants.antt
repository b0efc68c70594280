-- The search's two functions meet their contracts. `place_next` tries its atom on one candidate after the other,
-- `try_candidate` places it on one and goes on to the next atom. The measure is two for each byte left, and one less at
-- a candidate. The loop's invariant: the map is as it came, and what the search finds, trying the candidates from here
-- on finds.
use mathlib.Core.Path.{◌≡◌}
use Prim.Native.Nat.{◌+◌, ◌*◌, ◌-◌}
use lib.ListN.{length, get_or, drop}
use Rattle.covering.specs.Search.{find_map}
use Rattle.covering.specs.Record.{stored, atom_at, atoms_at, question_of}
use Rattle.cover.specs.Candidates.{tried}
use Rattle.cover.specs.HeldMap.{part_of}
use Rattle.cover.specs.Rest.{atoms_of}
use Rattle.cover.proofs.search.+place_next_try_candidate.Given as goal

abbrev pub decreases-place_next : goal.decreases-place_next
decreases-place_next l = length l.rest.now * 2

abbrev pub decreases-try_candidate : goal.decreases-try_candidate
decreases-try_candidate l = length l.rest.now * 2 - 1

abbrev pub invariant-place_next-loop-n : goal.invariant-place_next-loop-n
invariant-place_next-loop-n l = (l.map ≡ l.initial.map)
    × (find_map (atoms_of l.rest) (question_of stored l.second) (part_of l.initial.map)
    ≡ tried
    (atom_at stored l.rest 0)
    (atoms_of (drop 7 l.rest))
    (question_of stored l.second)
    (atoms_at stored l.second (1 + l.n * 7) (get_or l.second 0 0 - l.n))
    (part_of l.initial.map))
