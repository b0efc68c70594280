-- `cover::search::has_candidate` meets its contract. The loop's invariant: the atom has a candidate in all exactly
-- where it has one among those from here on. An atom of another relation is none; of the
-- same one the places decide.
use mathlib.Core.Path.{◌≡◌}
use Prim.Native.Nat.{◌+◌, ◌*◌, ◌-◌}
use lib.ListN.{get_or}
use Rattle.covering.specs.Record.{stored, atom_at, atoms_at, question_of}
use Rattle.cover.specs.HeldMap.{part_of}
use Rattle.cover.specs.Candidates.{has_candidate}
use Rattle.cover.proofs.search.has_candidate.Given as goal

abbrev pub invariant-loop-n : goal.invariant-loop-n
invariant-loop-n l = has_candidate (part_of l.map) (question_of stored l.second) (atom_at stored l.atom 0)
    ≡ has_candidate (part_of l.map) (atoms_at stored l.second (1 + l.n * 7) (get_or l.second 0 0 - l.n)) (atom_at stored l.atom 0)
