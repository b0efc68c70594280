-- `cover::search::all_have` meets its contract. The loop's invariant: all atoms have a candidate exactly where those
-- from here on have, and these are sound.
use mathlib.Core.Path.{◌≡◌}
use Prim.Native.Nat.{◌*◌, ◌-◌, ◌/◌}
use lib.Dec.{T}
use lib.ListN.{length}
use Rattle.covering.specs.Lists.{all}
use Rattle.covering.specs.Record.{stored, atoms_at, are_atoms, question_of}
use Rattle.cover.specs.HeldMap.{part_of}
use Rattle.cover.specs.Candidates.{has_candidate}
use Rattle.cover.specs.Rest.{atoms_of}
use Rattle.cover.proofs.search.all_have.Given as goal

abbrev pub invariant-loop-n : goal.invariant-loop-n
invariant-loop-n l = T (are_atoms stored l.rest (l.n * 7) (length l.rest / 7 - l.n))
    × (all (has_candidate (part_of l.map) (question_of stored l.second)) (atoms_of l.rest)
    ≡ all (has_candidate (part_of l.map) (question_of stored l.second))
    (atoms_at stored l.rest (l.n * 7) (length l.rest / 7 - l.n)))
