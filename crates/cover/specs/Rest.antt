-- The atoms still to place, as the search is lent them: some bytes, one atom after the other, seven bytes each.
use Rattle.std.specs.Prelude.{◌≡◌, List, ℕ, ◌/◌, ◌%◌, T, length}
use Rattle.covering.specs.Term.{Question}
use Rattle.covering.specs.Record.{stored, atoms_at, are_atoms}

-- the atoms that such bytes are
unfoldable pub atoms_of : List ℕ → Question
atoms_of B = atoms_at stored B 0 (length B / 7)

-- the bytes are whole atoms, and these are sound
pub record SoundAtoms (B : List ℕ) : Type 0 where
  pub whole : length B % 7 ≡ 0
  pub sound : T (are_atoms stored B 0 (length B / 7))
