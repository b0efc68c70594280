-- Members as they are written, as the code that reads them asks.
use Rattle.std.specs.Prelude.{◌≡◌, List, ℕ, zero, suc, ◌+◌, ◌≤◌, length}
use Rattle.covering.specs.Term.{Question}
use Rattle.covering.specs.Asking.{asking, records}
use Rattle.covering.specs.Record.{holding, atoms_at}
use Rattle.covering.specs.Buffer.{AtomsIn}
use Rattle.reading.specs.Word.{byte}
use Rattle.exploration.specs.Union.{member_end}

-- a question of so many answer records and so many other atoms
pub record Counted (answers count : ℕ) (M : Question) : Type 0 where
  pub records_are : records (asking M).answer ≡ answers
  pub atoms_are : length (asking M).atoms ≡ count

-- a member stands at i, w places an atom: so many answer records and the atoms that it counts, sound ones, at most twelve
-- in all
pub record MemberAt (w answers : ℕ) (W : List ℕ) (i : ℕ) : Type 0 where
  pub most : answers + byte W i ≤ (holding w).atoms
  pub atoms : AtomsIn (holding w) W (i + 1) (answers + byte W i)
  pub is : Counted answers (byte W i) (atoms_at (holding w) W (i + 1) (answers + byte W i))

-- n members stand from i on, one after the other
unfoldable pub WrittenAt : ℕ → ℕ → List ℕ → ℕ → ℕ → Type 0
WrittenAt w answers W i zero = Unit {0}
WrittenAt w answers W i (suc n) = MemberAt w answers W i × WrittenAt w answers W (member_end w answers W i) n
