-- Atoms and records in a buffer, as the code above the definitions holds them.
use Rattle.std.specs.Prelude.{◌≡◌, cond, List, ◌++◌, ℕ, ◌+◌, ◌*◌, ◌-◌, ◌≤◌, T, ltb, length, get_or, replicate}
use Rattle.covering.specs.Term.{Question}
use Rattle.covering.specs.Record.{Layout, size, is_atom, are_atoms, question_of, record_bytes, width, stored}

-- the bytes in which the code holds a record, which the most atoms fill: 85
abbrev pub record_room : ℕ
record_room = width stored stored.atoms

-- n sound atoms from i on, within the bytes
pub record AtomsIn (L : Layout) (B : List ℕ) (i n : ℕ) : Type 0 where
  pub fits : i + n * size L ≤ length B
  pub sound : T (are_atoms L B i n)

-- what stands in place j of the w from i on, 255 where there are not so many
abbrev pub place_or : List ℕ → ℕ → ℕ → ℕ → ℕ
place_or B i w j = cond (ltb j w) (get_or B (i + j) 0) 255

-- a record at the front of n bytes, the rest 255
unfoldable pub held_in : Layout → ℕ → Question → List ℕ
held_in L n A = record_bytes L A ++ replicate (n - length (record_bytes L A)) 255

-- a sound atom within the bytes
pub record AtomIn (L : Layout) (B : List ℕ) (i : ℕ) : Type 0 where
  pub fits : i + size L ≤ length B
  pub sound : T (is_atom L B i)

-- a record under construction in n bytes: sound atoms, none or more, the rest 255, with room for one atom more
pub record RoomLeft (L : Layout) (n : ℕ) (B : List ℕ) : Type 0 where
  pub holds : B ≡ held_in L n (question_of L B)
  pub atoms : T (are_atoms L B 1 (get_or B 0 0))
  pub room : width L (get_or B 0 0 + 1) ≤ n
