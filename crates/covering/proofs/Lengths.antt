-- How many atoms are read, and how many bytes are written. Assumes nothing.
use mathlib.Core.Path.{◌≡◌, refl, ◌∙◌, ap}
use mathlib.Core.List.{List, [], ◌∷◌}
use Prim.Native.Nat.{ℕ, zero, suc, ◌+◌, ◌*◌}
use native.Mathlib.Omega.{arith}
use lib.ListN.{length, get_or, length-append}
use Rattle.covering.specs.Lists.{gather}
use Rattle.covering.specs.Term.{Term, Atom, Question}
use Rattle.covering.specs.Record.{Layout, size, atoms_at, question_of, places_bytes, atom_bytes, record_bytes}

-- n atoms are read where n are asked for; in a record its count byte asks
pub count_atoms : (L : Layout) (B : List ℕ) (n i : ℕ) → length (atoms_at L B i n) ≡ n
unfolding atoms_at
count_atoms L B zero i = refl
count_atoms L B (suc n) i = ap suc (count_atoms L B n (i + size L))

pub question_count : (L : Layout) (B : List ℕ) → length (question_of L B) ≡ get_or B 0 0
unfolding question_of
question_count L B = count_atoms L B (get_or B 0 0) 1

-- an atom takes the layout's size, a record one byte more than its atoms
pub places_long : (w : ℕ) (ts : List Term) → length (places_bytes w ts) ≡ w
places_long zero ts = refl
places_long (suc w) [] = ap suc (places_long w [])
places_long (suc w) (t ∷ ts) = ap suc (places_long w ts)

pub atom_long : (L : Layout) (a : Atom) → length (atom_bytes L a) ≡ size L
unfolding atom_bytes
atom_long L a = let e = places_long L.places a.args in omega arith

pub atoms_long : (L : Layout) (A : Question) → length (gather (atom_bytes L) A) ≡ length A * size L
atoms_long L [] = omega arith
atoms_long L (a ∷ A) =
    length-append (atom_bytes L a) (gather (atom_bytes L) A) ∙ omega (arith, atom_long L a, atoms_long L A)

-- "one count byte and its atoms"
pub record_is : (L : Layout) (A : Question) → record_bytes L A ≡ length A ∷ gather (atom_bytes L) A
unfolding record_bytes
record_is L A = refl

pub record_long : (L : Layout) (A : Question) → length (record_bytes L A) ≡ 1 + length A * size L
record_long L A = ap length (record_is L A) ∙ omega (arith, atoms_long L A)
