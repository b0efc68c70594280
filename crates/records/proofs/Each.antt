-- What the library's walks over places and atoms say: each place unused, each atom one that passes a
-- test. Assumes nothing.
use mathlib.Core.Path.{◌≡◌, refl, sym, ◌∙◌, ap}
use mathlib.Core.Bool.{Bool, ◌&&◌}
use mathlib.Core.List.{List, ◌∷◌}
use Prim.Native.Nat.{ℕ, zero, suc, ◌+◌, ◌*◌, ◌<◌, ◌≤◌}
use native.Mathlib.Omega.{arith}
use native.Mathlib.Numerals.{add-one}
use lib.Dec.{eqb}
use lib.ListN.{length, get_or, take, drop}
use lib.Seq.{drop-cons}
use Rattle.std.specs.List.{list_all, range_with_len}
use Rattle.covering.specs.Lists.{all}
use Rattle.covering.specs.Term.{Atom}
use Rattle.covering.specs.Record.{Layout, size, unused, atom_at, atoms_at, is_atom, are_atoms}

-- the places from i on, the first of them taken
split : (B : List ℕ) (i n : ℕ) → i < length B → take (suc n) (drop i B) ≡ get_or B i 0 ∷ take n (drop (i + 1) B)
split B i n h = ap (take (suc n)) (drop-cons B i 0 h) ∙ ap (λ k. get_or B i 0 ∷ take n (drop k B)) (sym (add-one i))

-- "the rest 255"
all_free : (B : List ℕ) (i n : ℕ) → i + n ≤ length B → list_all (λ b. eqb b 255) (take n (drop i B)) ≡ unused B i n
unfolding unused
all_free B i zero h = refl
all_free B i (suc n) h =
    rw (split B i n (omega arith)) (ap (λ r. eqb (get_or B i 0) 255 && r) (all_free B (i + 1) n (omega arith)))

pub unused_is : (B : List ℕ) (i m n : ℕ) → m ≡ n → i + n ≤ length B
    → list_all (λ b. eqb b 255) (take m (drop i B)) ≡ unused B i n
unused_is B i m n e h = ap (λ k. list_all (λ b. eqb b 255) (take k (drop i B))) e ∙ all_free B i n h

-- each of some atoms passes a test
pub atoms_all : (L : Layout) (B : List ℕ) (i n : ℕ) (f : Atom → Bool)
    → list_all (λ k. f (atom_at L B (i + k * size L))) (range_with_len 0 n) ≡ all f (atoms_at L B i n)
unfolding atoms_at
atoms_all L B i n f = go n 0 ∙ ap (λ k. all f (atoms_at L B k n)) (omega arith)
  where
    go : (n a : ℕ) → list_all (λ k. f (atom_at L B (i + k * size L))) (range_with_len a n)
        ≡ all f (atoms_at L B (i + a * size L) n)
    go zero a = refl
    go (suc n) a =
        ap (λ r. f (atom_at L B (i + a * size L)) && r)
        (go n (a + 1) ∙ ap (λ k. all f (atoms_at L B k n)) (omega arith))

-- each of some atoms is one
pub atoms_are : (L : Layout) (B : List ℕ) (i n : ℕ)
    → list_all (λ k. is_atom L B (i + k * size L)) (range_with_len 0 n) ≡ are_atoms L B i n
unfolding are_atoms
atoms_are L B i n = go n 0 ∙ ap (λ k. are_atoms L B k n) (omega arith)
  where
    go : (n a : ℕ) → list_all (λ k. is_atom L B (i + k * size L)) (range_with_len a n)
        ≡ are_atoms L B (i + a * size L) n
    go zero a = refl
    go (suc n) a =
        ap (λ r. is_atom L B (i + a * size L) && r) (go n (a + 1) ∙ ap (λ k. are_atoms L B k n) (omega arith))
