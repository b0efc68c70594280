-- Bytes that were copied say the same. Assumes nothing.
use mathlib.Core.Path.{◌≡◌, refl, sym, ◌∙◌, ap, ap₂}
use mathlib.Core.Bool.{Bool, cond, ◌&&◌}
use mathlib.Core.List.{List, [], ◌∷◌}
use Prim.Native.Nat.{ℕ, zero, suc, ◌+◌, ◌*◌, ◌≤◌, ◌<◌}
use native.Mathlib.Nat.{suc-mul}
use native.Mathlib.Omega.{arith}
use lib.Dec.{eqb}
use lib.ListN.{get_or}
use Rattle.covering.specs.Term.{Term, Atom}
use Rattle.covering.specs.Record.{Layout, size, term_of, args_at, atoms_at, atom_at, is_term, unused, used_first}
use Rattle.covering.specs.Record.{is_atom, are_atoms, are_places, is_relation}
use Rattle.covering.proofs.Places.{args_none, args_step}

module _ (L : Layout) (B R : List ℕ) where
  -- n bytes from k on in B stand from i on in R
  abbrev pub Copied : ℕ → ℕ → ℕ → Type 0
  Copied i k n = (v : ℕ) → v < n → get_or R (i + v) 0 ≡ get_or B (k + v) 0

  copied_first : (i k n : ℕ) → 0 < n → Copied i k n → get_or R i 0 ≡ get_or B k 0
  copied_first i k n l c =
      ap (λ (x : ℕ). get_or R x 0) (omega arith) ∙ c 0 l ∙ ap (λ (x : ℕ). get_or B x 0) (omega arith)

  copied_rest : (i k m n : ℕ) → Copied i k (m + n) → Copied (i + m) (k + m) n
  copied_rest i k m n c v l =
      ap (λ (x : ℕ). get_or R x 0) (omega arith) ∙ c (m + v) (omega arith) ∙ ap (λ (x : ℕ). get_or B x 0) (omega arith)

  args_copied : (i k w : ℕ) → Copied i k w → args_at R i w ≡ args_at B k w
  args_copied i k zero c = args_none R i ∙ sym (args_none B k)
  args_copied i k (suc w) c =
      args_step R i w
      ∙ ap₂ (λ (b : ℕ) (r : List Term). cond (eqb b 255) [] (term_of b ∷ r)) (copied_first i k (suc w) (omega arith) c)
      (args_copied (i + 1) (k + 1) w (copied_rest i k 1 w (λ v l. c v (omega arith))))
      ∙ sym (args_step B k w)

  unused_copied : (i k w : ℕ) → Copied i k w → unused R i w ≡ unused B k w
  unfolding unused
  unused_copied i k zero c = refl
  unused_copied i k (suc w) c =
      ap₂ (λ (b : ℕ) (r : Bool). eqb b 255 && r) (copied_first i k (suc w) (omega arith) c)
      (unused_copied (i + 1) (k + 1) w (copied_rest i k 1 w (λ v l. c v (omega arith))))

  used_copied : (i k w : ℕ) → Copied i k w → used_first L R i w ≡ used_first L B k w
  unfolding used_first
  used_copied i k zero c = refl
  used_copied i k (suc w) c =
      ap₂ (λ (b : ℕ) (r : Bool). cond (is_term L b) r (unused R i (suc w))) (copied_first i k (suc w) (omega arith) c)
      (used_copied (i + 1) (k + 1) w (copied_rest i k 1 w (λ v l. c v (omega arith))))
      ∙ ap (λ (r : Bool). cond (is_term L (get_or B k 0)) (used_first L B (k + 1) w) r) (unused_copied i k (suc w) c)

  module _ (some_place : 1 ≤ L.places) where
    is_copied : (i k : ℕ) → Copied i k (size L) → is_atom L R i ≡ is_atom L B k
    unfolding is_atom are_places
    is_copied i k c =
        let rest : Copied (i + 1) (k + 1) L.places = copied_rest i k 1 L.places c in
        ap₂ ◌&&◌ (ap (is_relation L) (copied_first i k (size L) (omega arith) c))
        (ap₂ ◌&&◌ (ap (is_term L) (copied_first (i + 1) (k + 1) L.places some_place rest))
        (used_copied (i + 1) (k + 1) L.places rest))

    -- n atoms
    first_copied : (i k n : ℕ) → Copied i k (suc n * size L) → Copied i k (size L)
    first_copied i k n c v l = c v (omega (arith, suc-mul n (size L)))

    rest_copied : (i k n : ℕ) → Copied i k (suc n * size L) → Copied (i + size L) (k + size L) (n * size L)
    rest_copied i k n c = copied_rest i k (size L) (n * size L) (λ v l. c v (omega (arith, suc-mul n (size L))))

    pub are_copied : (i k n : ℕ) → Copied i k (n * size L) → are_atoms L R i n ≡ are_atoms L B k n
    unfolding are_atoms
    are_copied i k zero c = refl
    are_copied i k (suc n) c =
        ap₂ ◌&&◌ (is_copied i k (first_copied i k n c))
        (are_copied (i + size L) (k + size L) n (rest_copied i k n c))

    pub atoms_copied : (i k n : ℕ) → Copied i k (n * size L) → atoms_at L R i n ≡ atoms_at L B k n
    unfolding atoms_at atom_at
    atoms_copied i k zero c = refl
    atoms_copied i k (suc n) c =
        ap₂ ◌∷◌
        (ap₂
        (λ (r : ℕ) (ts : List Term). let a : Atom = record { rel = r; args = ts } in a)
        (copied_first i k (size L) (omega arith) (first_copied i k n c))
        (args_copied (i + 1) (k + 1) L.places (copied_rest i k 1 L.places (first_copied i k n c))))
        (atoms_copied (i + size L) (k + size L) n (rest_copied i k n c))
