-- Some atoms, of which k are passed: those passed, the next one, and those from there on. What a loop over atoms cites.
-- Assumes nothing.
use mathlib.Core.Path.{◌≡◌, sym, ◌∙◌, ap, ap₂, subst}
use mathlib.Core.List.Memᴰ
use mathlib.Core.List.{List, [], ◌∷◌, ◌++◌}
use Prim.Native.Nat.{ℕ, zero, suc, ◌+◌, ◌*◌, ◌-◌, ◌<◌, ◌≤◌}
use native.Mathlib.Omega.{arith}
use native.Mathlib.Nat.{mul-le-mul_right}
use native.Mathlib.Numerals.{add-one}
use lib.Dec.{T}
use lib.ListN.{length}
use Rattle.covering.specs.Lists.{◌∈◌}
use Rattle.covering.specs.Term.{Atom, Question}
use Rattle.covering.specs.Record.{Layout, size, atom_at, atoms_at, is_atom, are_atoms}
use Rattle.covering.specs.Buffer.{AtomIn, AtomsIn}
use Rattle.covering.proofs.Places.{atoms_none, atoms_more, sound_more}

module _ (L : Layout) (B : List ℕ) where
  abbrev pub nth : ℕ → ℕ → Atom
  nth i k = atom_at L B (i + k * size L)

  passed : (k i : ℕ) → atoms_at L B i (suc k) ≡ atoms_at L B i k ++ nth i k ∷ []
  unfolding atoms_at
  passed zero i = ap (λ (j : ℕ). atom_at L B j ∷ []) (omega arith)
  passed (suc k) i =
      ap (λ (A : Question). atom_at L B i ∷ A)
      (passed k (i + size L)
      ∙ ap (λ (j : ℕ). atoms_at L B (i + size L) k ++ atom_at L B j ∷ []) (omega arith))

  sound_at : (k n i : ℕ) → k < n → T (are_atoms L B i n) → T (is_atom L B (i + k * size L))
  sound_at zero n i h t = subst (λ (j : ℕ). T (is_atom L B j)) (omega arith) (sound_more L B i n h t).0
  sound_at (suc k) n i h t =
      subst (λ (j : ℕ). T (is_atom L B j)) (omega arith)
      (sound_at k (n - 1) (i + size L) (omega arith) (sound_more L B i n (omega arith) t).1)

  sound_from : (k n i : ℕ) → k ≤ n → T (are_atoms L B i n) → T (are_atoms L B (i + k * size L) (n - k))
  sound_from zero n i h t =
      subst (λ (m : ℕ). T (are_atoms L B (i + 0 * size L) m)) (omega arith)
      (subst (λ (j : ℕ). T (are_atoms L B j n)) (omega arith) t)
  sound_from (suc k) n i h t =
      subst (λ (j : ℕ). T (are_atoms L B j (n - suc k))) (omega arith)
      (subst (λ (m : ℕ). T (are_atoms L B (i + size L + k * size L) m)) (omega arith)
      (sound_from k (n - 1) (i + size L) (omega arith) (sound_more L B i n (omega arith) t).1))

  stands : (k n i : ℕ) → k < n → nth i k ∈ atoms_at L B i n
  stands zero n i h =
      subst (λ (A : Question). nth i 0 ∈ A) (sym (atoms_more L B i n h)) (Memᴰ.head (ap (atom_at L B) (omega arith)))
  stands (suc k) n i h =
      subst (λ (A : Question). nth i (suc k) ∈ A) (sym (atoms_more L B i n (omega arith)))
      (Memᴰ.tail
      (subst (λ (j : ℕ). atom_at L B j ∈ atoms_at L B (i + size L) (n - 1)) (omega arith)
      (stands k (n - 1) (i + size L) (omega arith))))

  module _ (i : ℕ) where
    pub passed_none : atoms_at L B i 0 ≡ []
    passed_none = atoms_none L B i 0 (omega arith)

    pub passed_more : (k : ℕ) → atoms_at L B i (k + 1) ≡ atoms_at L B i k ++ nth i k ∷ []
    passed_more k = ap (atoms_at L B i) (add-one k) ∙ passed k i

    module _ (n : ℕ) where
      abbrev pub from : ℕ → Question
      from k = atoms_at L B (i + k * size L) (n - k)

      pub from_start : from 0 ≡ atoms_at L B i n
      from_start = ap₂ (atoms_at L B) (omega arith) (omega arith)

      pub from_none : (k : ℕ) → n ≤ k → from k ≡ []
      from_none k h = atoms_none L B (i + k * size L) (n - k) (omega arith)

      pub from_in : (k : ℕ) → k ≤ n → AtomsIn L B i n → AtomsIn L B (i + k * size L) (n - k)
      from_in k h a =
          record {
            fits = subst (λ (m : ℕ). m ≤ length B) whole a.fits;
            sound = sound_from k n i h a.sound;
          }
        where
          whole : i + n * size L ≡ i + k * size L + (n - k) * size L
          whole = ap (λ (m : ℕ). i + m * size L) parts ∙ omega arith
            where
              parts : n ≡ k + (n - k)
              parts = omega arith

      module _ (k : ℕ) (lt : k < n) where
        pub from_more : from k ≡ nth i k ∷ from (k + 1)
        from_more =
            atoms_more L B (i + k * size L) (n - k) (omega arith)
            ∙ ap₂ (λ (j m : ℕ). nth i k ∷ atoms_at L B j m) (omega arith) (omega arith)

        pub nth_among : nth i k ∈ atoms_at L B i n
        nth_among = stands k n i lt

        pub nth_in : AtomsIn L B i n → AtomIn L B (i + k * size L)
        nth_in a =
            record {
              fits = omega (arith, a.fits, mul-le-mul_right {m = k + 1} {n = n} (size L) (omega arith));
              sound = sound_at k n i lt a.sound;
            }
