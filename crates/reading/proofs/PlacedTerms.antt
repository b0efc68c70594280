-- A variable's byte in a place of an atom that is right is one of the atom's terms, and a variable among the terms of
-- an atom stands in a place. Assumes nothing.
use mathlib.Core.Path.{◌≡◌, refl, sym, ◌∙◌, ap, subst}
use mathlib.Core.Bool.{◌&&◌}
use mathlib.Core.Logic.{◌⊎◌, inl, inr}
use mathlib.Core.List.Memᴰ
use mathlib.Core.List.{List}
use Prim.Native.Nat.{ℕ, zero, suc, ◌+◌, ◌*◌, ◌≤◌, ◌<◌}
use native.Mathlib.Omega.{arith}
use borrow.Author.Tests.{ne_eqb}
use lib.Dec.{T, ltb, leb, ltb→lt}
use Rattle.covering.specs.Lists.{◌∈◌}
use Rattle.covering.specs.Term.{Term, var}
use Rattle.covering.specs.Record.{Layout, holding, size, term_of, args_at, atom_at, atoms_at}
use Rattle.covering.proofs.Tests.{or_cases, snd_of, le_or_lt}
use Rattle.covering.proofs.Terms.{var_inj, var≢con}
use Rattle.covering.proofs.Bytes.{term_var, term_con}
use Rattle.covering.proofs.Places.{args_at_lem, atom_each}
use Rattle.reading.specs.Word.{byte}
use Rattle.reading.specs.Header.{constants, constants_range, variables, atom_places}
use Rattle.reading.specs.Refusals.{used_allowed}
use Rattle.reading.proofs.Forms.{form_known}
use Rattle.reading.proofs.SoundBook.{UsedRight, used_place, unused_place}

-- each of n atoms is one of them
pub atom_in : (L : Layout) (B : List ℕ) (i n j : ℕ) → j < n → atom_at L B (i + size L * j) ∈ atoms_at L B i n
unfolding atoms_at
atom_in L B i zero j l = absurd (omega arith)
atom_in L B i (suc n) zero l = Memᴰ.head (ap (atom_at L B) first)
  where
    first : i + size L * 0 ≡ i
    first = omega arith
atom_in L B i (suc n) (suc j) l =
    subst (λ (k : ℕ). atom_at L B k ∈ atoms_at L B i (suc n)) next
    (Memᴰ.tail (atom_in L B (i + size L) n j (omega arith)))
  where
    next : i + size L + size L * j ≡ i + size L * suc j
    next = omega arith

module _ (B : List ℕ) where
  -- the term in a place before which none is 255
  term_in : (i w v : ℕ) → v < w → ((x : ℕ) → x ≤ v → byte B (i + x) ≡ 255 → ⊥)
      → term_of (byte B (i + v)) ∈ args_at B i w
  unfolding args_at
  term_in i zero v l f = absurd (omega arith)
  term_in i (suc w) zero l f =
      let first : i + 0 ≡ i = omega arith in
      rw (ne_eqb (byte B i) 255 (λ e. f 0 (omega arith) (ap (byte B) first ∙ e)))
      (Memᴰ.head (ap (λ (k : ℕ). term_of (byte B k)) first))
  term_in i (suc w) (suc v) l f =
      let first : i + 0 ≡ i = omega arith in
      rw (ne_eqb (byte B i) 255 (λ e. f 0 (omega arith) (ap (byte B) first ∙ e)))
      (Memᴰ.tail
      (subst (λ (k : ℕ). term_of (byte B k) ∈ args_at B (i + 1) w) (next v)
      (term_in (i + 1) w v (omega arith) (λ x h e. f (suc x) (omega arith) (ap (byte B) (sym (next x)) ∙ e)))))
    where
      next : (x : ℕ) → i + 1 + x ≡ i + suc x
      next x = omega arith

  -- a byte that is allowed in a used place is not 255
  used_byte : constants B ≤ constants_range.most → (b : ℕ) → T (used_allowed (variables B) (constants B) b) → b ≡ 255 → ⊥
  used_byte c b t e = go (or_cases (ltb b (variables B)) (leb 128 b && ltb b (128 + constants B)) t)
    where
      go : T (ltb b (variables B)) ⊎ T (leb 128 b && ltb b (128 + constants B)) → ⊥
      go (inl h) = let l : b < variables B = ltb→lt _ _ h in omega (arith, (form_known B).few_variables)
      go (inr h) =
          let m : b < 128 + constants B = ltb→lt _ _ (snd_of (leb 128 b) (ltb b (128 + constants B)) h) in
          omega arith

  -- a variable's byte
  pub variable_in : constants B ≤ constants_range.most → {i u : ℕ} → UsedRight B i u → (w : ℕ) → w < atom_places B
      → byte B (i + 1 + w) < 128 → var (byte B (i + 1 + w)) ∈ (atom_at (holding (atom_places B)) B i).args
  variable_in c {i} {u} a w l h = go (le_or_lt u w)
    where
      go : (u ≤ w) ⊎ (w < u) → var (byte B (i + 1 + w)) ∈ (atom_at (holding (atom_places B)) B i).args
      go (inl m) = let e = unused_place B a w m l in absurd (omega arith)
      go (inr m) =
          subst (λ (ts : List Term). var (byte B (i + 1 + w)) ∈ ts) (sym (args_at_lem (holding (atom_places B)) B i))
          (subst (λ (t : Term). t ∈ args_at B (i + 1) (atom_places B)) (term_var _ h)
          (term_in (i + 1) (atom_places B) w l (λ x n. used_byte c _ (used_place B a x (omega arith)))))

  -- a variable among the terms
  pub variable_out : (i n : ℕ) → var n ∈ (atom_at (holding (atom_places B)) B i).args
      → ((w : ℕ) → w < atom_places B → byte B (i + 1 + w) ≡ n → byte B (i + 1 + w) < 128 → ⊥) → ⊥
  variable_out i n m f =
      atom_each (holding (atom_places B)) B (λ t. t ≡ var n → ⊥) i
      (λ w h g e. is (byte B (i + 1 + w)) (le_or_lt 128 _) e (f w h)) (var n) m refl
    where
      is : (x : ℕ) → (128 ≤ x) ⊎ (x < 128) → term_of x ≡ var n → (x ≡ n → x < 128 → ⊥) → ⊥
      is x (inl h) e g = var≢con (sym e ∙ term_con x h)
      is x (inr h) e g = g (var_inj (sym (term_var x h) ∙ e)) h
