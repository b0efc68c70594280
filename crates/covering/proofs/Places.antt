-- Atoms place by place: bytes are a sound atom, and sound atoms, from what stands at each place; how many places an atom
-- uses; what holds of each of its terms, and of each of n atoms. Assumes nothing.
use mathlib.Core.Path.{◌≡◌, refl, sym, ◌∙◌, ap, subst}
use mathlib.Core.Bool.{Bool, not, true, false, cond, ◌&&◌}
use mathlib.Core.Logic.{◌⊎◌, inl, inr}
use mathlib.Core.List.Memᴰ
use mathlib.Core.List.{List, [], ◌∷◌, ◌++◌, map}
use Prim.Native.Nat.{ℕ, zero, suc, ◌+◌, ◌*◌, ◌≤◌, ◌<◌, ◌-◌}
use native.Mathlib.Nat.{mul-suc, mul-zero}
use native.Mathlib.Omega.{arith}
use lib.Dec.{T, eqb, eqb→eq, ltb, leb, lt→ltb, le→leb}
use borrow.Author.Tests.{eq-eqb, ne_eqb}
use lib.ListN.{length, get_or}
use Rattle.covering.specs.Lists.{◌∈◌}
use Rattle.covering.specs.Term.{Term, Atom, Sub, terms, on_question, on_term, Question}
use Rattle.covering.specs.Record.{Layout, size, term_of, args_at, atom_at, atoms_at, question_of, is_term, unused}
use Rattle.covering.specs.Record.{used_first, is_atom, are_atoms, are_places, is_relation}
use Rattle.covering.proofs.Tests.{decide, clash, both, snd_of, or_left, or_right, cond_yes, fst_of}
use Rattle.covering.proofs.Bytes.{suc_sub_one}

-- a byte that is a term's
module _ (L : Layout) where
  pub is_variable : (b : ℕ) → b < L.variables → T (is_term L b)
  unfolding is_term
  is_variable b h = or_left (ltb b L.variables) (leb 128 b && ltb b (128 + L.constants)) (lt→ltb _ _ h)

  pub is_constant : (b : ℕ) → 128 ≤ b → b < 128 + L.constants → T (is_term L b)
  unfolding is_term
  is_constant b l h =
      or_right (ltb b L.variables) (leb 128 b && ltb b (128 + L.constants))
      (both (leb 128 b) (ltb b (128 + L.constants)) (le→leb _ _ l) (lt→ltb _ _ h))

-- what holds from the second place on
later : (P : ℕ → Type 0) (i v : ℕ) → P (i + suc v) → P (i + 1 + v)
later P i v p = subst P (omega arith) p

here : (P : ℕ → Type 0) (i : ℕ) → P (i + 0) → P i
here P i p = subst P (omega arith) p

module _ (B : List ℕ) where
  abbrev Empty : ℕ → Type 0
  Empty i = get_or B i 0 ≡ 255

  all_unused : (i w : ℕ) → ((v : ℕ) → v < w → Empty (i + v)) → T (unused B i w)
  unfolding unused
  all_unused i zero f = tt
  all_unused i (suc w) f =
      both (eqb (get_or B i 0) 255) (unused B (i + 1) w)
      (subst T (sym (eq-eqb (get_or B i 0) 255 (here Empty i (f 0 (omega arith))))) tt)
      (all_unused (i + 1) w (λ v l. later Empty i v (f (suc v) (omega arith))))

  -- the terms of an atom are those in its used places
  pub args_none : (i : ℕ) → args_at B i 0 ≡ []
  unfolding args_at
  args_none i = refl

  pub args_step : (i w : ℕ)
      → args_at B i (suc w) ≡ cond (eqb (get_or B i 0) 255) [] (term_of (get_or B i 0) ∷ args_at B (i + 1) w)
  unfolding args_at term_of
  args_step i w = refl

  args_end : (i w : ℕ) → Empty i → args_at B i (suc w) ≡ []
  args_end i w e =
      args_step i w
      ∙ ap (λ (b : Bool). cond b [] (term_of (get_or B i 0) ∷ args_at B (i + 1) w)) (eq-eqb (get_or B i 0) 255 e)

  args_more : (i w : ℕ) → (Empty i → ⊥) → args_at B i (suc w) ≡ term_of (get_or B i 0) ∷ args_at B (i + 1) w
  args_more i w f =
      args_step i w
      ∙ ap (λ (b : Bool). cond b [] (term_of (get_or B i 0) ∷ args_at B (i + 1) w)) (ne_eqb (get_or B i 0) 255 f)

  -- what holds of the term in each place that is not 255 holds of each term
  args_each : (P : Term → Type 0) (i w : ℕ)
      → ((v : ℕ) → v < w → (Empty (i + v) → ⊥) → P (term_of (get_or B (i + v) 0)))
      → {t : Term} → t ∈ args_at B i w → P t
  args_each P i zero f {t} m = absurd (Memᴰ.not-nil (subst (λ (l : List Term). t ∈ l) (args_none i) m))
  args_each P i (suc w) f {t} m =
      go (decide (eqb (get_or B i 0) 255)) (λ n. args_each P (i + 1) w (λ v l g. shift v (f (suc v) (omega arith)) g) n)
    where
      shift : (v : ℕ) → ((Empty (i + suc v) → ⊥) → P (term_of (get_or B (i + suc v) 0)))
          → (Empty (i + 1 + v) → ⊥) → P (term_of (get_or B (i + 1 + v) 0))
      shift v h = later (λ (k : ℕ). (Empty k → ⊥) → P (term_of (get_or B k 0))) i v h

      cons : (Empty i → ⊥) → (t ≡ term_of (get_or B i 0)) ⊎ (t ∈ args_at B (i + 1) w)
          → (t ∈ args_at B (i + 1) w → P t) → P t
      cons g (inl e) below =
          subst P (sym e) (here (λ (k : ℕ). (Empty k → ⊥) → P (term_of (get_or B k 0))) i (f 0 (omega arith)) g)
      cons g (inr n) below = below n

      go : T (eqb (get_or B i 0) 255) ⊎ T (not (eqb (get_or B i 0) 255)) → (t ∈ args_at B (i + 1) w → P t) → P t
      go (inl e) below =
          absurd (Memᴰ.not-nil (subst (λ (l : List Term). t ∈ l) (args_end i w (eqb→eq _ _ e)) m))
      go (inr e) below =
          let g : Empty i → ⊥ = λ h. clash (eqb (get_or B i 0) 255) (subst T (sym (eq-eqb (get_or B i 0) 255 h)) tt) e in
          cons g (Memᴰ.cases_cons (subst (λ (l : List Term). t ∈ l) (args_more i w g) m)) below

  args_length : (i u w : ℕ) → u ≤ w → ((v : ℕ) → v < u → Empty (i + v) → ⊥)
      → ((v : ℕ) → u ≤ v → v < w → Empty (i + v)) → length (args_at B i w) ≡ u
  args_length i zero zero l f g = ap length (args_none i)
  args_length i (suc u) zero l f g = absurd (omega arith)
  args_length i zero (suc w) l f g = ap length (args_end i w (here Empty i (g 0 (omega arith) (omega arith))))
  args_length i (suc u) (suc w) l f g =
      ap length (args_more i w (here (λ (k : ℕ). Empty k → ⊥) i (f 0 (omega arith))))
      ∙ ap suc
      (args_length (i + 1) u w (omega arith)
      (λ v h. later (λ (k : ℕ). Empty k → ⊥) i v (f (suc v) (omega arith)))
      (λ v h m. later Empty i v (g (suc v) (omega arith) (omega arith))))

module _ (L : Layout) (B : List ℕ) where
  abbrev Full : ℕ → Type 0
  Full i = T (is_term L (get_or B i 0))

  unused_used : (i w : ℕ) → T (unused B i w) → T (used_first L B i w)
  unfolding unused used_first
  unused_used i zero t = tt
  unused_used i (suc w) t =
      go (is_term L (get_or B i 0)) (unused_used (i + 1) w (snd_of (eqb (get_or B i 0) 255) (unused B (i + 1) w) t))
    where
      go : (b : Bool) → T (used_first L B (i + 1) w)
          → T (cond b (used_first L B (i + 1) w) (eqb (get_or B i 0) 255 && unused B (i + 1) w))
      go true s = s
      go false s = t

  used_more : (i w : ℕ) → Full i → T (used_first L B (i + 1) w) → T (used_first L B i (suc w))
  unfolding used_first unused
  used_more i w t s = subst T (sym (cond_yes (is_term L (get_or B i 0)) _ _ t)) s

  -- u places used, the rest 255
  used_first_lem : (i u w : ℕ) → u ≤ w → ((v : ℕ) → v < u → Full (i + v))
      → ((v : ℕ) → u ≤ v → v < w → Empty B (i + v)) → T (used_first L B i w)
  used_first_lem i zero w l f g = unused_used i w (all_unused B i w (λ v h. g v (omega arith) h))
  used_first_lem i (suc u) zero l f g = absurd (omega arith)
  used_first_lem i (suc u) (suc w) l f g =
      used_more i w (here Full i (f 0 (omega arith)))
      (used_first_lem (i + 1) u w (omega arith)
      (λ v h. later Full i v (f (suc v) (omega arith)))
      (λ v h m. later (Empty B) i v (g (suc v) (omega arith) (omega arith))))

  pub is_atom_lem : (i u : ℕ) → T (is_relation L (get_or B i 0)) → 1 ≤ u → u ≤ L.places
      → ((v : ℕ) → v < u → Full (i + 1 + v)) → ((v : ℕ) → u ≤ v → v < L.places → Empty B (i + 1 + v))
      → T (is_atom L B i)
  unfolding is_atom are_places
  is_atom_lem i u r l m f g =
      both (is_relation L (get_or B i 0)) (is_term L (get_or B (i + 1) 0) && used_first L B (i + 1) L.places) r
      (both (is_term L (get_or B (i + 1) 0)) (used_first L B (i + 1) L.places) (here Full (i + 1) (f 0 (omega arith)))
      (used_first_lem (i + 1) u L.places m f g))

  pub are_atoms_lem : (i n : ℕ) → ((j : ℕ) → j < n → T (is_atom L B (i + size L * j))) → T (are_atoms L B i n)
  unfolding are_atoms
  are_atoms_lem i zero f = tt
  are_atoms_lem i (suc n) f =
      both (is_atom L B i) (are_atoms L B (i + size L) n)
      (subst at (omega (arith, mul-zero (size L))) (f 0 (omega arith)))
      (are_atoms_lem (i + size L) n (λ j l. subst at (next j) (f (suc j) (omega arith))))
    where
      at : ℕ → Type 0
      at k = T (is_atom L B k)

      next : (j : ℕ) → i + size L * suc j ≡ i + size L + size L * j
      next j = omega (arith, mul-suc (size L) j)

-- the number of terms of an atom with u places used
pub atom_args : (L : Layout) (B : List ℕ) (i u : ℕ) → u ≤ L.places
    → ((v : ℕ) → v < u → get_or B (i + 1 + v) 0 ≡ 255 → ⊥)
    → ((v : ℕ) → u ≤ v → v < L.places → get_or B (i + 1 + v) 0 ≡ 255) → length (atom_at L B i).args ≡ u
unfolding atom_at
atom_args L B i u l f g = args_length B (i + 1) u L.places l f g

-- what holds of the term in each used place holds of each term of the atom
pub atom_each : (L : Layout) (B : List ℕ) (P : Term → Type 0) (i : ℕ)
    → ((v : ℕ) → v < L.places → (get_or B (i + 1 + v) 0 ≡ 255 → ⊥) → P (term_of (get_or B (i + 1 + v) 0)))
    → (t : Term) → t ∈ (atom_at L B i).args → P t
unfolding atom_at
atom_each L B P i f t m = args_each B P (i + 1) L.places f m

-- where an atom's relation and its terms stand
pub relation_at : (L : Layout) (B : List ℕ) (i : ℕ) → (atom_at L B i).rel ≡ get_or B i 0
unfolding atom_at
relation_at L B i = refl

pub args_at_lem : (L : Layout) (B : List ℕ) (i : ℕ) → (atom_at L B i).args ≡ args_at B (i + 1) L.places
unfolding atom_at
args_at_lem L B i = refl

-- each of n atoms from i on stands where it is expected
pub atoms_each : (L : Layout) (B : List ℕ) (P : Atom → Type 0) (i n : ℕ)
    → ((j : ℕ) → j < n → P (atom_at L B (i + size L * j))) → (a : Atom) → a ∈ atoms_at L B i n → P a
unfolding atoms_at
atoms_each L B P i zero f a m = absurd (Memᴰ.not-nil m)
atoms_each L B P i (suc n) f a m = go (Memᴰ.cases_cons m) (λ r. atoms_each L B P (i + size L) n rest a r)
  where
    rest : (j : ℕ) → j < n → P (atom_at L B (i + size L + size L * j))
    rest j l =
        subst (λ (k : ℕ). P (atom_at L B k)) (omega (arith, mul-suc (size L) j)) (f (suc j) (omega arith))

    go : (a ≡ atom_at L B i) ⊎ (a ∈ atoms_at L B (i + size L) n) → (a ∈ atoms_at L B (i + size L) n → P a) → P a
    go (inl e) below =
        subst P (sym e)
        (subst (λ (k : ℕ). P (atom_at L B k)) (omega (arith, mul-zero (size L))) (f 0 (omega arith)))
    go (inr r) below = below r

-- the question of a record with n atoms
pub question_at_lem : (L : Layout) (R : List ℕ) {n : ℕ} → get_or R 0 0 ≡ n → question_of L R ≡ atoms_at L R 1 n
unfolding question_of
question_at_lem L R e = ap (atoms_at L R 1) e

-- n atoms, the first of them taken
module _ (L : Layout) (B : List ℕ) (i : ℕ) where
  pub atoms_none : (n : ℕ) → n ≡ 0 → atoms_at L B i n ≡ []
  unfolding atoms_at
  atoms_none n e = rw (e, atoms_at)

  pub atoms_step : (n : ℕ) → atoms_at L B i (suc n) ≡ atom_at L B i ∷ atoms_at L B (i + size L) n
  unfolding atoms_at
  atoms_step n = refl

  pub atoms_more : (n : ℕ) → 0 < n → atoms_at L B i n ≡ atom_at L B i ∷ atoms_at L B (i + size L) (n - 1)
  unfolding atoms_at
  atoms_more zero h = elim h [ ]
  atoms_more (suc n) h = rw suc_sub_one

  pub sound_more : (n : ℕ) → 0 < n → T (are_atoms L B i n) → T (is_atom L B i) × T (are_atoms L B (i + size L) (n - 1))
  unfolding are_atoms
  sound_more zero h t = elim h [ ]
  sound_more (suc n) h t = (
    fst_of (is_atom L B i) (are_atoms L B (i + size L) n) t,
    rw suc_sub_one (snd_of (is_atom L B i) (are_atoms L B (i + size L) n) t),
  )

-- the terms of n atoms, those of the first of them taken; and the same once s sent them on
module _ (L : Layout) (B : List ℕ) (i n : ℕ) (h : 0 < n) where
  pub terms_first : terms (atoms_at L B i n) ≡ args_at B (i + 1) L.places ++ terms (atoms_at L B (i + size L) (n - 1))
  terms_first =
      ap terms (atoms_more L B i n h) ∙ ap (λ (ts : List Term). ts ++ terms (atoms_at L B (i + size L) (n - 1))) (args_at_lem L B i)

  pub terms_sent : (s : Sub) → terms (on_question s (atoms_at L B i n))
      ≡ map (on_term s) (args_at B (i + 1) L.places) ++ terms (on_question s (atoms_at L B (i + size L) (n - 1)))
  terms_sent s =
      ap (λ (A : Question). terms (on_question s A)) (atoms_more L B i n h)
      ∙ ap (λ (ts : List Term). map (on_term s) ts ++ terms (on_question s (atoms_at L B (i + size L) (n - 1))))
      (args_at_lem L B i)
