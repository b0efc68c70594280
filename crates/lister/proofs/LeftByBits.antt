-- The atoms that a prefix leaves: what one atom more, left or sent, makes of them, and that they are sound.
-- Assumes nothing.
use borrow.Author.Tests.{eq-eqb, ne_eqb}
use mathlib.Core.Path.{◌≡◌, refl, sym, ◌∙◌, ap, subst}
use mathlib.Core.Bool.{Bool, true, false, cond}
use mathlib.Core.List.{List, [], ◌∷◌, ◌++◌}
use Prim.Native.Nat.{ℕ, zero, suc, ◌+◌, ◌*◌, ◌-◌, ◌/◌, ◌%◌, ◌≤◌, ◌<◌}
use native.Mathlib.Nat.{mul-add-div_right, mul-add-mod_self_right, mul-div_cancel, mul-mod_left}
use native.Mathlib.Omega.{arith}
use lib.Dec.{eqb}
use lib.ListN.{length, get_or}
use Rattle.covering.specs.Term.{Question}
use Rattle.covering.specs.Record.{stored, atom_at}
use Rattle.covering.specs.Buffer.{AtomIn, AtomsIn}
use Rattle.unify.specs.InBytes.{in_book}
use Rattle.lister.specs.Leaving.{left_by}
use Rattle.lister.specs.Listing.{QuestionIn, LeftIn}
use Rattle.lister.proofs.RewritingBytes.{rest_in, first_fits, first_atom_in}
use Rattle.lister.proofs.LeftAtoms.{left_none, left_put, one_more}

-- the atoms after the first e
rest_after : (B : List ℕ) (i n e : ℕ) → e ≤ n → AtomsIn in_book B i n → AtomsIn in_book B (i + e * 7) (n - e)
rest_after B i n zero h a =
    let there : i ≡ i + zero * 7 = omega arith in
    let all : n ≡ n - zero = omega arith in
    subst (λ x. AtomsIn in_book B x (n - zero)) there (subst (AtomsIn in_book B i) all a)
rest_after B i n (suc e) h a =
    let there : i + 7 + e * 7 ≡ i + suc e * 7 = omega arith in
    let all : n - 1 - e ≡ n - suc e = omega arith in
    subst (λ x. AtomsIn in_book B x (n - suc e)) there
    (subst (AtomsIn in_book B (i + 7 + e * 7)) all
    (rest_after B (i + 7) (n - 1) e (omega arith) (rest_in B i n a (omega arith))))

-- A with the atom after the first n put to it
abbrev pub with_atom : List ℕ → ℕ → Question → Question
with_atom Q n A = A ++ atom_at stored Q (1 + n * 7) ∷ []

less_one : (n : ℕ) → n ≡ suc n - 1
less_one n = omega arith

add_less : (n : ℕ) → n + 1 - 1 ≡ n
add_less n = omega arith

module _ (Q : List ℕ) where
  pub none_left : (n m : ℕ) → n ≡ 0 → left_by Q n m ≡ []
  unfolding left_by
  none_left n m e = rw e refl

  -- the last of n atoms is sent, or left
  pub last_sent : (n m : ℕ) → 0 < n → m % 2 ≡ 1 → left_by Q n m ≡ left_by Q (n - 1) (m / 2)
  unfolding left_by
  last_sent zero m h e = absurd (omega arith)
  last_sent (suc n) m h e =
      ap (λ b. cond b (left_by Q n (m / 2)) (with_atom Q n (left_by Q n (m / 2)))) (eq-eqb (m % 2) 1 e)
      ∙ ap (λ k. left_by Q k (m / 2)) (less_one n)

  pub last_left : (n m : ℕ) → 0 < n → (m % 2 ≡ 1 → ⊥)
      → left_by Q n m ≡ with_atom Q (n - 1) (left_by Q (n - 1) (m / 2))
  unfolding left_by
  last_left zero m h e = absurd (omega arith)
  last_left (suc n) m h e =
      ap (λ b. cond b (left_by Q n (m / 2)) (with_atom Q n (left_by Q n (m / 2)))) (ne_eqb (m % 2) 1 e)
      ∙ ap (λ k. with_atom Q k (left_by Q k (m / 2))) (less_one n)

  -- one atom more is sent, or left
  pub sent_more : (n m : ℕ) → left_by Q (n + 1) (m * 2 + 1) ≡ left_by Q n m
  sent_more n m =
      last_sent (n + 1) (m * 2 + 1) (omega arith) (mul-add-mod_self_right m 2 1)
      ∙ ap (λ k. left_by Q k ((m * 2 + 1) / 2)) (add_less n)
      ∙ ap (left_by Q n) half
    where
      half : (m * 2 + 1) / 2 ≡ m
      half = let e = mul-add-div_right {m = 2} (omega arith) m 1 in e ∙ omega arith

  pub left_more : (n m : ℕ) → left_by Q (n + 1) (m * 2) ≡ with_atom Q n (left_by Q n m)
  left_more n m =
      last_left (n + 1) (m * 2) (omega arith)
      (λ e. let z : ◌≡◌ {A = ℕ} 0 1 = sym (mul-mod_left m 2) ∙ e in absurd (omega arith))
      ∙ ap (λ k. with_atom Q k (left_by Q k (m * 2 / 2))) (add_less n)
      ∙ ap (λ x. with_atom Q n (left_by Q n x)) (mul-div_cancel m {n = 2} (omega arith))

  module _ (q : QuestionIn Q) where
    from_there : (n : ℕ) → n < get_or Q 0 0 → AtomsIn in_book Q (1 + n * 7) (get_or Q 0 0 - n)
    from_there n h = rest_after Q 1 (get_or Q 0 0) n (omega arith) q.atoms

    -- they are sound, and no more than there are
    pub left_sound : (n m : ℕ) → n ≤ get_or Q 0 0 → LeftIn (left_by Q n m) × (length (left_by Q n m) ≤ n)
    unfolding left_by
    left_sound zero m h = (left_none, omega arith)
    left_sound (suc n) m h = go (eqb (m % 2) 1) (left_sound n (m / 2) (omega arith))
      where
        A : Question
        A = left_by Q n (m / 2)

        go : (b : Bool) → LeftIn A × (length A ≤ n)
            → LeftIn (cond b A (with_atom Q n A)) × (length (cond b A (with_atom Q n A)) ≤ suc n)
        go true l = (l.0, omega (arith, l.1))
        go false l =
            let a = atom_at stored Q (1 + n * 7) in
            let fits = first_fits Q (1 + n * 7) (get_or Q 0 0 - n) (from_there n (omega arith)) (omega arith) in
            (left_put A a l.0 fits, omega (arith, l.1, one_more A a))

    -- there is room for the next atom
    pub room_for : (n m : ℕ) → n < get_or Q 0 0 → (length (left_by Q n m) < 12) × AtomIn stored Q (1 + n * 7)
    room_for n m h =
        let l = left_sound n m (omega arith) in (
          omega (arith, l.1, q.few),
          first_atom_in Q (1 + n * 7) (get_or Q 0 0 - n) (from_there n h) (omega arith),
        )
