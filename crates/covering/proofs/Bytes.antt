-- Laws of the record's bytes, read one place at a time. Assumes nothing.
use Prim.Native.Nat.{zero}
use mathlib.Core.Path.{◌≡◌, sym, ◌∙◌, ap, ap₂, subst}
use mathlib.Core.Bool.{Bool, true, false, cond, ◌&&◌, ◌||◌}
use mathlib.Core.Logic.{◌⊎◌, inl, inr}
use mathlib.Core.List.{List, [], ◌∷◌}
use Prim.Native.Nat.{ℕ, suc, ◌+◌, ◌*◌, ◌-◌, ◌≤◌, ◌<◌}
use native.Mathlib.Omega.{arith}
use borrow.Author.Tests.{ltb-true, ltb-false, eqb-true, eqb-false, lt-ltb, le-ltb, eq-eqb, ne_eqb, le-leb, lt-leb}
use lib.Dec.{T, eqb, ltb, leb, ltb→lt, leb→le, eqb→eq}
use lib.ListN.{length, get_or, get_or-eq_default}
use Rattle.covering.specs.Term.{var, con, eq_term}
use Rattle.covering.specs.Record.{Layout, size, term_of, args_at, is_term, unused, used_first, is_atom, are_atoms}
use Rattle.covering.specs.Record.{are_places, are_answer_places, is_relation, has_answer, answers, is_record, width}
use Rattle.covering.specs.Record.{desk, is_width, is_desk_record, old_places, new_places}
use Rattle.covering.proofs.Tests.{either, fst_of, snd_of, or_cases, true→T}
use Rattle.covering.specs.Asking.{answer_relation}

pub suc_sub_one : (n : ℕ) → suc n - 1 ≡ n
suc_sub_one n = omega arith

-- a byte as a term
pub term_var : (b : ℕ) → b < 128 → term_of b ≡ var b
unfolding term_of
term_var b h = rw (lt-ltb b 128 h)

pub term_con : (b : ℕ) → 128 ≤ b → term_of b ≡ con (b - 128)
unfolding term_of
term_con b h = rw (le-ltb b 128 h)

-- two bytes are the same term only where they are the same byte
pub term_same : (a b : ℕ) → eq_term (term_of a) (term_of b) ≡ eqb a b
unfolding term_of
term_same a b = go (either (ltb a 128)) (either (ltb b 128))
  where
    go : (ltb a 128 ≡ true) ⊎ (ltb a 128 ≡ false) → (ltb b 128 ≡ true) ⊎ (ltb b 128 ≡ false)
        → eq_term (term_of a) (term_of b) ≡ eqb a b
    go (inl p) (inl q) = rw (p, q)
    go (inl p) (inr q) =
        let lo = ltb-true a 128 p in
        let hi = ltb-false b 128 q in
        rw (p, q) (sym (ne_eqb a b (λ e. omega arith)))
    go (inr p) (inl q) =
        let hi = ltb-false a 128 p in
        let lo = ltb-true b 128 q in
        rw (p, q) (sym (ne_eqb a b (λ e. omega arith)))
    go (inr p) (inr q) = rw (p, q) (shift (ltb-false a 128 p) (ltb-false b 128 q) (either (eqb a b)))
      where
        shift : 128 ≤ a → 128 ≤ b → (eqb a b ≡ true) ⊎ (eqb a b ≡ false) → eqb (a - 128) (b - 128) ≡ eqb a b
        shift x y (inl e) = eq-eqb (a - 128) (b - 128) (ap (λ n. n - 128) (eqb-true a b e)) ∙ sym e
        shift x y (inr e) = ne_eqb (a - 128) (b - 128) (λ f. eqb-false a b e (omega arith)) ∙ sym e

-- the places of an atom, of which j of w are passed
module _ (B : List ℕ) (i j w : ℕ) (lt : j < w) where
  after : w - j ≡ suc (w - (j + 1))
  after = omega arith

  onward : i + j + 1 ≡ i + (j + 1)
  onward = omega arith

  pub args_more : (get_or B (i + j) 0 ≡ 255 → ⊥)
      → args_at B (i + j) (w - j) ≡ term_of (get_or B (i + j) 0) ∷ args_at B (i + (j + 1)) (w - (j + 1))
  unfolding args_at
  args_more used = rw (after, args_at, ne_eqb (get_or B (i + j) 0) 255 used, onward)

  pub args_end : get_or B (i + j) 0 ≡ 255 → args_at B (i + j) (w - j) ≡ []
  unfolding args_at
  args_end free = rw (after, args_at, eq-eqb (get_or B (i + j) 0) 255 free)

  -- the test of the places, one at a time
  pub unused_passes : get_or B (i + j) 0 ≡ 255 → unused B (i + j) (w - j) ≡ unused B (i + (j + 1)) (w - (j + 1))
  unfolding unused
  unused_passes free = rw (after, unused, eq-eqb (get_or B (i + j) 0) 255 free, onward)

  pub unused_fails : (get_or B (i + j) 0 ≡ 255 → ⊥) → unused B (i + j) (w - j) ≡ false
  unfolding unused
  unused_fails used = rw (after, unused, ne_eqb (get_or B (i + j) 0) 255 used)

  pub used_passes : (L : Layout) → is_term L (get_or B (i + j) 0) ≡ true
      → used_first L B (i + j) (w - j) ≡ used_first L B (i + (j + 1)) (w - (j + 1))
  unfolding used_first
  used_passes L e = rw (after, used_first, e, onward)

  pub used_stops : (L : Layout) → is_term L (get_or B (i + j) 0) ≡ false
      → used_first L B (i + j) (w - j) ≡ unused B (i + j) (w - j)
  unfolding used_first
  used_stops L e = rw (after, used_first, e)

  -- a used place of a sound atom holds a term, and the places after it are sound
  pub used_more : (L : Layout) → T (used_first L B (i + j) (w - j)) → (get_or B (i + j) 0 ≡ 255 → ⊥)
      → T (is_term L (get_or B (i + j) 0)) × T (used_first L B (i + (j + 1)) (w - (j + 1)))
  used_more L t used = go (either (is_term L (get_or B (i + j) 0)))
    where
      go : (is_term L (get_or B (i + j) 0) ≡ true) ⊎ (is_term L (get_or B (i + j) 0) ≡ false)
          → T (is_term L (get_or B (i + j) 0)) × T (used_first L B (i + (j + 1)) (w - (j + 1)))
      go (inl e) = (true→T _ e, subst T (used_passes L e) t)
      go (inr e) = absurd (subst T (used_stops L e ∙ unused_fails used) t)

-- no place is left
pub unused_none : (B : List ℕ) (i w : ℕ) → w ≡ 0 → unused B i w ≡ true
unfolding unused
unused_none B i w e = rw (e, unused)

pub used_none : (L : Layout) (B : List ℕ) (i w : ℕ) → w ≡ 0 → used_first L B i w ≡ true
unfolding used_first
used_none L B i w e = rw (e, used_first)

-- a term's byte is a variable's or a constant's
pub term_constant : (L : Layout) (b : ℕ) → T (is_term L b) → L.variables ≤ b → 128 ≤ b
unfolding is_term
term_constant L b t le = go (or_cases (ltb b L.variables) (leb 128 b && ltb b (128 + L.constants)) t)
  where
    go : T (ltb b L.variables) ⊎ T (leb 128 b && ltb b (128 + L.constants)) → 128 ≤ b
    go (inl h) = let x = ltb→lt b L.variables h in omega arith
    go (inr h) = leb→le 128 b (fst_of (leb 128 b) (ltb b (128 + L.constants)) h)

-- a sound atom's places are sound
pub atom_first : (L : Layout) (B : List ℕ) (i : ℕ) → T (is_atom L B i) → T (is_term L (get_or B (i + 1) 0))
unfolding is_atom are_places
atom_first L B i t =
    let places = used_first L B (i + 1) L.places in
    let first = is_term L (get_or B (i + 1) 0) in
    fst_of first places (snd_of (is_relation L (get_or B i 0)) (first && places) t)

pub atom_used : (L : Layout) (B : List ℕ) (i : ℕ) → T (is_atom L B i) → T (used_first L B (i + 1) L.places)
unfolding is_atom are_places
atom_used L B i t =
    snd_of (is_term L (get_or B (i + 1) 0)) (used_first L B (i + 1) L.places) (snd_of (is_relation L (get_or B i 0)) _ t)

-- the test of a relation
module _ (L : Layout) (b : ℕ) where
  pub relation_in : b < L.relations → is_relation L b ≡ true
  unfolding is_relation
  relation_in h = rw (lt-ltb b L.relations h)

  pub relation_out : L.answers ≡ false → L.relations ≤ b → is_relation L b ≡ false
  unfolding is_relation
  relation_out e h = rw (le-ltb b L.relations h, e)

-- a relation of the layout, or an answer record
pub relation_cases : (L : Layout) (b : ℕ) → T (is_relation L b) → (b < L.relations) ⊎ (b ≡ answer_relation)
unfolding is_relation
relation_cases L b t = go (or_cases (ltb b L.relations) (L.answers && eqb b answer_relation) t)
  where
    go : T (ltb b L.relations) ⊎ T (L.answers && eqb b answer_relation) → (b < L.relations) ⊎ (b ≡ answer_relation)
    go (inl h) = inl (ltb→lt b L.relations h)
    go (inr h) = inr (eqb→eq b answer_relation (snd_of L.answers _ h))

-- it knows of no other numbers of the layout
pub relation_like : (L M : Layout) (b : ℕ) → L.relations ≡ M.relations → L.answers ≡ M.answers
    → T (is_relation L b) → T (is_relation M b)
unfolding is_relation
relation_like L M b e f t =
    subst T (ap₂ (λ (n : ℕ) (x : Bool). ltb b n || (x && eqb b answer_relation)) e f) t

-- the test of an atom's places
module _ (L : Layout) (B : List ℕ) (i : ℕ) where
  pub places_empty : is_term L (get_or B i 0) ≡ false → are_places L B i ≡ false
  unfolding are_places
  places_empty e = rw e

  pub places_used : is_term L (get_or B i 0) ≡ true → are_places L B i ≡ used_first L B i L.places
  unfolding are_places
  places_used e = rw e

-- the test of an atom and of atoms, one way at a time
module _ (L : Layout) (B : List ℕ) (i : ℕ) where
  pub atom_relation : is_relation L (get_or B i 0) ≡ false → is_atom L B i ≡ false
  unfolding is_atom
  atom_relation e = rw e

  pub atom_places_lem : is_relation L (get_or B i 0) ≡ true → is_atom L B i ≡ are_places L B (i + 1)
  unfolding is_atom
  atom_places_lem e = rw e

  pub are_none : (n : ℕ) → n ≡ 0 → are_atoms L B i n ≡ true
  unfolding are_atoms
  are_none n e = rw (e, are_atoms)

  pub are_fails : (n : ℕ) → 0 < n → is_atom L B i ≡ false → are_atoms L B i n ≡ false
  unfolding are_atoms
  are_fails zero h e = elim h [ ]
  are_fails (suc n) h e = rw e

  pub are_passes : (n : ℕ) → 0 < n → is_atom L B i ≡ true → are_atoms L B i n ≡ are_atoms L B (i + size L) (n - 1)
  unfolding are_atoms
  are_passes zero h e = elim h [ ]
  are_passes (suc n) h e = rw (e, suc_sub_one n)

-- the test of a record
module _ (L : Layout) (B : List ℕ) where
  pub record_many : L.atoms < get_or B 0 0 → is_record L B ≡ false
  unfolding is_record
  record_many m = rw (lt-leb (get_or B 0 0) L.atoms m)

  module _ (m : get_or B 0 0 ≤ L.atoms) where
    pub record_misfit : (length B ≡ width L (answers B + get_or B 0 0) → ⊥) → is_record L B ≡ false
    unfolding is_record
    record_misfit ne =
        rw (
          le-leb (get_or B 0 0) L.atoms m,
          ne_eqb (length B) (width L (answers B + get_or B 0 0)) ne,
        )

    pub record_fits : length B ≡ width L (answers B + get_or B 0 0)
        → is_record L B
        ≡ (cond (has_answer B) (are_answer_places L B 2) true && are_atoms L B (1 + answers B * size L) (get_or B 0 0))
    unfolding is_record
    record_fits e =
        rw (
          le-leb (get_or B 0 0) L.atoms m,
          eq-eqb (length B) (width L (answers B + get_or B 0 0)) e,
        )

  pub record_empty : length B ≡ 0 → is_record L B ≡ false
  record_empty e =
      let none = get_or-eq_default B 0 {n = 0} (omega arith) in
      record_misfit (omega (arith, none)) (λ f. omega (arith, f, e))

-- the width: four places or six
pub width_cases : (w : ℕ) → T (is_width w) → (w ≡ old_places) ⊎ (w ≡ new_places)
width_cases w t = go (or_cases (eqb w old_places) (eqb w new_places) t)
  where
    go : T (eqb w old_places) ⊎ T (eqb w new_places) → (w ≡ old_places) ⊎ (w ≡ new_places)
    go (inl h) = inl (eqb→eq w old_places h)
    go (inr h) = inr (eqb→eq w new_places h)

pub width_least : (w : ℕ) → T (is_width w) → old_places ≤ w
width_least w t = go (width_cases w t)
  where
    go : (w ≡ old_places) ⊎ (w ≡ new_places) → old_places ≤ w
    go (inl e) = omega arith
    go (inr e) = omega arith

pub width_most : (w : ℕ) → T (is_width w) → w ≤ new_places
width_most w t = go (width_cases w t)
  where
    go : (w ≡ old_places) ⊎ (w ≡ new_places) → w ≤ new_places
    go (inl e) = omega arith
    go (inr e) = omega arith

-- the desk's test
module _ (w : ℕ) (B : List ℕ) where
  pub desk_not_width : is_width w ≡ false → is_desk_record w B ≡ false
  unfolding is_desk_record
  desk_not_width e = rw e

  pub desk_is : is_width w ≡ true → is_desk_record w B ≡ is_record (desk w) B
  unfolding is_desk_record
  desk_is e = rw e

  pub desk_passed : T (is_desk_record w B) → T (is_width w) × T (is_record (desk w) B)
  unfolding is_desk_record
  desk_passed t = (fst_of (is_width w) _ t, snd_of (is_width w) _ t)

-- the test of an answer record's places: as an atom's, and after the fourth none
module _ (L : Layout) (B : List ℕ) (i : ℕ) where
  pub answer_places_are : T (are_answer_places L B i) → T (are_places L B i)
  unfolding are_answer_places
  answer_places_are t = fst_of (are_places L B i) _ t

-- how many answer records there are
module _ (B : List ℕ) where
  pub answers_none : (get_or B 1 0 ≡ answer_relation → ⊥) → answers B ≡ 0
  unfolding has_answer
  answers_none ne = rw (ne_eqb (get_or B 1 0) answer_relation ne)

  pub answers_one : get_or B 1 0 ≡ answer_relation → answers B ≡ 1
  unfolding has_answer
  answers_one e = rw (eq-eqb (get_or B 1 0) answer_relation e)

  pub not_answered : answers B ≡ 0 → has_answer B ≡ false
  not_answered e = go (either (has_answer B))
    where
      go : (has_answer B ≡ true) ⊎ (has_answer B ≡ false) → has_answer B ≡ false
      go (inl t) = let x : ◌≡◌ {A = ℕ} 1 0 = rw t at e in absurd (omega arith)
      go (inr f) = f

  pub is_answered : (answers B ≡ 0 → ⊥) → has_answer B ≡ true
  is_answered ne = go (either (has_answer B))
    where
      go : (has_answer B ≡ true) ⊎ (has_answer B ≡ false) → has_answer B ≡ true
      go (inl t) = t
      go (inr f) = absurd (ne (rw f))

  pub answers_few : answers B ≤ 1
  answers_few = go (either (has_answer B))
    where
      go : (has_answer B ≡ true) ⊎ (has_answer B ≡ false) → answers B ≤ 1
      go (inl t) = rw t (omega arith)
      go (inr f) = rw f (omega arith)

-- what a record that passed keeps to
pub record Passed (L : Layout) (B : List ℕ) : Type 0 where
  pub most : get_or B 0 0 ≤ L.atoms
  pub exact : length B ≡ width L (answers B + get_or B 0 0)
  pub places : T (cond (has_answer B) (are_answer_places L B 2) true)
  pub atoms : T (are_atoms L B (1 + answers B * size L) (get_or B 0 0))

pub record_passed : (L : Layout) (B : List ℕ) → T (is_record L B) → Passed L B
unfolding is_record
record_passed L B t =
    let n = get_or B 0 0 in
    let w = width L (answers B + n) in
    let first = cond (has_answer B) (are_answer_places L B 2) true in
    let rest = snd_of (leb n L.atoms) _ t in
    record {
      most = leb→le n L.atoms (fst_of (leb n L.atoms) _ t);
      exact = eqb→eq (length B) w (fst_of (eqb (length B) w) _ rest);
      places = fst_of first _ (snd_of (eqb (length B) w) _ rest);
      atoms = snd_of first _ (snd_of (eqb (length B) w) _ rest);
    }
