-- A sound record's question fits a record, and so does its form: a form has no more variables than places, and its
-- variables are the numbers below. Assumes nothing.
use mathlib.Core.Path.{◌≡◌, refl, sym, subst}
use mathlib.Core.Bool.{Bool, true, false, cond, not, ◌&&◌}
use mathlib.Core.Logic.{◌⊎◌, inl, inr}
use mathlib.Core.List.Memᴰ
use mathlib.Core.List.{List, [], ◌∷◌}
use Prim.Native.Nat.{ℕ, zero, suc, ◌+◌, ◌*◌, ◌≤◌, ◌<◌}
use native.Mathlib.Nat.{mul-le-mul_right}
use native.Mathlib.Omega.{arith}
use borrow.Author.Tests.{ne_eqb}
use lib.Dec.{T, eqb, ltb, leb, ltb→lt, leb→le, eqb_refl}
use lib.ListN.{length, get_or, length-map}
use Rattle.covering.specs.Lists.{◌∈◌}
use Rattle.covering.specs.Term.{Term, var, con, Atom, Question, on_term, on_atom, terms}
use Rattle.covering.specs.Form.{dedup, firsts, index, numbering, renumber, form}
use Rattle.covering.specs.Record.{Layout, size, term_of, args_at, atom_at, atoms_at, question_of, is_term, unused}
use Rattle.covering.specs.Record.{used_first, is_atom, are_atoms, TermFits, AtomFits, Fits, SoundRecord, is_relation}
use Rattle.covering.proofs.Tests.{decide, clash, cond_yes, cond_no, fst_of, snd_of, or_cases, true→T, false→no}
use Rattle.covering.proofs.Terms.{terms_in}
use Rattle.covering.proofs.Form.{dedup_out, firsts_in}
use Rattle.covering.proofs.Bytes.{term_var, term_con, atom_used, atom_first}
use Rattle.covering.proofs.Lengths.{question_count}
use Rattle.covering.proofs.RoundTrip.{TellsApart}
use Rattle.covering.proofs.FormSizes.{firsts_few, terms_few, dedup_few}

module _ (L : Layout) (ap-L : TellsApart L) where
  term_fits : (b : ℕ) → T (is_term L b) → TermFits L (term_of b)
  unfolding is_term
  term_fits b t = go (or_cases (ltb b L.variables) (leb 128 b && ltb b (128 + L.constants)) t)
    where
      go : T (ltb b L.variables) ⊎ T (leb 128 b && ltb b (128 + L.constants)) → TermFits L (term_of b)
      go (inl h) =
          let lt = ltb→lt b L.variables h in
          rw (term_var b (omega (arith, ap-L.variables))) lt
      go (inr h) =
          let le = leb→le 128 b (fst_of (leb 128 b) _ h) in
          let lt = ltb→lt b (128 + L.constants) (snd_of (leb 128 b) _ h) in
          rw (term_con b le) (omega arith)

  -- a term's byte is not 255
  pub term_is_used : (b : ℕ) → T (is_term L b) → b ≡ 255 → ⊥
  unfolding term_of
  term_is_used b t e =
      let f : 127 < L.constants = term_fits 255 (subst (λ x. T (is_term L x)) e t) in
      omega (arith, ap-L.constants)

  module _ (B : List ℕ) where
    args_fit : (w i : ℕ) (t : Term) → T (used_first L B i w) → t ∈ args_at B i w → TermFits L t
    unfolding args_at used_first unused
    args_fit zero i t u m = absurd (Memᴰ.not-nil m)
    args_fit (suc w) i t u m = go (eqb b 255) refl (is_term L b) refl u m (λ v n. args_fit w (i + 1) t v n)
      where
        b : ℕ
        b = get_or B i 0

        go : (e : Bool) → eqb b 255 ≡ e → (q : Bool) → is_term L b ≡ q
            → T (cond q (used_first L B (i + 1) w) (eqb b 255 && unused B (i + 1) w))
            → t ∈ cond e [] (term_of b ∷ args_at B (i + 1) w)
            → (T (used_first L B (i + 1) w) → t ∈ args_at B (i + 1) w → TermFits L t) → TermFits L t
        go true p q r u m below = absurd (Memᴰ.not-nil m)
        go false p true r u m below = pick (Memᴰ.cases_cons m)
          where
            pick : (t ≡ term_of b) ⊎ (t ∈ args_at B (i + 1) w) → TermFits L t
            pick (inl e) = subst (TermFits L) (sym e) (term_fits b (true→T (is_term L b) r))
            pick (inr n) = below u n
        go false p false r u m below = absurd (false→no (eqb b 255) p (fst_of (eqb b 255) _ u))

    args_few : (w i : ℕ) → length (args_at B i w) ≤ w
    unfolding args_at
    args_few zero i = omega arith
    args_few (suc w) i = go (eqb (get_or B i 0) 255) (args_few w (i + 1))
      where
        go : (e : Bool) → length (args_at B (i + 1) w) ≤ w
            → length (cond e [] (term_of (get_or B i 0) ∷ args_at B (i + 1) w)) ≤ suc w
        go true h = omega arith
        go false h = omega arith

    args_some : (w i : ℕ) → 1 ≤ w → (get_or B i 0 ≡ 255 → ⊥) → 1 ≤ length (args_at B i w)
    unfolding args_at
    args_some zero i h used = absurd (omega arith)
    args_some (suc w) i h used = rw (ne_eqb (get_or B i 0) 255 used) (omega arith)

    module _ (some_place : 1 ≤ L.places) where
      pub atom_fits : (i : ℕ) → T (is_atom L B i) → AtomFits L (atom_at L B i)
      unfolding is_atom atom_at
      atom_fits i t =
          record {
            relation = fst_of (is_relation L (get_or B i 0)) _ t;
            some_place =
                args_some L.places (i + 1) some_place (term_is_used (get_or B (i + 1) 0) (atom_first L B i t));
            places = args_few L.places (i + 1);
            terms = λ u m. args_fit L.places (i + 1) u (atom_used L B i t) m;
          }

      pub atoms_fit : (n i : ℕ) (a : Atom) → T (are_atoms L B i n) → a ∈ atoms_at L B i n → AtomFits L a
      unfolding are_atoms atoms_at
      atoms_fit zero i a t m = absurd (Memᴰ.not-nil m)
      atoms_fit (suc n) i a t m = go (Memᴰ.cases_cons m) (λ u k. atoms_fit n (i + size L) a u k)
        where
          go : (a ≡ atom_at L B i) ⊎ (a ∈ atoms_at L B (i + size L) n)
              → (T (are_atoms L B (i + size L) n) → a ∈ atoms_at L B (i + size L) n → AtomFits L a) → AtomFits L a
          go (inl e) below = subst (AtomFits L) (sym e) (atom_fits i (fst_of (is_atom L B i) _ t))
          go (inr k) below = below (snd_of (is_atom L B i) _ t) k

      -- the question of a sound record can be written
      pub sound_fits : SoundRecord L B → Fits L (question_of L B)
      unfolding question_of
      sound_fits s =
          let e = question_count L B in
          record {
            most = rw e s.most;
            each = λ a m. atoms_fit (get_or B 0 0) 1 a s.atoms m;
          }

-- equal atoms dropped
pub dedup_fits : (L : Layout) (A : Question) → Fits L A → Fits L (dedup A)
dedup_fits L A f =
    record {
      most = omega (arith, dedup_few A, f.most);
      each = λ a m. f.each a (dedup_out A a m);
    }

-- a variable's number is below the number of variables, and that at most the number of places
pub index_below : (ms : List ℕ) (n : ℕ) → n ∈ ms → index ms n < length ms
index_below [] n h = elim h [ ]
index_below (m ∷ ms) n h = go (decide (eqb m n)) (Memᴰ.cases_cons h) (λ u. index_below ms n u)
  where
    go : T (eqb m n) ⊎ T (not (eqb m n)) → (n ≡ m) ⊎ (n ∈ ms) → (n ∈ ms → index ms n < length ms)
        → index (m ∷ ms) n < suc (length ms)
    go (inl t) u below = rw (cond_yes (eqb m n) 0 (suc (index ms n)) t) (omega arith)
    go (inr t) (inl e) below =
        absurd (clash (eqb m n) (subst (λ (x : ℕ). T (eqb m x)) (sym e) (eqb_refl m)) t)
    go (inr t) (inr u) below =
        rw (cond_no (eqb m n) 0 (suc (index ms n)) t) (let h = below u in omega arith)

module _ (L : Layout) (A : Question) (f : Fits L A) where
  pub variables_few : length (firsts (terms A)) ≤ length A * L.places
  variables_few = omega (arith, firsts_few (terms A), terms_few L.places A (λ a m. (f.each a m).places))

  module _ (room : L.atoms * L.places ≤ L.variables) where
    numbered_fits : (a : Atom) → a ∈ A → AtomFits L (on_atom (numbering A) a)
    numbered_fits a m =
        record {
          relation = (f.each a m).relation;
          some_place = rw (length-map a.args (on_term (numbering A))) (f.each a m).some_place;
          places = rw (length-map a.args (on_term (numbering A))) (f.each a m).places;
          terms = λ t k. go (Memᴰ.of_map (on_term (numbering A)) a.args k);
        }
      where
        term : (u : Term) → u ∈ a.args → TermFits L (on_term (numbering A) u)
        term (var n) k =
            let i = index_below (firsts (terms A)) n (firsts_in (terms A) n (terms_in A m k)) in
            omega (arith, variables_few, few)
          where
            few : length A * L.places ≤ L.atoms * L.places
            few = mul-le-mul_right L.places f.most
        term (con c) k = (f.each a m).terms (con c) k

        go : {t : Term} → (u : Term) × (u ∈ a.args) × (on_term (numbering A) u ≡ t) → TermFits L t
        go r = subst (TermFits L) r.2 (term r.0 r.1)

    pub renumber_fits : Fits L (renumber A)
    renumber_fits =
        record {
          most = rw (length-map A (on_atom (numbering A))) f.most;
          each = λ b m. go (Memᴰ.of_map (on_atom (numbering A)) A m);
        }
      where
        go : {b : Atom} → (a : Atom) × (a ∈ A) × (on_atom (numbering A) a ≡ b) → AtomFits L b
        go r = subst (AtomFits L) r.2 (numbered_fits r.0 r.1)

-- a form can be written where there are as many variables as there may be places
pub form_fits : (L : Layout) (A : Question) → L.atoms * L.places ≤ L.variables → Fits L A → Fits L (form A)
unfolding form
form_fits L A room f = renumber_fits L (dedup A) (dedup_fits L A f) room
