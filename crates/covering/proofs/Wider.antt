-- What keeps to a layout keeps to a wider one with the same places, and means the same in both; what fits fits where an
-- atom has more places. Assumes nothing.
use mathlib.Core.Path.{◌≡◌, refl, ◌∙◌, ap, ap₂, subst}
use mathlib.Core.Bool.{Bool, true, false, cond, ◌&&◌, ◌||◌}
use mathlib.Core.Logic.{◌⊎◌, inl, inr}
use mathlib.Core.List.{List, [], ◌∷◌, ◌++◌}
use Prim.Native.Nat.{ℕ, zero, suc, ◌+◌, ◌≤◌}
use native.Mathlib.Omega.{arith}
use lib.Dec.{T, eqb, ltb, leb, ltb→lt, lt→ltb, eqb→eq}
use lib.ListN.{length, get_or}
use Rattle.covering.specs.Lists.{gather}
use Rattle.covering.specs.Term.{Term, var, con, Atom, Question}
use Rattle.covering.specs.Asking.{answer_relation}
use Rattle.covering.specs.Record.{Layout, size, atom_at, atoms_at, is_term, unused, used_first, is_atom, are_atoms}
use Rattle.covering.specs.Record.{places_bytes, atom_bytes, record_bytes, TermFits, AtomFits, Fits, is_relation}
use Rattle.covering.specs.Record.{are_places, holding}
use Rattle.covering.proofs.Tests.{both, fst_of, snd_of, or_cases, or_left, or_right}
use Rattle.covering.proofs.Bytes.{relation_like}
use Rattle.covering.proofs.RoundTrip.{TellsApart}
use Rattle.covering.proofs.Fitting.{term_is_used}

pub record Wider (L M : Layout) : Type 0 where
  pub relations : L.relations ≤ M.relations
  pub answers : T L.answers → T M.answers
  pub places : L.places ≡ M.places
  pub variables : L.variables ≤ M.variables
  pub constants : L.constants ≤ M.constants

module _ (L M : Layout) (w : Wider L M) where
  pub same_size : size L ≡ size M
  same_size = ap (λ p. 1 + p) w.places

  pub atom_means : (B : List ℕ) (i : ℕ) → atom_at L B i ≡ atom_at M B i
  unfolding atom_at
  atom_means B i = rw w.places

  pub atoms_mean : (B : List ℕ) (i n : ℕ) → atoms_at L B i n ≡ atoms_at M B i n
  unfolding atoms_at
  atoms_mean B i zero = refl
  atoms_mean B i (suc n) =
      ap₂ ◌∷◌ (atom_means B i) (ap (λ s. atoms_at L B (i + s) n) same_size ∙ atoms_mean B (i + size M) n)

  -- and is written the same
  atom_written : (a : Atom) → atom_bytes L a ≡ atom_bytes M a
  unfolding atom_bytes
  atom_written a = ap (λ (p : ℕ). a.rel ∷ places_bytes p a.args) w.places

  pub atoms_written : (A : Question) → gather (atom_bytes L) A ≡ gather (atom_bytes M) A
  atoms_written [] = refl
  atoms_written (a ∷ A) = ap₂ ◌++◌ (atom_written a) (atoms_written A)

  pub record_written : (A : Question) → record_bytes L A ≡ record_bytes M A
  unfolding record_bytes
  record_written A = ap (λ (l : List ℕ). length A ∷ l) (atoms_written A)

  -- what fits the one fits the other, if it has as many atoms
  term_fits_wider : (t : Term) → TermFits L t → TermFits M t
  term_fits_wider (var n) h = omega (arith, w.variables)
  term_fits_wider (con c) h = omega (arith, w.constants)

  relation_wider : (b : ℕ) → T (is_relation L b) → T (is_relation M b)
  unfolding is_relation
  relation_wider b t = go (or_cases (ltb b L.relations) (L.answers && eqb b answer_relation) t)
    where
      go : T (ltb b L.relations) ⊎ T (L.answers && eqb b answer_relation)
          → T (ltb b M.relations || (M.answers && eqb b answer_relation))
      go (inl h) =
          let lt = ltb→lt b L.relations h in
          or_left (ltb b M.relations) _ (lt→ltb b M.relations (omega (arith, w.relations)))
      go (inr h) =
          or_right (ltb b M.relations) _
          (both M.answers _ (w.answers (fst_of L.answers _ h)) (snd_of L.answers _ h))

  pub atom_fits_wider : {a : Atom} → AtomFits L a → AtomFits M a
  atom_fits_wider f =
      record {
        relation = relation_wider _ f.relation;
        some_place = f.some_place;
        places = omega (arith, f.places, w.places);
        terms = λ t x. term_fits_wider t (f.terms t x);
      }

  pub fits_wider : {A : Question} → L.atoms ≤ M.atoms → Fits L A → Fits M A
  fits_wider h f =
      record {
        most = omega (arith, f.most);
        each = λ a m. atom_fits_wider (f.each a m);
      }

  term_wider : (b : ℕ) → T (is_term L b) → T (is_term M b)
  unfolding is_term
  term_wider b t = go (or_cases (ltb b L.variables) (leb 128 b && ltb b (128 + L.constants)) t)
    where
      go : T (ltb b L.variables) ⊎ T (leb 128 b && ltb b (128 + L.constants))
          → T (ltb b M.variables || (leb 128 b && ltb b (128 + M.constants)))
      go (inl h) =
          let lt = ltb→lt b L.variables h in
          or_left (ltb b M.variables) _ (lt→ltb b M.variables (omega (arith, w.variables)))
      go (inr h) =
          let lt = ltb→lt b (128 + L.constants) (snd_of (leb 128 b) (ltb b (128 + L.constants)) h) in
          or_right (ltb b M.variables) _
          (both (leb 128 b) _ (fst_of (leb 128 b) (ltb b (128 + L.constants)) h)
          (lt→ltb b (128 + M.constants) (omega (arith, w.constants))))

  module _ (ap-M : TellsApart M) (B : List ℕ) where
    used_wider : (p i : ℕ) → T (used_first L B i p) → T (used_first M B i p)
    unfolding used_first unused
    used_wider zero i t = tt
    used_wider (suc p) i t =
        go (is_term L b) (term_wider b) (is_term M b) (term_is_used M ap-M b) t (λ u. used_wider p (i + 1) u) refl
      where
        b : ℕ
        b = get_or B i 0

        -- the test of M passes wherever that of L does, and 255 passes neither
        go : (x : Bool) → (T x → T (is_term M b)) → (y : Bool) → (T y → b ≡ 255 → ⊥)
            → T (cond x (used_first L B (i + 1) p) (eqb b 255 && unused B (i + 1) p))
            → (T (used_first L B (i + 1) p) → T (used_first M B (i + 1) p))
            → (is_term M b ≡ y) → T (cond y (used_first M B (i + 1) p) (eqb b 255 && unused B (i + 1) p))
        go true over true stop u below e = below u
        go true over false stop u below e = absurd (subst T e (over tt))
        go false over true stop u below e = absurd (stop tt (eqb→eq b 255 (fst_of (eqb b 255) _ u)))
        go false over false stop u below e = u

    pub places_wider : (i : ℕ) → T (are_places L B i) → T (are_places M B i)
    unfolding are_places
    places_wider i t =
        both (is_term M (get_or B i 0)) _ (term_wider (get_or B i 0) (fst_of (is_term L (get_or B i 0)) _ t))
        (subst (λ p. T (used_first M B i p)) w.places (used_wider L.places i (snd_of (is_term L (get_or B i 0)) _ t)))

    pub atom_wider : (i : ℕ) → T (is_atom L B i) → T (is_atom M B i)
    unfolding is_atom
    atom_wider i t =
        both (is_relation M (get_or B i 0)) _ (relation_wider (get_or B i 0) (fst_of (is_relation L (get_or B i 0)) _ t))
        (places_wider (i + 1) (snd_of (is_relation L (get_or B i 0)) _ t))

    pub atoms_wider : (n i : ℕ) → T (are_atoms L B i n) → T (are_atoms M B i n)
    unfolding are_atoms
    atoms_wider zero i t = tt
    atoms_wider (suc n) i t =
        both (is_atom M B i) _ (atom_wider i (fst_of (is_atom L B i) _ t))
        (subst (λ s. T (are_atoms M B (i + s) n)) same_size (atoms_wider n (i + size L) (snd_of (is_atom L B i) _ t)))

-- what fits fits where an atom has more places
term_alike : (w v : ℕ) (t : Term) → TermFits (holding w) t → TermFits (holding v) t
term_alike w v (var n) h = h
term_alike w v (con c) h = h

pub more_places : {w v : ℕ} {a : Atom} → w ≤ v → AtomFits (holding w) a → AtomFits (holding v) a
more_places {w} {v} {a} few f =
    record {
      relation = relation_like (holding w) (holding v) a.rel refl refl f.relation;
      some_place = f.some_place;
      places = omega (arith, f.places);
      terms = λ t m. term_alike w v t (f.terms t m);
    }

pub fits_places : {w v : ℕ} {A : Question} → w ≤ v → Fits (holding w) A → Fits (holding v) A
fits_places few f = record { most = f.most; each = λ a m. more_places few (f.each a m) }
