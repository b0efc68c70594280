-- The variables' bound, and that a record has room: a question in form of at most m atoms of at most p places, whose
-- answer variables stand in them, has its variables below m x p, and takes its relations, its numbers of places and its
-- constants from the question and the rules. So rewritings of a member of at most 8 atoms of at most 6 places are apart
-- from rules moved up by 48, and a rewriting of at most 11 atoms and an answer record fits a record. Assumes nothing.
use mathlib.Core.Path.{◌≡◌, refl, sym, subst}
use mathlib.Core.Logic.{◌⊎◌, inl, inr}
use mathlib.Core.List.Memᴰ
use mathlib.Core.List.{◌++◌}
use Prim.Native.Nat.{ℕ, ◌+◌, ◌*◌, ◌≤◌, ◌<◌}
use native.Mathlib.Omega.{arith}
use lib.ListN.{length}
use lib.Dec.{T}
use Rattle.covering.specs.Lists.{◌∈◌}
use Rattle.covering.specs.Term.{Term, var, con, Atom, Question, terms, Below}
use Rattle.covering.specs.Form.{form}
use Rattle.covering.specs.Asking.{asking, NoRecord, Shaped}
use Rattle.covering.specs.Record.{Layout, TermFits, AtomFits, Fits, is_relation}
use Rattle.covering.proofs.Terms.{terms_in, terms_out}
use Rattle.covering.specs.Rule.{Rule}
use Rattle.unification.specs.Step.{rewritings}
use Rattle.unification.proofs.Listed.{Made, rewritings_out}
use Rattle.unification.proofs.Sizes.{listed_form, listed_shape, listed_constant}
use Rattle.unification.proofs.ShapeKept.{rewriting_shaped}
use Rattle.unification.proofs.AnswerSizes.{shaped_fewer, shaped_apart}
use Rattle.covering.proofs.Shaped.{shaped_in}
use Rattle.covering.proofs.Bytes.{relation_like}

-- the layout of questions in form of at most m atoms, and so many answer records
abbrev pub room_for : Layout → ℕ → ℕ → Layout
room_for L answers m =
    record {
      atoms = m + answers;
      relations = L.relations;
      answers = L.answers;
      places = L.places;
      variables = m * L.places;
      constants = L.constants;
    }

-- a rule whose atoms fit and are no answer records
pub record RuleFits (L : Layout) (r : Rule) : Type 0 where
  pub few_body : length r.body ≤ 4
  pub body : (a : Atom) → a ∈ r.body → AtomFits L a
  pub head : (a : Atom) → a ∈ r.head → AtomFits L a
  pub free_body : NoRecord r.body
  pub free_head : NoRecord r.head

module _ (L : Layout) where
  -- the bound that keeps rules apart
  pub fits_below : {M : Question} → Fits L M → Below L.variables M
  fits_below {M} f n m = let x = terms_out M m in (f.each x.0 x.1).terms (var n) x.2

  fits_constant : (A : Question) → ((a : Atom) → a ∈ A → AtomFits L a) → (c : ℕ) → con c ∈ terms A → c < L.constants
  fits_constant A f c m = let x = terms_out A m in (f x.0 x.1).terms (con c) x.2

  -- what an atom takes from another: its relation and its number of places
  record Frame (a : Atom) : Type 0 where
    relation : T (is_relation L a.rel)
    some_place : 1 ≤ length a.args
    places : length a.args ≤ L.places

  frame_of : {a : Atom} → AtomFits L a → Frame a
  frame_of f = record { relation = f.relation; some_place = f.some_place; places = f.places }

  frame_like : {a b : Atom} → a.rel ≡ b.rel → length a.args ≡ length b.args → Frame b → Frame a
  frame_like e d f =
      record {
        relation = subst (λ (n : ℕ). T (is_relation L n)) (sym e) f.relation;
        some_place = subst (λ (n : ℕ). 1 ≤ n) (sym d) f.some_place;
        places = subst (λ (n : ℕ). n ≤ L.places) (sym d) f.places;
      }

  -- a question with such atoms, constants and variables fits where there is room for its atoms
  framed_fits : (answers m : ℕ) (P : Question) → length P ≤ m + answers
      → ((a : Atom) → a ∈ P → Frame a) → ((c : ℕ) → con c ∈ terms P → c < L.constants) → Below (m * L.places) P
      → Fits (room_for L answers m) P
  framed_fits answers m P few frame constant below =
      record {
        most = few;
        each =
            λ a x.
            let f = frame a x in
            record {
              relation = relation_like L (room_for L answers m) a.rel refl refl f.relation;
              some_place = f.some_place;
              places = f.places;
              terms = λ t y. term t (terms_in P x y);
            };
      }
    where
      term : (t : Term) → t ∈ terms P → TermFits (room_for L answers m) t
      term (var n) y = below n y
      term (con c) y = constant c y

  -- the same with room for v variables
  abbrev pub with_variables : ℕ → ℕ → ℕ → Layout
  with_variables answers m v =
      record {
        atoms = m + answers;
        relations = L.relations;
        answers = L.answers;
        places = L.places;
        variables = v;
        constants = L.constants;
      }

  -- what fits there fits where it has no other variables
  pub narrowed_fits : (answers m v : ℕ) {A : Question} → Fits (with_variables answers m v) A → Below (m * L.places) A
      → Fits (room_for L answers m) A
  narrowed_fits answers m v {A} f below =
      record {
        most = f.most;
        each =
            λ a x.
            let e = f.each a x in
            record {
              relation =
                  relation_like (with_variables answers m v) (room_for L answers m) a.rel refl refl e.relation;
              some_place = e.some_place;
              places = e.places;
              terms = λ t y. term t (terms_in A x y) (e.terms t y);
            };
      }
    where
      term : (t : Term) → t ∈ terms A → TermFits (with_variables answers m v) t → TermFits (room_for L answers m) t
      term (var n) y h = below n y
      term (con c) y h = h

  -- a rewriting of a member by a rule; questions of this shape have so many answer records
  module _ (answers cap : ℕ) {n : ℕ} {r : Rule} {M P : Question}
      (count : (X : Question) → Shaped n X → length X ≡ answers + length (asking X).atoms)
      (member : Fits (room_for L answers cap) M) (shaped : Shaped n M) (fits : RuleFits L r)
      (k : ℕ) (above : cap * L.places ≤ k) (x : P ∈ rewritings k r M)
    where
      made : (i : ℕ) × Made k r M i P
      made = rewritings_out x

      below : Below k M
      below i m =
          let y = terms_out M m in
          let low : i < cap * L.places = (member.each y.0 y.1).terms (var i) y.2 in
          omega arith

      pub rewriting_formed : form P ≡ P
      rewriting_formed = listed_form made.1

      pub rewriting_of_shape : Shaped n P
      rewriting_of_shape = rewriting_shaped fits.free_body fits.free_head below shaped x

      few_of_member : length (asking M).atoms ≤ cap
      few_of_member = omega (arith, count M shaped, member.most)

      -- fewer atoms than the member and the body together: at most 11
      pub rewriting_short : length (asking P).atoms < cap + 4
      rewriting_short =
          omega (arith, shaped_fewer shaped rewriting_of_shape made.1, few_of_member, fits.few_body)

      frame_either : (b : Atom) → (b ∈ M) ⊎ (b ∈ r.body) → Frame b
      frame_either b (inl y) =
          let f = member.each b y in
          let t = relation_like (room_for L answers cap) L b.rel refl refl f.relation in
          record { relation = t; some_place = f.some_place; places = f.places }
      frame_either b (inr y) = frame_of (fits.body b y)

      frame : (a : Atom) → a ∈ P → Frame a
      frame a y =
          let s = listed_shape made.1 a y in
          frame_like s.relation s.places (frame_either s.like (Memᴰ.append_cases M s.among))

      constant : (c : ℕ) → con c ∈ terms P → c < L.constants
      constant c y = go (Memᴰ.append_cases (terms M) (listed_constant below made.1 c y))
        where
          at : (con c ∈ terms r.body) ⊎ (con c ∈ terms r.head) → c < L.constants
          at (inl z) = fits_constant r.body fits.body c z
          at (inr z) = fits_constant r.head fits.head c z

          go : (con c ∈ terms M) ⊎ (con c ∈ terms r.body ++ terms r.head) → c < L.constants
          go (inl z) = let t = terms_out M z in (member.each t.0 t.1).terms (con c) t.2
          go (inr z) = at (Memᴰ.append_cases (terms r.body) z)

      pub rewriting_fits : (m : ℕ) → length (asking P).atoms ≤ m → Fits (room_for L answers m) P
      rewriting_fits m few =
          framed_fits answers m P (omega (arith, count P rewriting_of_shape)) frame constant
          (shaped_apart shaped rewriting_of_shape made.1 m L.places
          (λ a y. (member.each a (shaped_in shaped y)).places) (λ a y. (fits.body a y).places) few)
