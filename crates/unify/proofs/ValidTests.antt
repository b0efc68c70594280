-- Laws of validity as the code tests it: a moved term's byte, a term and a class, an existential variable. Assumes
-- nothing.
use mathlib.Core.Path.{◌≡◌, refl, sym, ◌∙◌, ap, ap₂}
use mathlib.Core.Bool.{Bool, true, false, not, ◌&&◌, ◌||◌}
use mathlib.Core.Logic.{◌⊎◌, inl, inr}
use mathlib.Core.List.{List, [], ◌∷◌, ◌++◌, map}
use Prim.Native.Nat.{ℕ, ◌+◌, ◌≤◌, ◌<◌}
use native.Mathlib.Omega.{arith}
use borrow.Author.Tests.{eqb-true, eqb-false, eq-eqb, ne_eqb}
use lib.Dec.{eqb}
use lib.ListN.{get_or}
use Rattle.covering.specs.Lists.{any, all}
use Rattle.covering.specs.Term.{Term, var, con, Question, Sub, on_term, on_question, on_atom, terms, eq_term, is_var}
use Rattle.covering.specs.Record.{stored, term_of, atoms_at}
use Rattle.covering.proofs.Bytes.{term_var, term_con, term_same}
use Rattle.covering.proofs.Lists.{map_none, all_append}
use Rattle.covering.proofs.Tests.{either}
use Rattle.covering.proofs.Terms.{on_atom_fixed, terms_on}
use Rattle.covering.specs.Rule.{Rule}
use Rattle.unification.specs.Step.{up, move, mem_term, is_unknown, guarded, safe, valid}
use Rattle.unification.proofs.Invalid.{always_valid}
use Rattle.unify.specs.Table.{Table, look, tabled}
use Rattle.unify.specs.InBytes.{classes_of}
use Rattle.unify.specs.Unknowns.{has_unknowns}

-- a byte moved up by k
pub up_variable : (k u : ℕ) → k + u < 128 → term_of (k + u) ≡ on_term (up k) (term_of u)
up_variable k u h = term_var (k + u) h ∙ sym (ap (on_term (up k)) (term_var u (omega arith)))

pub up_constant : (k u : ℕ) → 128 ≤ u → term_of u ≡ on_term (up k) (term_of u)
up_constant k u h = term_con u h ∙ sym (ap (on_term (up k)) (term_con u h))

pub is_var_lem : (b : ℕ) → b < 128 → is_var (term_of b) ≡ true
is_var_lem b h = ap is_var (term_var b h)

pub is_con : (b : ℕ) → 128 ≤ b → is_var (term_of b) ≡ false
is_con b h = ap is_var (term_con b h)

pub up_var : (k : ℕ) (t : Term) → is_var (on_term (up k) t) ≡ is_var t
up_var k (var n) = refl
up_var k (con c) = refl

-- nothing is moved by 0, and no two terms are made one
pub up_none : (A : Question) → on_question (up 0) A ≡ A
up_none A = map_none (on_atom (up 0)) A (λ a _. on_atom_fixed (up 0) a (λ t _. at t))
  where
    at : (t : Term) → on_term (up 0) t ≡ t
    at (var n) = ap var (omega arith)
    at (con c) = refl

up_same : (k : ℕ) (t u : Term) → eq_term (on_term (up k) t) (on_term (up k) u) ≡ eq_term t u
up_same k (var m) (var n) = go (either (eqb m n))
  where
    go : (eqb m n ≡ true) ⊎ (eqb m n ≡ false) → eqb (k + m) (k + n) ≡ eqb m n
    go (inl e) = eq-eqb (k + m) (k + n) (ap (λ (x : ℕ). k + x) (eqb-true m n e)) ∙ sym e
    go (inr e) = ne_eqb (k + m) (k + n) (λ f. eqb-false m n e (omega arith)) ∙ sym e
up_same k (var m) (con d) = refl
up_same k (con c) (var n) = refl
up_same k (con c) (con d) = refl

pub up_mem : (k : ℕ) (t : Term) (A : Question)
    → mem_term (on_term (up k) t) (terms (on_question (up k) A)) ≡ mem_term t (terms A)
up_mem k t A = ap (mem_term (on_term (up k) t)) (terms_on (up k) A) ∙ go (terms A)
  where
    go : (l : List Term) → any (eq_term (on_term (up k) t)) (map (on_term (up k)) l) ≡ any (eq_term t) l
    go [] = refl
    go (u ∷ l) = ap₂ ◌||◌ (up_same k t u) (go l)

-- what stands for a term's class
pub tabled_look : (m : Table) (t : Term) → on_term (tabled m) t ≡ look m t
tabled_look m (var n) = refl
tabled_look m (con c) = refl

-- whether a term is z or in another class than the one that rep stands for
abbrev pub apart_from : Sub → Term → Term → Term → Bool
apart_from σ z rep t = eq_term t z || not (eq_term (on_term σ t) rep)

abbrev pub apart_byte : List ℕ → ℕ → ℕ → Term → Bool
apart_byte table z rep = apart_from (tabled (classes_of table)) (term_of z) (term_of rep)

-- by bytes: x stands for the term's class
module _ (σ : Sub) (t z rep : ℕ) where
  pub apart_itself : t ≡ z → apart_from σ (term_of z) (term_of rep) (term_of t) ≡ true
  apart_itself e = rw (term_same t z ∙ eq-eqb t z e)

  pub apart_class : (x : ℕ) → (t ≡ z → ⊥) → term_of x ≡ on_term σ (term_of t)
      → apart_from σ (term_of z) (term_of rep) (term_of t) ≡ not (eqb x rep)
  apart_class x ne is =
      ap₂
      (λ (a b : Bool). a || not b)
      (term_same t z ∙ ne_eqb t z ne)
      (ap (λ (y : Term). eq_term y (term_of rep)) (sym is) ∙ term_same x rep)

-- the left atoms as the code holds them
abbrev pub left_in : List ℕ → Question
left_in bytes = atoms_at stored bytes 1 (get_or bytes 0 0)

-- a term of a rule that is moved by k is safe: in the order of the tests
module _ (m : Table) (k : ℕ) (L : Question) (r : Rule) (z rep : Term) (is : rep ≡ look m z) where
  abbrev pub ApartAtoms : ℕ → Question → Bool
  ApartAtoms i A = all (apart_from (tabled m) z rep) (terms (on_question (up i) A))

  abbrev pub Safe : Bool
  Safe = safe (tabled m) (guarded L (move k r)) z

  safe_split : Safe ≡ is_var rep && (ApartAtoms 0 L && (ApartAtoms k r.body && ApartAtoms k r.head))
  safe_split =
      ap (λ (y : Term). is_var y && all (apart_from (tabled m) z y) (guarded L (move k r))) (tabled_look m z ∙ sym is)
      ∙ ap
      (λ (b : Bool). is_var rep && b)
      (all_append (apart_from (tabled m) z rep) (terms L) (terms (move k r).body ++ terms (move k r).head)
      ∙ ap₂
      ◌&&◌
      (ap (λ (A : Question). all (apart_from (tabled m) z rep) (terms A)) (sym (up_none L)))
      (all_append (apart_from (tabled m) z rep) (terms (move k r).body) (terms (move k r).head)))

  pub safe_constant : is_var rep ≡ false → Safe ≡ false
  safe_constant v = safe_split ∙ rw v

  -- x, y and b are the code's answers, of which is known what they say and what they are
  module _ (v : is_var rep ≡ true) {x : Bool} (left : x ≡ ApartAtoms 0 L) where
    pub safe_left : x ≡ false → Safe ≡ false
    safe_left l = safe_split ∙ rw (v, sym left ∙ l)

    module _ (l : x ≡ true) {y : Bool} (body : y ≡ ApartAtoms k r.body) where
      pub safe_body : y ≡ false → Safe ≡ false
      safe_body b = safe_split ∙ rw (v, sym left ∙ l, sym body ∙ b)

      pub safe_head : y ≡ true → {b : Bool} → b ≡ ApartAtoms k r.head → b ≡ Safe
      safe_head b head = head ∙ sym (safe_split ∙ rw (v, sym left ∙ l, sym body ∙ b))

-- the test of a head term
abbrev pub allowed_term : Sub → Question → Rule → Term → Bool
allowed_term σ L r z = not (is_unknown r z) || safe σ (guarded L r) z

abbrev pub allowed_byte : List ℕ → Rule → List ℕ → Term → Bool
allowed_byte left r table = allowed_term (tabled (classes_of table)) (left_in left) (move 48 r)

-- a head term t of a rule that is moved by k: in the order of the tests
module _ (k : ℕ) (r : Rule) (t : Term) (σ : Sub) (L : Question) where
  abbrev pub Allowed : Bool
  Allowed = allowed_term σ L (move k r) (on_term (up k) t)

  pub allowed_constant : is_var t ≡ false → Allowed ≡ true
  allowed_constant v = rw (up_var k t ∙ v)

  module _ (v : is_var t ≡ true) {x : Bool} (body : x ≡ mem_term t (terms r.body)) where
    pub allowed_frontier : x ≡ true → Allowed ≡ true
    allowed_frontier e = rw (up_var k t ∙ v, up_mem k t r.body ∙ sym body ∙ e)

    pub allowed_unknown : x ≡ false → {z : Term} → z ≡ on_term (up k) t
        → {b : Bool} → b ≡ safe σ (guarded L (move k r)) z → b ≡ Allowed
    allowed_unknown e is f =
        f
        ∙ ap (safe σ (guarded L (move k r))) is
        ∙ sym (rw (up_var k t ∙ v, up_mem k t r.body ∙ sym body ∙ e))

-- a variable that stands nowhere in the body: of a head's terms, an existential one
abbrev pub unknown_to : Question → Term → Bool
unknown_to body t = is_var t && not (mem_term t (terms body))

-- a rule without existential variables has none once it is moved, so every choice is valid
pub no_unknowns : (k : ℕ) (r : Rule) → has_unknowns r ≡ false → (σ : Sub) (L : Question) → valid σ L (move k r) ≡ true
unfolding has_unknowns
no_unknowns k r e = always_valid (move k r) (ap (any (is_unknown (move k r))) (terms_on (up k) r.head) ∙ go (terms r.head) ∙ e)
  where
    go : (ts : List Term) → any (is_unknown (move k r)) (map (on_term (up k)) ts) ≡ any (is_unknown r) ts
    go [] = refl
    go (t ∷ ts) = ap₂ ◌||◌ (ap₂ (λ (v b : Bool). v && not b) (up_var k t) (up_mem k t r.body)) (go ts)
