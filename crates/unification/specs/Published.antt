-- Piece-unifiers and their one-step rewritings as published (document 000, Definitions 11 and 13), and the ones that
-- 01 lists: those that merge no more than their pairing needs. Nothing here knows of choices or of `unify`, but for
-- the last two definitions, which say with which number 01 lists a unifier. As published, "we assume that Q and R
-- have disjoint sets of variables".
use Rattle.std.specs.Prelude.{◌≡◌, Bool, cond, not, ◌⊎◌, List, [], ◌∷◌, ◌++◌, map, ℕ, suc, length}
use Rattle.std.proofs.Math.Option.{some}
use Rattle.std.proofs.Math.ListN.{get_elem?}
use Rattle.covering.specs.Lists.{◌∈◌, any, keep}
use Rattle.covering.specs.Term.{Term, var, con, Atom, Question, Sub, on_term, on_atom, on_question, terms, eq_atom}
use Rattle.covering.specs.Form.{form}
use Rattle.covering.specs.Rule.{Rule, Unknown}
use Rattle.unification.specs.Classes.{Equivalence}
use Rattle.unification.specs.Choice.{Choice, number}
use Rattle.unification.specs.Step.{move}

-- "Q \ Q'": the atoms of Q that are not in A
abbrev pub mem_atom : Atom → Question → Bool
mem_atom a A = any (eq_atom a) A

abbrev pub without : Question → Question → Question
without Q A = keep (λ a. not (mem_atom a A)) Q

-- "terms(Q') ∪ terms(H')"
abbrev pub scope : Question → Question → List Term
scope A H = terms A ++ terms H

-- "a partition on" these terms, as the relation of two terms that are in one class
pub record Partition (S : List Term) (P : Term → Term → Type 0) : Type 0 where
  pub within : (t u : Term) → P t u → (t ∈ S) × (u ∈ S)
  pub same : (t : Term) → t ∈ S → P t t
  pub turn : (t u : Term) → P t u → P u t
  pub chain : (t u v : Term) → P t u → P u v → P t v

-- "a substitution obtained by selecting an element of each class with giving priority to constants": a substitution
-- leaves constants as they are, so a class with a constant can have no other term selected
pub record Selects (S : List Term) (P : Term → Term → Type 0) (u : Sub) : Type 0 where
  pub chosen : (t : Term) → t ∈ S → P (on_term u t) t
  pub alike : (t v : Term) → P t v → on_term u t ≡ on_term u v
  pub others : (n : ℕ) → ¬ (var n ∈ S) → u n ≡ var n

-- "non-separating variables from Q'"; "separating variables of Q' the variables occurring both in Q' and Q \ Q'"
pub record NonSeparating (Q A : Question) (t : Term) : Type 0 where
  pub number : ℕ
  pub is : t ≡ var number
  pub in_unified : t ∈ terms A
  pub not_left : ¬ (t ∈ terms (without Q A))

-- Definition 11: "A piece-unifier of Q with R is μ = (Q', H', P_u)". The substitution is any that selects; which one
-- does not matter (`reselected` in `proofs/Selected`), so the order of variables that is given there is one of them.
pub record PieceUnifier (Q : Question) (r : Rule) : Type 1 where
  pub unified : Question
  pub part : Question
  pub P : Term → Term → Type 0
  pub u : Sub
  -- "Q' ≠ ∅, Q' ⊆ Q, H' ⊆ head(R)"
  pub one : Atom
  pub one_in : one ∈ unified
  pub of_question : (a : Atom) → a ∈ unified → a ∈ Q
  pub of_head : (b : Atom) → b ∈ part → b ∈ r.head
  -- "P_u is a partition on terms(Q') ∪ terms(H')"
  pub partition : Partition (scope unified part) P
  -- "P_u is admissible, i.e., no class in P_u contains two constants"
  pub admissible : (c d : ℕ) → P (con c) (con d) → c ≡ d
  -- "if a class in P_u contains an existential variable (from H') then the other terms in the class can only be
  -- non-separating variables from Q'"
  pub unknowns : (z : ℕ) → var z ∈ terms part → Unknown r z → (t : Term) → P t (var z)
      → (t ≡ var z) ⊎ NonSeparating Q unified t
  -- "let u be the substitution associated with P_u ..; then u(H') = u(Q')"
  pub selects : Selects (scope unified part) P u
  pub onto_head : (a : Atom) → a ∈ unified → on_atom u a ∈ on_question u part
  pub onto_question : (b : Atom) → b ∈ part → on_atom u b ∈ on_question u unified

-- Definition 13: "the one-step rewriting of Q according to μ, denoted by β(Q, R, μ), is u(body(R)) ∪ u(Q \ Q')", in
-- 01's order: "the left atoms, then the rule's body"
abbrev pub beta : {Q : Question} {r : Rule} → PieceUnifier Q r → Question
beta {Q} {r} μ = on_question μ.u (without Q μ.unified ++ r.body)

-- terms at equal places are together, as many in one list as in the other
abbrev pub Together : (Term → Term → Type 0) → List Term → List Term → Type 0
Together E [] [] = Unit {0}
Together E [] (u ∷ us) = ⊥
Together E (t ∷ ts) [] = ⊥
Together E (t ∷ ts) (u ∷ us) = E t u × Together E ts us

-- E puts atom a on atom b: "relations must agree; terms at equal places are put in one class"
pub record PutsOn (E : Term → Term → Type 0) (a b : Atom) : Type 0 where
  pub relations : a.rel ≡ b.rel
  pub places : Together E a.args b.args

-- the head atom with which a pairing puts a question atom
pub record Paired {Q : Question} {r : Rule} (μ : PieceUnifier Q r) (to : Atom → ℕ) (a : Atom) : Type 0 where
  pub atom : Atom
  pub at : get_elem? r.head (to a) ≡ some atom
  pub in_part : atom ∈ μ.part
  pub puts : PutsOn μ.P a atom

-- μ merges no more than its pairing needs: each unified question atom is put on its one head atom, the one at the
-- place `to` of it, and the partition is finer than any equivalence that does the same
pub record MergesNoMore {Q : Question} {r : Rule} (μ : PieceUnifier Q r) (to : Atom → ℕ) : Type 1 where
  pub paired : (a : Atom) → a ∈ μ.unified → Paired μ to a
  pub least : (E : Term → Term → Type 0) → Equivalence E
      → ((a b : Atom) → a ∈ μ.unified → get_elem? r.head (to a) ≡ some b → PutsOn E a b)
      → (t v : Term) → μ.P t v → E t v

-- a pairing as 01 writes it: "0 leaves it, 1 to h sends it to that head atom"
abbrev pub digits : Question → (Atom → ℕ) → Question → Choice
digits A to Q = map (λ a. cond (mem_atom a A) (suc (to a)) 0) Q

-- X is the form of a published rewriting that merges no more than its pairing needs, and n is that pairing's number
pub record Publishes (k : ℕ) (r : Rule) (Q : Question) (n : ℕ) (X : Question) : Type 1 where
  pub unifier : PieceUnifier Q (move k r)
  pub to : Atom → ℕ
  pub no_more : MergesNoMore unifier to
  pub place : number (length r.head) (digits unifier.unified to Q) ≡ n
  pub is : form (beta unifier) ≡ X
