-- Which substitution is selected for a partition does not matter: with any other, the same Q', H' and partition are a
-- piece-unifier, and its rewriting has the same form. So Definition 11's own order of terms, "constants < existential
-- variables < other variables", is one of those that `PieceUnifier` allows. Assumes nothing.
use mathlib.Core.Path.{◌≡◌, refl, sym, ◌∙◌, ap}
use mathlib.Core.Bool.{not}
use mathlib.Core.Logic.{◌⊎◌, inl, inr}
use mathlib.Core.List.Memᴰ
use mathlib.Core.List.{List, ◌++◌}
use lib.Dec.{T}
use Rattle.covering.specs.Form.{form}
use Rattle.covering.specs.Lists.{◌∈◌}
use Rattle.covering.specs.Term.{Term, Atom, Question, terms, Sub, on_term, on_atom, on_question, comp, var, con}
use Rattle.covering.proofs.Tests.{decide, clash}
use Rattle.covering.proofs.SameForm.{form_same}
use Rattle.covering.proofs.Terms.{on_term_comp, on_atom_same, on_atom_comp}
use Rattle.covering.specs.Rule.{Rule}
use Rattle.unification.specs.Step.{mem_term}
use Rattle.unification.specs.Published.{without, scope, Selects, PieceUnifier, beta}
use Rattle.unification.proofs.Pairs.{mem→mem_term, mem_term→mem}
use Rattle.unification.proofs.Representatives.{alike_absorbed}

-- selecting by u, then by v, is selecting by v
module _ (S : List Term) (P : Term → Term → Type 0) (u v : Sub) (su : Selects S P u) (sv : Selects S P v) where
  absorbed : (t : Term) → on_term v (on_term u t) ≡ on_term v t
  absorbed (con c) = refl
  absorbed (var n) = go (decide (mem_term (var n) S))
    where
      go : T (mem_term (var n) S) ⊎ T (not (mem_term (var n) S)) → on_term v (u n) ≡ v n
      go (inl t) = sv.alike (u n) (var n) (su.chosen (var n) (mem_term→mem S t))
      go (inr t) = ap (on_term v) (su.others n (λ m. clash (mem_term (var n) S) (mem→mem_term S m) t))

-- Definition 13's "where u is a substitution associated with P_u": whichever it is, the rewriting has the same form
pub beta_same : (S : List Term) (P : Term → Term → Type 0) (u v : Sub) → Selects S P u → Selects S P v
    → (A : Question) → form (on_question u A) ≡ form (on_question v A)
beta_same S P u v su sv A =
    form_same u v A (alike_absorbed u v (absorbed S P u v su sv) (absorbed S P v u sv su) (terms A))

atom_absorbed : (S : List Term) (P : Term → Term → Type 0) (u v : Sub) → Selects S P u → Selects S P v
    → (a : Atom) → on_atom v (on_atom u a) ≡ on_atom v a
atom_absorbed S P u v su sv a =
    on_atom_comp v u a
    ∙ on_atom_same (comp v u) v a (λ t m. sym (on_term_comp v u t) ∙ absorbed S P u v su sv t)

-- u(A) ⊆ u(B) says the same for each
onto_same : (S : List Term) (P : Term → Term → Type 0) (u v : Sub) → Selects S P u → Selects S P v
    → (a : Atom) (B : Question) → on_atom u a ∈ on_question u B → on_atom v a ∈ on_question v B
onto_same S P u v su sv a B m = go (Memᴰ.of_map (on_atom u) B m)
  where
    go : (b : Atom) × (b ∈ B) × (on_atom u b ≡ on_atom u a) → on_atom v a ∈ on_question v B
    go x =
        Memᴰ.cast
        (sym (atom_absorbed S P u v su sv a) ∙ ap (on_atom v) (sym x.2) ∙ atom_absorbed S P u v su sv x.0)
        (Memᴰ.map (on_atom v) x.1)

pub reselected : {Q : Question} {r : Rule} (μ : PieceUnifier Q r) (v : Sub)
    → Selects (scope μ.unified μ.part) μ.P v → PieceUnifier Q r
reselected μ v sv =
    record {
      unified = μ.unified;
      part = μ.part;
      P = μ.P;
      u = v;
      one = μ.one;
      one_in = μ.one_in;
      of_question = μ.of_question;
      of_head = μ.of_head;
      partition = μ.partition;
      admissible = μ.admissible;
      unknowns = μ.unknowns;
      selects = sv;
      onto_head = λ a m. onto_same S μ.P μ.u v μ.selects sv a μ.part (μ.onto_head a m);
      onto_question = λ b m. onto_same S μ.P μ.u v μ.selects sv b μ.unified (μ.onto_question b m);
    }
  where
    S : List Term
    S = scope μ.unified μ.part

pub reselected_same : {Q : Question} {r : Rule} (μ : PieceUnifier Q r) (v : Sub)
    (sv : Selects (scope μ.unified μ.part) μ.P v)
    → form (beta (reselected μ v sv)) ≡ form (beta μ)
unfolding reselected
reselected_same {Q} {r} μ v sv =
    beta_same (scope μ.unified μ.part) μ.P v μ.u sv μ.selects (without Q μ.unified ++ r.body)
