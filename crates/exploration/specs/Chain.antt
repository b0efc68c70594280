-- What a union is measured by (the mission's third demand): ledgers, chains of rule applications, and what can be said
-- of a list of members.
use Rattle.std.specs.Prelude.{◌≡◌, List, [], ◌∷◌, ℕ, ◌<◌, length, get_or}
use Rattle.covering.specs.Lists.{◌∈◌}
use Rattle.covering.specs.Term.{var, Atom, Question, terms, Below}
use Rattle.covering.specs.Covers.{Covers}
use Rattle.covering.specs.Form.{form}
use Rattle.covering.specs.Rule.{Rule}
use Rattle.unification.specs.Step.{rewritings}
use Rattle.unification.specs.Apply.{Applies}

-- facts of named things: a constant is a named thing, in the book or not, and there is no unknown among them
abbrev pub Named : Question → Type 0
Named F = (n : ℕ) → ¬ (var n ∈ terms F)

-- an atom of one of these relations, each with its number of places
pub record OfRelation (places : List ℕ) (a : Atom) : Type 0 where
  pub relation : a.rel < length places
  pub fills : length a.args ≡ get_or places a.rel 0

-- a finite ledger over a book's relations
pub record Ledger (places : List ℕ) (F : Question) : Type 0 where
  pub named : Named F
  pub over : (a : Atom) → a ∈ F → OfRelation places a

-- a question holds in facts if it covers them: its variables go to things, so that each atom is a fact
abbrev pub Holds : Question → Question → Type 0
Holds Q F = Covers Q F

-- some member of a union holds in them
abbrev pub SomeHolds : List Question → Question → Type 0
SomeHolds U F = (M : Question) × (M ∈ U) × Holds M F

-- a finite chain of rule applications from F to G, each bringing fresh unknowns
pub data Chain (rules : List Rule) (G : Question) : Question → Type 0 where
  here : {F : Question} → F ≡ G → Chain rules G F
  apply : {F H : Question} (r : Rule) → r ∈ rules → Applies r F H → Chain rules G H → Chain rules G F

-- some finite chain reaches facts in which the question holds
abbrev pub Derives : List Rule → Question → Question → Type 0
Derives rules Q F = (G : Question) × Chain rules G F × Holds Q G

-- P is reached from Q by rewriting steps: "The question is put in this form before it starts." In each step "the
-- rule's variables are kept apart from the question's", by k
pub data Reached (k : ℕ) (rules : List Rule) (Q : Question) : Question → Type 0 where
  from_question : {P : Question} → P ≡ form Q → Reached k rules Q P
  by_step : {M P : Question} (r : Rule) → r ∈ rules → Below k M → Reached k rules Q M → P ∈ rewritings k r M
      → Reached k rules Q P

-- no member covers another
abbrev pub Apart : (Question → Question → Type 0) → List Question → Type 0
Apart Cov [] = Unit {0}
Apart Cov (M ∷ U) = ((N : Question) → N ∈ U → (¬ Cov M N) × (¬ Cov N M)) × Apart Cov U
