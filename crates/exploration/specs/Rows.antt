-- Rows (02, a): "Demand 3 then speaks of each row of named things." A row is a list of constants, one for each answer
-- place; a question without answer places has the one row of no things, and to answer it is to hold.
use Rattle.std.specs.Prelude.{◌≡◌, List, map, ℕ}
use Rattle.covering.specs.Lists.{◌∈◌}
use Rattle.covering.specs.Term.{con, Question, Sub, on_term}
use Rattle.covering.specs.Covers.{Sends}
use Rattle.covering.specs.Asking.{Asking, asking}
use Rattle.covering.specs.Rule.{Rule}
use Rattle.exploration.specs.Chain.{Chain}

-- a question gives this row in these facts: its variables go to things so that each atom is a fact and the answer's
-- terms are the row
pub record Gives (q : Asking) (row : List ℕ) (F : Question) : Type 0 where
  pub by : Sub
  pub is : map (on_term by) q.answer ≡ map con row
  pub sends : Sends by q.atoms F

-- some member of a union gives it
abbrev pub SomeGives : List Question → List ℕ → Question → Type 0
SomeGives U row F = (M : Question) × (M ∈ U) × Gives (asking M) row F

-- some finite chain of rule applications reaches facts in which the question gives it
abbrev pub DerivesRow : List Rule → Asking → List ℕ → Question → Type 0
DerivesRow rules q row F = (G : Question) × Chain rules G F × Gives q row G
