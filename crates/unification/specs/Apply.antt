-- Applying a rule to facts (01, "Words"): "a map of its body into the facts adds the head, frontier variables mapped
-- alike and each existential variable replaced by a fresh unknown." A question holds in facts if it covers them.
use Rattle.std.specs.Prelude.{◌≡◌, ◌++◌, ℕ}
use Rattle.covering.specs.Lists.{◌∈◌}
use Rattle.covering.specs.Term.{Term, var, Question, Sub, on_question, terms}
use Rattle.covering.specs.Covers.{Sends}
use Rattle.covering.specs.Rule.{Rule, Unknown}

-- an unknown that the facts do not have
pub record Fresh (F : Question) (t : Term) : Type 0 where
  pub number : ℕ
  pub is : t ≡ var number
  pub absent : ¬ (var number ∈ terms F)

-- r applied to F gives G
pub record Applies (r : Rule) (F G : Question) : Type 0 where
  pub by : Sub
  pub sends : Sends by r.body F
  pub fresh : (z : ℕ) → Unknown r z → Fresh F (by z)
  pub distinct : (y z : ℕ) → Unknown r y → Unknown r z → by y ≡ by z → y ≡ z
  pub result : G ≡ F ++ on_question by r.head
