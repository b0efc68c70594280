-- Rules and their variables (01, "Words").
use Rattle.std.specs.Prelude.{ℕ}
use Rattle.covering.specs.Lists.{◌∈◌}
use Rattle.covering.specs.Term.{var, Question, terms}

-- "Question, body and head are conjunctions."
pub record Rule : Type 0 where
  pub body : Question
  pub head : Question

-- "In a rule, a variable in both body and head is a frontier variable"
pub record Frontier (r : Rule) (n : ℕ) : Type 0 where
  pub in_body : var n ∈ terms r.body
  pub in_head : var n ∈ terms r.head

-- "one in the head only is existential (an unknown)"
pub record Unknown (r : Rule) (z : ℕ) : Type 0 where
  pub in_head : var z ∈ terms r.head
  pub not_body : ¬ (var z ∈ terms r.body)
