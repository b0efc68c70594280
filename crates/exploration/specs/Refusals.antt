-- When a book and an output are refused (01, "Refusal numbers"), as a statement over all that applies and over the
-- run's single steps. `Answer` computes the same: `proofs/Refused` shows that the one holds exactly when the other
-- does.
use Rattle.std.specs.Prelude.{◌≡◌, ◌⊎◌, List, ℕ, ◌≤◌, ◌<◌}
use Rattle.covering.specs.Term.{Question}
use Rattle.covering.specs.Asking.{joined, records}
use Rattle.covering.specs.Search.{covers}
use Rattle.reading.specs.Book.{book_of}
use Rattle.reading.specs.Refusals.{ApplicableToBook}
use Rattle.exploration.specs.Run.{Limits, limits_for, State, Why, refusal_number, Outcome, complete, refused, all_rewritings}
use Rattle.exploration.specs.Steps.{within, Reaches, Ends}
use Rattle.exploration.specs.Union.{output_size}

-- "| no. | when | place |", 1 to 7, and 11
pub data Applicable (B : List ℕ) (room : ℕ) : ℕ → ℕ → Type 0 where
  -- 1: output under 4,104 bytes, at 0; "Output room becomes 4,104 for all" (02, i)
  one : room < output_size → Applicable B room 1 0
  -- 2 to 7 and 11 are the book's
  of_book : {n p : ℕ} → ApplicableToBook B n p → Applicable B room n p

-- how many answer records the book's question has, and so each member: one, or none
abbrev pub answers_of : List ℕ → ℕ
answers_of B = records (book_of B).question.answer

-- what the run of the book keeps to
abbrev pub limits_of : List ℕ → Limits
limits_of B = limits_for (answers_of B)

-- the run of the book takes this question up: it comes to explore it, in some state and with some of its rewritings
-- yet to come
pub record Explores (B : List ℕ) (M : Question) : Type 0 where
  pub yet : List Question
  pub state : State
  pub taken : ℕ
  pub reaches : Reaches covers (limits_of B) (all_rewritings (book_of B).rules) (book_of B).allowed
      (joined (book_of B).question) (within M yet state taken)

-- the run of the book ends so
abbrev pub RunEnds : List ℕ → Outcome → Type 0
RunEnds B o =
    Ends covers (limits_of B) (all_rewritings (book_of B).rules) (book_of B).allowed (joined (book_of B).question) o

-- number n at place p
pub data Refuses (B : List ℕ) (room n p : ℕ) : Type 0 where
  -- "The smallest applicable number among 1 to 7 wins, and within it the earliest place."; 11 "after 7 and before 8"
  smallest : Applicable B room n p → ((m q : ℕ) → Applicable B room m q → (n < m) ⊎ ((n ≡ m) × (p ≤ q)))
      → Refuses B room n p
  -- "Then 8 to 10 come as the exploration meets them, 8 before 9."
  met : ((m q : ℕ) → Applicable B room m q → ⊥) → (w : Why) → n ≡ refusal_number w → RunEnds B (refused w p)
      → Refuses B room n p

-- "0 means complete"
pub record Completes (B : List ℕ) (room : ℕ) (U : List Question) (explored : ℕ) : Type 0 where
  pub nothing : (m q : ℕ) → Applicable B room m q → ⊥
  pub ends : RunEnds B (complete U explored)
