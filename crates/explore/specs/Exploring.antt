-- What becomes of one member's exploration and of the run, as the code holds it.
use Rattle.std.specs.Prelude.{◌≡◌, List, length, ℕ, ◌≤◌, Result, Ok, Err}
use Rattle.std.proofs.Math.Option.{some}
use Rattle.covering.specs.Term.{Question}
use Rattle.covering.specs.Search.{covers}
use Rattle.covering.specs.Record.{stored, question_of, Fits}
use Rattle.covering.specs.Buffer.{held_in, record_room}
use Rattle.covering.specs.Rule.{Rule}
use Rattle.covering.specs.Asking.{Shaped}
use Rattle.reading.specs.Book.{book_of, layout_of}
use Rattle.reading.specs.declared.Reason.{Reason}
use Rattle.reading.specs.declared.Refused.{Refused}
use Rattle.reading.specs.Told.{number_of}
use Rattle.exploration.specs.Run.{State, Limits, Why, refusal_number, passed, failed, Outcome, complete, refused, oldest}
use Rattle.exploration.specs.Run.{through, all_rewritings}

-- "the oldest unexplored member", as a record of 85 bytes
abbrev pub OldestIs : State → List ℕ → Type 0
OldestIs s R = (M : Question) × (oldest s ≡ some M) × (R ≡ held_in stored record_room M)

-- a member as a record of 85 bytes, the rest 255: it keeps to the book's relations, places and constants, and has the
-- answer places of the book's question
pub record MemberIn (B R : List ℕ) : Type 0 where
  pub holds : R ≡ held_in stored record_room (question_of stored R)
  pub fits : Fits (layout_of B) (question_of stored R)
  pub shaped : Shaped (length (book_of B).question.answer) (question_of stored R)

-- what becomes of the exploration of the member M, by these limits and rules, and of the union s: t is the union afterwards
abbrev pub ExploredIs : Limits → List Rule → Question → State → State → Result Unit Reason → Type 0
ExploredIs lim rules M s t (Ok _) = through covers lim M (all_rewritings rules M) s ≡ passed t
ExploredIs lim rules M s t (Err r) =
    (w : Why) × (through covers lim M (all_rewritings rules M) s ≡ failed w) × (number_of r ≡ refusal_number w)

-- what becomes of the run, whose outcome is o; complete, it comes to the union t, and so many questions were explored
abbrev pub RanIs : Outcome → State → Result ℕ Refused → Type 0
RanIs o t (Ok n) = (o ≡ complete t.members n) × (n ≤ 1000)
RanIs o t (Err r) = (w : Why) × (o ≡ refused w r.place) × (number_of r.reason ≡ refusal_number w)
