-- What becomes of a book and an output (01, "Refusal numbers"): the answer, "a number and a place", and every byte of
-- the output.
use Rattle.std.specs.Prelude.{◌≡◌, cond, List, ◌++◌, ℕ, eqb, ltb, length, drop}
use Rattle.covering.specs.Term.{Question}
use Rattle.reading.specs.Header.{atom_places}
use Rattle.reading.specs.Book.{book_of}
use Rattle.reading.specs.Verdict.{verdict}
use Rattle.exploration.specs.Run.{Outcome, complete, refused, refusal_number, run}
use Rattle.exploration.specs.Union.{output_size, total, union_bytes}

-- a union and how many questions were explored, or a refusal's number and place
pub data Result : Type 0 where
  union : List Question → ℕ → Result
  refusal : ℕ → ℕ → Result

-- 8 to 10 "come as the exploration meets them"
abbrev pub result_of : Outcome → Result
result_of (complete U n) = union U n
result_of (refused w p) = refusal (refusal_number w) p

-- the run of the book's rules, explorations allowed and question
abbrev pub outcome_of : List ℕ → Outcome
outcome_of B = run (book_of B).rules (book_of B).allowed (book_of B).question

-- "The smallest applicable number among 1 to 7 wins": 1, output under 4,104 bytes (02, i), at place 0 and without looking
-- at the book; then the book's own, 2 to 7 and 11; then the run
unfoldable pub result : List ℕ → ℕ → Result
result B room =
    let ran = result_of (outcome_of B) in
    let read = cond (eqb (verdict B).number 0) ran (refusal (verdict B).number (verdict B).place) in
    cond (ltb room output_size) (refusal 1 0) read

-- "The answer is a number and a place. 0 means complete, and the place is the total length written."
abbrev pub answer : ℕ → Result → ℕ × ℕ
answer w (union U n) = (0, total w U)
answer w (refusal n p) = (n, p)

-- "Bytes of the output after the total are not touched."; "Every other number means that no output byte changed."
abbrev pub written : ℕ → Result → List ℕ → List ℕ
written w (union U n) out = union_bytes w U n ++ drop (total w U) out
written w (refusal n p) out = out

-- the answer to a book and an output of so many bytes: "Members use seven bytes too", as the book's atoms do
unfoldable pub answer_of : List ℕ → ℕ → ℕ × ℕ
answer_of B room = answer (atom_places B) (result B room)

-- the output's bytes at exit, for a book and the output's bytes at entry
unfoldable pub written_of : List ℕ → List ℕ → List ℕ
written_of B out = written (atom_places B) (result B (length out)) out

-- What a function gives that answers a book: its contract. `out` is the output at entry, `after` at exit.
pub record Answers (book out : List ℕ) (number place : ℕ) (after : List ℕ) : Type 0 where
  pub answers : (number, place) ≡ answer_of book (length out)
  pub writes : after ≡ written_of book out
