-- The starred examples of 01, "Examples from the bench", as one list, and the books that 01 gives in bytes or asks
-- for; `Others` has the rest.
-- Relations are numbered in order of appearance in an example, x, y, z are the rule's variables 0, 1, 2.
use Rattle.std.specs.Prelude.{◌≡◌, Bool, true, false, List, [], ◌∷◌, ◌++◌, map, ℕ, length, take, replicate}
use Rattle.covering.specs.Lists.{gather}
use Rattle.covering.specs.Term.{Term, con, Question}
use Rattle.covering.specs.Search.{covers}
use Rattle.covering.specs.Rule.{Rule}
use Rattle.unification.specs.Examples.{StepExample, at1, at2, v0, v1, example4, example5, example6, example7, example8}
use Rattle.unification.specs.Examples.{example9}
use Rattle.exploration.specs.Run.{Limits, Outcome, complete, all_rewritings, run_by, run}
use Rattle.reading.specs.Word.{word_bytes}
use Rattle.reading.specs.Header.{atom_places}
use Rattle.exploration.specs.Union.{output_size}
use Rattle.exploration.specs.Answer.{result, answer, written}

-- a book in bytes and an output of so many bytes, each of them 7: the number and the place, and the output's first
-- bytes at exit, as many as are stated
pub record BookExample : Type 0 where
  pub book : List ℕ
  pub room : ℕ
  pub answer : ℕ × ℕ
  pub bytes : List ℕ

-- an example and what comes of it
pub data Example : Type 0 where
  -- whether one question covers another
  covering : Question → Question → Bool → Example
  -- a question's rewritings by a rule
  rewriting : Rule → Question → List Question → Example
  -- a run, at 01's limits or at others
  running : List Rule → ℕ → Question → Outcome → Example
  limited : Limits → List Rule → ℕ → Question → Outcome → Example
  answering : BookExample → Example

abbrev pub output_of : BookExample → List ℕ
output_of e = replicate e.room 7

-- what the contract says of it (`contract_gives` in `proofs/Examples`), from one result
abbrev pub given : BookExample → (ℕ × ℕ) × List ℕ
given e =
    let r = result e.book e.room in
    let w = atom_places e.book in
    (answer w r, take (length e.bytes) (written w r (output_of e)))

-- the definitions say the same
abbrev pub Right : Example → Type 0
Right (covering A B r) = covers A B ≡ r
Right (rewriting r Q l) = all_rewritings (r ∷ []) Q ≡ l
Right (running rules L Q o) = run rules L (record { answer = []; atoms = Q }) ≡ o
Right (limited lim rules L Q o) = run_by covers lim (all_rewritings rules) L Q ≡ o
Right (answering e) = given e ≡ (e.answer, e.bytes)

abbrev pub Each : {A : Type 0} → (A → Type 0) → List A → Type 0
Each P [] = Unit {0}
Each P (x ∷ xs) = P x × Each P xs

abbrev pub c0 : Term
c0 = con 0

abbrev pub rule : Question → Question → Rule
rule b h = record { body = b; head = h }

-- one of `unification`'s
abbrev pub rewritten : StepExample → Example
rewritten e = rewriting e.rule e.question (map (λ x. x.1) e.listing)

-- "three choices, each r(v0,v0) b(v0)"
abbrev made7 : Question
made7 = at2 1 v0 v0 ∷ at1 0 v0 ∷ []

-- "The starred examples are one list with a single theorem."
unfoldable pub examples : List Example
examples =
    -- 1. "p(v0,v1) covers p(v0,v0); the converse is no."
    covering (at2 0 v0 v1 ∷ []) (at2 0 v0 v0 ∷ []) true
    ∷ covering (at2 0 v0 v0 ∷ []) (at2 0 v0 v1 ∷ []) false
    -- 2. "p(v0) covers p(c0); the converse is no."
    ∷ covering (at1 0 v0 ∷ []) (at1 0 c0 ∷ []) true
    ∷ covering (at1 0 c0 ∷ []) (at1 0 v0 ∷ []) false
    -- 3. "p(v0,v1) p(v1,v0) covers p(c0,c0)."
    ∷ covering (at2 0 v0 v1 ∷ at2 0 v1 v0 ∷ []) (at2 0 c0 c0 ∷ []) true
    -- 4 to 6, with no valid choice, are `unification`'s
    ∷ rewritten example4
    ∷ rewritten example5
    ∷ rewritten example6
    -- 7. "three choices, each r(v0,v0) b(v0). The question covers it: one member."
    ∷ rewritten example7
    ∷ covering example7.question made7 true
    ∷ running (example7.rule ∷ []) 10 example7.question (complete (example7.question ∷ []) 1)
    -- 8. "four choices, each twin(v0,v1)."
    ∷ rewritten example8
    -- 9. "members are the question and s(v0)."
    ∷ running (example9.rule ∷ []) 10 example9.question (complete (example9.question ∷ (at1 0 v0 ∷ []) ∷ []) 2)
    ∷ []

-- a book's answer with an output of 4,104 bytes, and the output's first bytes
abbrev pub answered : List ℕ → ℕ × ℕ → List ℕ → BookExample
answered B a bytes = record { book = B; room = output_size; answer = a; bytes = bytes }

abbrev pub untouched : List ℕ
untouched = 7 ∷ 7 ∷ []

-- a header's nine words
abbrev pub header : List ℕ → List ℕ
header words = gather word_bytes words

-- "bytes 1 1 2, 1 2, 0 0 255 255 255, 1 1 255 255 255, 2 0 1 255 255, 1 0 255 255 255, 2 1 0 255 255"
abbrev printed : List ℕ
printed =
    1 ∷ 1 ∷ 2
    ∷ 1 ∷ 2 ∷ 0 ∷ 0 ∷ 255 ∷ 255 ∷ 255 ∷ 1 ∷ 1 ∷ 255 ∷ 255 ∷ 255 ∷ 2 ∷ 0 ∷ 1 ∷ 255 ∷ 255
    ∷ 1 ∷ 0 ∷ 255 ∷ 255 ∷ 255 ∷ 2 ∷ 1 ∷ 0 ∷ 255 ∷ 255 ∷ []

-- "For the header words 3 0 1 2 10 18 21 38 48": "members 2 explored 2", "r1(v0) r2(v1,v0)", "r0(v0)"
abbrev pub printed_book : BookExample
printed_book =
    answered (header (3 ∷ 0 ∷ 1 ∷ 2 ∷ 10 ∷ 18 ∷ 21 ∷ 38 ∷ 48 ∷ []) ++ printed) (0, 25)
    (2 ∷ 0 ∷ 2 ∷ 0 ∷ 8 ∷ 0 ∷ 25 ∷ 0
    ∷ 2 ∷ 1 ∷ 0 ∷ 255 ∷ 255 ∷ 255 ∷ 2 ∷ 1 ∷ 0 ∷ 255 ∷ 255
    ∷ 1 ∷ 0 ∷ 0 ∷ 255 ∷ 255 ∷ 255 ∷ untouched)

-- "With L = 1 it prints `refused 10 at 1`"
abbrev pub printed_once : BookExample
printed_once = answered (header (3 ∷ 0 ∷ 1 ∷ 2 ∷ 1 ∷ 18 ∷ 21 ∷ 38 ∷ 48 ∷ []) ++ printed) (10, 1) untouched

-- "example 9's like at depth two": s(x) to p(x,x), t(x) to s(x), question p(v0,v1) p(v1,v0). The members are the
-- question, s(v0) and t(v0), 3 explored. One "that explores the first member and merely counts the others" has not
-- t(v0): it is a rewriting of the second member alone.
abbrev pub depth_two : BookExample
depth_two =
    answered
    (header (3 ∷ 0 ∷ 2 ∷ 2 ∷ 10 ∷ 18 ∷ 21 ∷ 45 ∷ 55 ∷ [])
    ++ (1 ∷ 1 ∷ 2
    ∷ 1 ∷ 1 ∷ 1 ∷ 0 ∷ 255 ∷ 255 ∷ 255 ∷ 2 ∷ 0 ∷ 0 ∷ 255 ∷ 255
    ∷ 1 ∷ 1 ∷ 0 ∷ 0 ∷ 255 ∷ 255 ∷ 255 ∷ 1 ∷ 0 ∷ 255 ∷ 255 ∷ 255
    ∷ 2 ∷ 0 ∷ 1 ∷ 255 ∷ 255 ∷ 2 ∷ 1 ∷ 0 ∷ 255 ∷ 255 ∷ []))
    (0, 31)
    (3 ∷ 0 ∷ 3 ∷ 0 ∷ 8 ∷ 0 ∷ 31 ∷ 0
    ∷ 2 ∷ 2 ∷ 0 ∷ 1 ∷ 255 ∷ 255 ∷ 2 ∷ 1 ∷ 0 ∷ 255 ∷ 255
    ∷ 1 ∷ 1 ∷ 0 ∷ 255 ∷ 255 ∷ 255
    ∷ 1 ∷ 0 ∷ 0 ∷ 255 ∷ 255 ∷ 255 ∷ untouched)
