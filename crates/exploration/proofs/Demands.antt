-- The three demands, about the bytes that the function takes and gives. `Answers book out number place after` is its
-- contract (`specs/Answer`): for the book's bytes and the output's bytes at entry, the number and the place that it
-- returns and the output's bytes at exit. Each demand is a record, its sentences beside the fields that say them, and
-- a theorem that every such answer has it. Nothing is assumed of the book or the output.
use mathlib.Core.Path.{◌≡◌, sym, ◌∙◌, ap}
use mathlib.Core.Logic.{◌↔◌}
use mathlib.Core.List.{List, [], map}
use Prim.Native.Nat.{ℕ, ◌≤◌}
use lib.ListN.{length, take, drop}
use Rattle.covering.specs.Lists.{◌∈◌, gather, collect, keep}
use Rattle.covering.specs.Term.{Term, con, Question}
use Rattle.covering.proofs.Shaped.{only_constants as constants-alone}
use Rattle.covering.specs.Covers.{Covers}
use Rattle.covering.specs.Form.{form}
use Rattle.covering.specs.Rule.{Rule}
use Rattle.covering.specs.Asking.{NoRecord, asking, joined, Shaped}
use Rattle.reading.specs.Header.{atom_places}
use Rattle.reading.specs.Book.{book_of}
use Rattle.reading.specs.Verdict.{SoundBook}
use Rattle.unification.specs.Choice.{Ascending, number as choice_number, choices, some_sent}
use Rattle.unification.specs.Step.{move, listed, label, step}
use Rattle.unification.specs.Published.{PieceUnifier, beta, Publishes}
use Rattle.unification.proofs.Numbers.{listed_ascending}
use Rattle.unification.proofs.AnswerRecord.{leading}
use Rattle.exploration.specs.Run.{complete, apart, all_rewritings}
use Rattle.exploration.specs.Union.{total, union_bytes, members_of, explored_of}
use Rattle.exploration.specs.Answer.{outcome_of, Answers}
use Rattle.exploration.specs.Refusals.{Refuses, Completes, Explores, answers_of}
use Rattle.exploration.specs.Chain.{Ledger, SomeHolds, Derives, Reached, Apart}
use Rattle.exploration.specs.Rows.{SomeGives, DerivesRow}
use Rattle.exploration.proofs.OfBook.{Member, whole, members_most as most_members, run_rows}
use Rattle.exploration.proofs.Left.{Left}
use Rattle.exploration.proofs.Explored.{rules_in_order, published_exactly, published_covered, left_alone}
use Rattle.exploration.proofs.Given.{refused_exactly, complete_exactly, refusal_unchanged, rest_untouched}
use Rattle.exploration.proofs.Given.{whole_given}
use Rattle.exploration.proofs.Given.{same_length, the_run, every_run, the_place, the_bytes, the_outcome}
use Rattle.exploration.proofs.OfBook.{run_holds, ledger_free, few_atoms}

-- DEMAND 1. "For every book and every output buffer:"
pub record Demand1 (book out : List ℕ) (number place : ℕ) (after : List ℕ) : Type 0 where
  -- "the answer and every byte of the output are determined;"
  pub determined : {n p : ℕ} {a : List ℕ} → Answers book out n p a → (number ≡ n) × (place ≡ p) × (after ≡ a)
  -- "it is a refusal exactly when 01's table says, with that place;"
  pub refused : (n p : ℕ) → 1 ≤ n → ((number ≡ n) × (place ≡ p)) ↔ Refuses book (length out) n p
  -- else, of 01, "0 means complete"
  pub complete : (number ≡ 0) ↔ ((U : List Question) × (n : ℕ) × Completes book (length out) U n)
  -- "a refusal changes no byte."
  pub unchanged : 1 ≤ number → after ≡ out
  -- of 01, "Bytes of the output after the total are not touched.", and there are as many as before
  pub untouched : number ≡ 0 → drop place after ≡ drop place out
  pub no_more : length after ≡ length out

-- DEMAND 2. "The union and the explored count are those of the defined run"
pub record Demand2 (book out : List ℕ) (number place : ℕ) (after : List ℕ) : Type 1 where
  -- what the bytes say is what the run, in single steps, completes with ..
  pub the_run : number ≡ 0 → Completes book (length out) (members_of (atom_places book) (answers_of book) after) (explored_of after)
  -- .. and whenever it completes, that is given
  pub every_run : {U : List Question} {n : ℕ} → Completes book (length out) U n
      → (number ≡ 0) × (members_of (atom_places book) (answers_of book) after ≡ U) × (explored_of after ≡ n)
  -- of 01, "the place is the total length written", and up to there every byte is the union's
  pub the_place : number ≡ 0 → place ≡ total (atom_places book) (members_of (atom_places book) (answers_of book) after)
  pub the_bytes : number ≡ 0 → take place after ≡ union_bytes (atom_places book) (members_of (atom_places book) (answers_of book) after) (explored_of after)
  -- "over exactly the one-step rewritings of `unify`.": of 01, "go through rules in book order", by each rule through
  -- the rewritings that it lists ..
  pub the_steps : (M : Question)
      → all_rewritings (book_of book).rules M ≡ gather (λ r. map (λ e. e.1) (listed apart r M)) (book_of book).rules
  -- .. "choices in theirs": a choice's number is above all that are listed before it, so that none is listed twice
  pub in_order : (r : Rule) (M : Question) → Ascending (map (λ e. e.0) (listed apart r M))
  -- "Every valid choice is a piece-unifier by Definition 11.": of a question that is taken up, what is listed is
  -- exactly what is published and merges no more than its pairing needs
  pub exact_steps : SoundBook book → {M : Question} → Explores book M → (r : Rule) (n : ℕ) (X : Question)
      → ((n, X) ∈ listed apart r M) ↔ Publishes apart r M n X
  -- with answer places (02, a) the answer record is "always left": the choices are of the other atoms alone, and so are
  -- their numbers
  pub record_left : SoundBook book → {M : Question} → Explores book M → (r : Rule) → r ∈ (book_of book).rules
      → listed apart r M
      ≡ collect
      (λ ds. label (choice_number (length r.head) ds) (step apart r M (leading (asking M).answer ds)))
      (keep some_sent (choices (length r.head) (length (asking M).atoms)))
  -- "Any other published one merges more than its pairing needs; its rewriting must be covered by that of some valid
  -- choice."
  pub others_covered : SoundBook book → {M : Question} → Explores book M
      → (r : Rule) (μ : PieceUnifier M (move apart r))
      → (n : ℕ) × (P : Question) × ((n, P) ∈ listed apart r M) × Covers P (beta μ)

-- DEMAND 3. "If the number is 0:"
pub record Demand3 (book after : List ℕ) : Type 0 where
  -- "for every finite ledger over the book's relations, of named things in the book or not, some member of the written
  -- union holds in it exactly when some finite chain of rule applications, each bringing fresh unknowns, reaches facts
  -- in which the book's question holds."; with answer places, "of each row of named things" (02, a): some member gives
  -- the row exactly when a chain reaches facts in which the question gives it
  pub rows : (row : List ℕ) (F : Question) → Ledger (book_of book).places F
      → SomeGives (members_of (atom_places book) (answers_of book) after) row F ↔ DerivesRow (book_of book).rules (book_of book).question row F
  -- And so it is of every finite set of facts, over constants and unknowns and over any relations but the record's.
  pub any_rows : (row : List ℕ) (F : Question) → NoRecord F
      → SomeGives (members_of (atom_places book) (answers_of book) after) row F ↔ DerivesRow (book_of book).rules (book_of book).question row F
  -- Without answer places it is 01's sentence, of ledgers and of every finite set of facts.
  pub ledgers : (book_of book).question.answer ≡ [] → (F : Question) → Ledger (book_of book).places F
      → SomeHolds (members_of (atom_places book) (answers_of book) after) F ↔ Derives (book_of book).rules (book_of book).question.atoms F
  pub answers : (book_of book).question.answer ≡ [] → (F : Question)
      → SomeHolds (members_of (atom_places book) (answers_of book) after) F ↔ Derives (book_of book).rules (book_of book).question.atoms F
  -- "No member covers another."
  pub apart_from_others : Apart Covers (members_of (atom_places book) (answers_of book) after)
  -- "Each is reached from the question by rewriting steps."
  pub reached : (M : Question) → M ∈ members_of (atom_places book) (answers_of book) after
      → Reached apart (book_of book).rules (joined (book_of book).question) M
  -- "There are 1 to 64 members of 1 to 8 atoms, each a form."; with rules of empty bodies (02, c) of 0 to 8
  pub some_member : 1 ≤ length (members_of (atom_places book) (answers_of book) after)
  pub most_members : length (members_of (atom_places book) (answers_of book) after) ≤ 64
  pub most_atoms : (M : Question) → M ∈ members_of (atom_places book) (answers_of book) after → length (asking M).atoms ≤ 8
  pub formed : (M : Question) → M ∈ members_of (atom_places book) (answers_of book) after → form M ≡ M
  -- with answer places (02, a): each has its answer record first and no other, with as many places as the question's,
  -- and every answer variable stands in an atom of its member
  pub shaped : (M : Question) → M ∈ members_of (atom_places book) (answers_of book) after → Shaped (length (book_of book).question.answer) M
  -- "no member has an answer variable outside its atoms, so one without atoms has only constants to answer" (02, c)
  pub only_constants : (M : Question) → M ∈ members_of (atom_places book) (answers_of book) after → (asking M).atoms ≡ []
      → (t : Term) → t ∈ (asking M).answer → (c : ℕ) × (t ≡ con c)

module _ {book out : List ℕ} {number place : ℕ} {after : List ℕ} (given : Answers book out number place after) where
  pub demand_1 : Demand1 book out number place after
  demand_1 =
      record {
        determined = same;
        refused = refused_exactly given;
        complete = complete_exactly given;
        unchanged = refusal_unchanged given;
        untouched = rest_untouched given;
        no_more = same_length given;
      }
    where
      same : {n p : ℕ} {a : List ℕ} → Answers book out n p a → (number ≡ n) × (place ≡ p) × (after ≡ a)
      same other =
          let e = given.answers ∙ sym other.answers in
          (ap (λ (x : ℕ × ℕ). x.0) e, ap (λ (x : ℕ × ℕ). x.1) e, given.writes ∙ sym other.writes)

  pub demand_2 : Demand2 book out number place after
  demand_2 =
      record {
        the_run = the_run given;
        every_run = every_run given;
        the_place = the_place given;
        the_bytes = the_bytes given;
        the_steps = λ M. rules_in_order (book_of book).rules M;
        in_order = λ r M. listed_ascending apart r M;
        exact_steps = λ sound x. published_exactly book sound x;
        record_left = λ sound x. left_alone book sound x;
        others_covered = λ sound x. published_covered book sound x;
      }

  pub demand_3 : number ≡ 0 → Demand3 book after
  demand_3 zero =
      record {
        rows = λ row F ledger. run_rows book sound ran row F (ledger_free book sound F ledger);
        any_rows = run_rows book sound ran;
        ledgers = λ none F ledger. run_holds book sound ran none F;
        answers = λ none F. run_holds book sound ran none F;
        apart_from_others = left.apart;
        reached = λ M m. (left.good M m).reached;
        some_member = left.some_member;
        most_members = most_members book sound ran;
        most_atoms = λ M m. few_atoms book sound (left.good M m);
        formed = λ M m. (left.good M m).formed;
        shaped = λ M m. (left.good M m).shaped;
        only_constants = λ M m. constants-alone (asking M) (left.good M m).shaped.stands;
      }
    where
      sound : SoundBook book
      sound = (whole_given given zero).sound

      ran : outcome_of book ≡ complete (members_of (atom_places book) (answers_of book) after) (explored_of after)
      ran = the_outcome given zero

      left :
          Left Covers (all_rewritings (book_of book).rules) (joined (book_of book).question) (Member book)
          (members_of (atom_places book) (answers_of book) after)
      left = whole book sound ran
