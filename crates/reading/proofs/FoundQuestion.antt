-- The same of the searches in the question: its answer record comes before its atoms. Assumes nothing.
use mathlib.Core.Path.{◌≡◌, refl, ap}
use mathlib.Core.Logic.{◌⊎◌, inl, inr}
use mathlib.Core.List.{List}
use Prim.Native.Nat.{ℕ, ◌+◌, ◌*◌, ◌≤◌, ◌<◌}
use native.Mathlib.Omega.{arith}
use lib.Dec.{T, eqb}
use Rattle.covering.specs.Term.{Question}
use Rattle.covering.specs.Asking.{answer_relation}
use Rattle.covering.proofs.Tests.{cond_yes}
use Rattle.reading.specs.Word.{byte}
use Rattle.reading.specs.Header.{variables}
use Rattle.reading.specs.Header.{atoms, question_at, atom_size, atom_places, announced, answer_records}
use Rattle.reading.specs.Header.{question_atoms_at}
use Rattle.reading.specs.Book.{question_atoms}
use Rattle.reading.specs.Refusals.{answer_places}
use Rattle.reading.specs.Verdict.{wrong_answer, wrong_in_question, stands_in, loose_from, loose_variable}
use Rattle.reading.proofs.Earliest.{Earliest, earliest_test, earliest_else, earliest_where, Failing}
use Rattle.reading.proofs.Earliest.{earliest_each}
use Rattle.reading.proofs.Found.{PlaceFrom, place_earliest, AtomsFrom, atoms_earliest, atoms_from}

module _ (B : List ℕ) where
  -- an answer record that is announced is the one that there is
  pub records_one : T (announced B) → answer_records B ≡ 1
  records_one t = cond_yes (announced B) 1 0 t

  -- and the question's atoms start after it
  pub atoms_after : T (announced B) → question_atoms_at B ≡ question_at B + atom_size B
  atoms_after t = let e = ap (λ (n : ℕ). atom_size B * n) (records_one t) in omega arith

  -- 7: a byte of the answer record at i
  abbrev pub AnswerFrom : ℕ → ℕ → Type 0
  AnswerFrom i p =
      ((p ≡ i) × (T (eqb (byte B p) answer_relation) → ⊥)) ⊎ PlaceFrom B (answer_places B i) (i + 1) 0 (atom_places B) p

  answer_earliest : (i : ℕ) → Earliest (AnswerFrom i) (wrong_answer B i)
  unfolding wrong_answer
  answer_earliest i =
      earliest_else (earliest_test (λ p. eqb (byte B p) answer_relation) i)
      (place_earliest B (answer_places B i) (i + 1) 0 (atom_places B)) (λ p q v w. omega (arith, w.1, w.3))

  answer_from : (i p : ℕ) → AnswerFrom i p → i ≤ p
  answer_from i p (inl v) = omega arith
  answer_from i p (inr w) = omega (arith, w.3)

  answer_to : (i p : ℕ) → AnswerFrom i p → p < i + atom_size B
  answer_to i p (inl v) = omega arith
  answer_to i p (inr w) = omega (arith, w.2, w.3)

  -- a byte of the question
  abbrev pub QuestionFrom : ℕ → Type 0
  QuestionFrom p = (T (announced B) × AnswerFrom (question_at B) p) ⊎ AtomsFrom B (question_atoms_at B) (atoms B) p

  pub question_from : (p : ℕ) → QuestionFrom p → question_at B ≤ p
  question_from p (inl w) = answer_from (question_at B) p w.1
  question_from p (inr w) = omega (arith, atoms_from B (question_atoms_at B) (atoms B) p w)

  pub question_earliest : Earliest QuestionFrom (wrong_in_question B)
  unfolding wrong_in_question
  question_earliest =
      earliest_else (earliest_where (announced B) (answer_earliest (question_at B)))
      (atoms_earliest B (question_atoms_at B) (atoms B)) later
    where
      later : (p q : ℕ) → T (announced B) × AnswerFrom (question_at B) p → AtomsFrom B (question_atoms_at B) (atoms B) q
          → p ≤ q
      later p q v w =
          omega (
            arith,
            atoms_after v.0,
            answer_to (question_at B) p v.1,
            atoms_from B (question_atoms_at B) (atoms B) q w,
          )

  -- 11: a variable of the answer record
  abbrev pub LooseFrom : Question → ℕ → ℕ → ℕ → Type 0
  LooseFrom A = Failing (λ p. stands_in (variables B) A (byte B p))

  loose_from_lem : (A : Question) (i n : ℕ) → Earliest (LooseFrom A i n) (loose_from B A i n)
  unfolding loose_from
  loose_from_lem A = earliest_each (λ p. stands_in (variables B) A (byte B p)) (loose_from B A) (λ i. refl) (λ i n. refl)

  pub loose_earliest : Earliest (λ p. T (announced B) × LooseFrom (question_atoms B) (question_at B + 1) (atom_places B) p)
      (loose_variable B)
  unfolding loose_variable
  loose_earliest = earliest_where (announced B) (loose_from_lem (question_atoms B) (question_at B + 1) (atom_places B))
