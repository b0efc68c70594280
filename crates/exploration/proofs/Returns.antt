-- What code shows at each of its returns: the contract (`Answers`) of an output that is too small, of a book that is
-- refused, of a run that is refused and of one that completes. Assumes nothing.
use mathlib.Core.Path.{◌≡◌, refl, sym, ◌∙◌, ap}
use mathlib.Core.Bool.{cond}
use mathlib.Core.List.{List, ◌++◌}
use Prim.Native.Nat.{ℕ, ◌≤◌, ◌<◌}
use lib.Dec.{eqb, ltb}
use borrow.Author.Tests.{le-ltb, eq-eqb, ne_eqb, lt-ltb}
use lib.ListN.{length, drop}
use Rattle.covering.specs.Term.{Question}
use Rattle.reading.specs.Header.{atom_places}
use Rattle.reading.specs.Verdict.{verdict, SoundBook}
use Rattle.exploration.specs.Run.{Why, refusal_number, complete, refused}
use Rattle.exploration.specs.Union.{output_size, total, union_bytes}
use Rattle.exploration.specs.Answer.{Result, union, refusal, result_of, outcome_of, result, answer, written}
use Rattle.exploration.specs.Answer.{answer_of, written_of, Answers}

module _ (book out : List ℕ) where
  read : Result
  read =
      cond (eqb (verdict book).number 0) (result_of (outcome_of book))
      (refusal (verdict book).number (verdict book).place)

  result_is : result book (length out) ≡ cond (ltb (length out) output_size) (refusal 1 0) read
  unfolding result read
  result_is = refl

  given : (r : Result) → result book (length out) ≡ r → Answers book out (answer (atom_places book) r).0 (answer (atom_places book) r).1 (written (atom_places book) r out)
  unfolding answer_of written_of
  given r e =
      record { answers = ap (answer (atom_places book)) (sym e); writes = ap (λ (x : Result). written (atom_places book) x out) (sym e) }

  pub returns_small : length out < output_size → Answers book out 1 0 out
  returns_small l =
      given (refusal 1 0) (result_is ∙ ap (λ b. cond b (refusal 1 0) read) (lt-ltb (length out) output_size l))

  module _ (roomy : output_size ≤ length out) where
    result_read : result book (length out) ≡ read
    result_read = result_is ∙ ap (λ b. cond b (refusal 1 0) read) (le-ltb (length out) output_size roomy)

    pub returns_unsound : (SoundBook book → ⊥) → Answers book out (verdict book).number (verdict book).place out
    unfolding read
    returns_unsound f =
        given (refusal (verdict book).number (verdict book).place)
        (result_read
        ∙ ap
        (λ b. cond b (result_of (outcome_of book)) (refusal (verdict book).number (verdict book).place))
        (ne_eqb (verdict book).number 0 f))

    module _ (sound : SoundBook book) where
      result_ran : result book (length out) ≡ result_of (outcome_of book)
      unfolding read
      result_ran =
          result_read
          ∙ ap
          (λ b. cond b (result_of (outcome_of book)) (refusal (verdict book).number (verdict book).place))
          (eq-eqb (verdict book).number 0 sound)

      pub returns_refused : {w : Why} {p : ℕ} → outcome_of book ≡ refused w p → Answers book out (refusal_number w) p out
      returns_refused {w} {p} e = given (refusal (refusal_number w) p) (result_ran ∙ ap result_of e)

      pub returns_union : {U : List Question} {n : ℕ} → outcome_of book ≡ complete U n
          → Answers book out 0 (total (atom_places book) U) (union_bytes (atom_places book) U n ++ drop (total (atom_places book) U) out)
      returns_union {U} {n} e = given (union U n) (result_ran ∙ ap result_of e)
