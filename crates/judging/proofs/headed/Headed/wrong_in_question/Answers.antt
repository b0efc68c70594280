-- The answer record stands before the atoms, which start after it where there is one. Assumes nothing.
use Rattle.std.proofs.Common.{◌≡◌, ◌+◌, ◌*◌, ℕ, List, sym, ◌∙◌, ap, ap₂, arith}
use Rattle.reading.specs.declared.Header.{Header}
use Rattle.reading.specs.Header.{answer_records, question_atoms_at}
use Rattle.reading.specs.Verdict.{told, wrong_in_atoms}
use Rattle.reading.proofs.SoundQuestion.{records_few}
use Rattle.judging.specs.Judged.{HeaderRight}
use Rattle.judging.proofs.JudgedHeader.{known, few_places, is_question, is_atoms, is_records, counts_fit}
use Rattle.judging.proofs.JudgingSteps.{handed, stops_else, passes_else, question_is}
use Rattle.judging.proofs.headed.Headed.wrong_in_question.Goals as goal

-- where the atoms start, by the bytes z of the n answer records
after : {B : List ℕ} {h : Header} → HeaderRight B h → {n z : ℕ} → n ≡ answer_records B → z ≡ (1 + h.places) * n
    → h.question + z ≡ question_atoms_at B
after r e d =
    let sized = d ∙ ap₂ (λ (w n : ℕ). (1 + w) * n) (known r).places_are e in omega (arith, is_question r, sized)

pub returns-in_err-wrong_answer : goal.returns-in_err-wrong_answer
returns-in_err-wrong_answer c =
    handed _ _ c.from_residual.ensures.1 (stops_else 7 _ _ _ c.in_err-wrong_answer.ensures)
    ∙ ap (told 7) (sym (question_is c.args.self.book.now))

pub answers-requires : goal.answers-requires
answers-requires c = counts_fit c.args.self.right

pub atoms_size-requires : goal.atoms_size-requires
atoms_size-requires c =
    let r = c.args.self.right in
    (few_places r, omega (arith, is_records r c.answers.ensures, records_few c.args.self.book.now))

pub wrong_in_atoms-requires : goal.wrong_in_atoms-requires
wrong_in_atoms-requires c =
    let r = c.args.self.right in
    omega (arith, after r (is_records r c.answers.ensures) c.atoms_size.ensures.0, is_question r, (known r).ends)

pub returns : goal.returns
returns c =
    let B = c.args.self.book.now in
    let r = c.args.self.right in
    c.wrong_in_atoms.ensures
    ∙ ap₂ (λ (i n : ℕ). told 7 (wrong_in_atoms B i n))
    (after r (is_records r c.answers.ensures) c.atoms_size.ensures.0) (is_atoms r)
    ∙ ap (told 7) (sym (question_is B ∙ passes_else 7 _ _ (omega arith) c.in_ok-wrong_answer.ensures))
