-- The bytes of the question's atoms, behind their count, are its record. Assumes nothing.
use Rattle.std.proofs.Common.{◌≡◌, ◌+◌, ◌*◌, ◌-◌, ◌≤◌, ◌∷◌, ◌++◌, ℕ, suc, List, cond, eqb, length, take, drop, sym, ◌∙◌, ap, ap₂, arith}
use lib.ListN.{replicate}
use Rattle.covering.specs.Record.{stored}
use Rattle.covering.specs.Buffer.{held_in, record_room}
use Rattle.covering.proofs.RoundTrip.{stored_apart}
use Rattle.covering.proofs.Padded.{copied_held}
use Rattle.reading.specs.declared.Header.{Header}
use Rattle.reading.specs.Header.{HeaderRead, end_with, new, form_of, atoms, question_at, answer_records}
use Rattle.covering.specs.Asking.{joined}
use Rattle.reading.specs.Book.{book_of}
use Rattle.reading.specs.Verdict.{form_in, SoundBook}
use Rattle.reading.proofs.Known.{records_told}
use Rattle.reading.proofs.SoundBook.{sound_header, sound_long, stored_room}
use Rattle.reading.proofs.SoundQuestion.{sound_question, sound_atoms, records_few}
use Rattle.reading.proofs.QuestionRead.{joined_stored}
use Rattle.reading.proofs.Forms.{new_size}
use Rattle.book.proofs.question.Goals as goal

-- where they end, of seven bytes each
ends : (B : List ℕ) → SoundBook B → form_of B ≡ new → question_at B + 7 * (answer_records B + atoms B) ≡ length B
ends B s e =
    let sized = ap (λ (z : ℕ). z * (answer_records B + atoms B)) (new_size B e) in
    omega (arith, sized, (sound_question B s).ends)

module _ (B : List ℕ) (sound : SoundBook B) {h : Header} (r : HeaderRead B h) {a : ℕ}
    (told : a ≡ cond (eqb h.total (end_with (form_in h) h.question h.atoms)) 1 0)
  where
    -- how many atoms the record has, its answer record among them, and where they start
    count : a + h.atoms ≡ answer_records B + atoms B
    count = ap₂ ◌+◌ (told ∙ records_told B h r.is) (ap (λ (x : Header). x.atoms) r.is)

    few : a + h.atoms ≤ 9
    few = omega (arith, count, (sound_header B sound).few_atoms, records_few B)

    within : form_of B ≡ new → h.question + 7 * (a + h.atoms) ≤ length B
    within e = omega (arith, count, ap (λ (x : Header). x.question) r.is, ends B sound e)

    -- they are the record's, whose count is k, where the code writes them
    record_is : form_of B ≡ new
        → (a + h.atoms) ∷ (take (h.question + 7 * (a + h.atoms) - h.question) (drop h.question B)
        ++ drop (1 + 7 * (a + h.atoms) - 1) (replicate 84 255))
        ≡ held_in stored record_room (joined (book_of B).question)
    record_is e =
        let all = answer_records B + atoms B in
        let q = sound_question B sound in
        let is_q : h.question ≡ question_at B = ap (λ (x : Header). x.question) r.is in
        let long : h.question + 7 * (a + h.atoms) - h.question ≡ all * 7 = omega (arith, count) in
        let rest : 1 + 7 * (a + h.atoms) - 1 ≡ all * 7 = omega (arith, count) in
        let one : suc (all * 7) ≡ 1 + all * 7 = omega arith in
        ap₂ (λ (n m : ℕ). (a + h.atoms) ∷ (take n (drop h.question B) ++ drop m (replicate 84 255))) long rest
        ∙ ap₂ (λ (n i : ℕ). n ∷ (take (all * 7) (drop i B) ++ drop (all * 7) (replicate 84 255))) count is_q
        ∙ ap (λ (m : ℕ). all ∷ (take (all * 7) (drop (question_at B) B) ++ drop m (all ∷ replicate 84 255))) one
        ∙ copied_held stored stored_apart B (question_at B) all 84
        (record { fits = omega (arith, ends B sound e); sound = sound_atoms B sound stored (stored_room B sound e) (λ t. tt) })
        (omega (arith, q.few_atoms, records_few B))
        ∙ ap (held_in stored record_room) (sym (joined_stored B sound e))

pub read-h-requires : goal.read-h-requires
read-h-requires c = sound_long _ c.requires.0

pub answers-requires : goal.answers-requires
answers-requires c =
    let r = c.read-h.ensures in
    (rw r.is r.atoms_fit, rw r.is r.question_fits)

pub overflow_add-count : goal.overflow_add-count
overflow_add-count c = omega (arith, few _ c.requires.0 c.read-h.ensures c.answers.ensures)

pub overflow_mul-n : goal.overflow_mul-n
overflow_mul-n c = omega (arith, few _ c.requires.0 c.read-h.ensures c.answers.ensures)

pub overflow_cast-r : goal.overflow_cast-r
overflow_cast-r c = omega (arith, few _ c.requires.0 c.read-h.ensures c.answers.ensures)

pub slice_bounds-r-end : goal.slice_bounds-r-end
slice_bounds-r-end c = omega (arith, few _ c.requires.0 c.read-h.ensures c.answers.ensures)

pub slice_bounds-copy_from_slice-end : goal.slice_bounds-copy_from_slice-end
slice_bounds-copy_from_slice-end c = omega (arith, within _ c.requires.0 c.read-h.ensures c.answers.ensures c.requires.1)

pub returns : goal.returns
returns c =
    let B = c.args.book.now in
    let k = c.answers.result + c.read-h.result.atoms in
    ap (λ (l : List ℕ). k ∷ (l ++ drop (1 + 7 * k - 1) (replicate 84 255))) c.copy_from_slice.ensures.after
    ∙ record_is B c.requires.0 c.read-h.ensures c.answers.ensures c.requires.1
