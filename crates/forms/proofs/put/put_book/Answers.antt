-- `forms::put::put_book` meets its contract: the relations, the rules and the question are put one after the other, and
-- the header before them.
use Rattle.std.proofs.Common.{◌≡◌, ◌+◌, ℕ, List, cond, eqb, sym, ◌∙◌, ap, arith}
use lib.Seq.{length-take-le}
use Rattle.covering.proofs.Putting.{kept}
use Rattle.reading.specs.declared.Header.{Header}
use Rattle.reading.specs.Header.{header_of, end_with, answer_records}
use Rattle.reading.specs.Verdict.{form_in}
use Rattle.reading.proofs.Known.{records_told}
use Rattle.reading.proofs.SoundBook.{sound_long}
use Rattle.reading.proofs.SoundQuestion.{records_few}
use Rattle.forms.proofs.Headed.{headed}
use Rattle.forms.proofs.Whole.{table_room, rules_room, question_in, question_few, question_room, words_fit}
use Rattle.forms.proofs.Whole.{few_words, words_room, book_put}
use Rattle.forms.proofs.put.put_book.Goals as goal

-- how many records the question has in all
counted : (B : List ℕ) {h : Header} → h ≡ header_of B → {a : ℕ}
    → a ≡ cond (eqb h.total (end_with (form_in h) h.question h.atoms)) 1 0 → a + h.atoms ≡ answer_records B + h.atoms
counted B {h} is e = ap (λ (n : ℕ). n + h.atoms) (e ∙ records_told B h is)

pub read-h-requires : goal.read-h-requires
read-h-requires c = sound_long _ c.requires.0.sound

pub put_bytes-start-requires : goal.put_bytes-start-requires
put_bytes-start-requires c = (
  (headed _ c.requires.0.sound c.read-h.ensures.is).table_in,
  omega (arith, table_room _ _ c.requires.0 (sym c.header-table.ensures) c.read-h.ensures.is),
)

pub put_rules-question-requires : goal.put_rules-question-requires
put_rules-question-requires c =
    let is = c.read-h.ensures.is in (
      c.requires.0,
      is,
      rules_room _ _ c.requires.0 (sym c.header-table.ensures) is c.put_bytes-start.ensures c.requires.1,
    )

pub answers-requires : goal.answers-requires
answers-requires c =
    let r = c.read-h.ensures in
    (rw r.is r.atoms_fit, rw r.is r.question_fits)

pub overflow_add-n : goal.overflow_add-n
overflow_add-n c =
    let B = c.args.book.now in
    let is = c.read-h.ensures.is in
    omega (arith, counted B is c.answers.ensures, records_few B, (headed B c.requires.0.sound is).few_atoms)

pub copy_atoms-end-requires : goal.copy_atoms-end-requires
copy_atoms-end-requires c =
    let own = sym c.header-table.ensures in
    let is = c.read-h.ensures.is in
    let n = counted _ is c.answers.ensures in
    let v = c.places-v.ensures in
    let p₁ = c.put_bytes-start.ensures in
    let p₂ = c.put_rules-question.ensures in (
      question_in _ _ c.requires.0 own is p₁ c.requires.1 p₂ n v,
      question_few _ _ c.requires.0 own is p₁ c.requires.1 p₂ n v,
      question_room _ _ c.requires.0 own is p₁ c.requires.1 p₂ n v,
    )

pub slice_bounds-words-end : goal.slice_bounds-words-end
slice_bounds-words-end c =
    let own = sym c.header-table.ensures in
    let is = c.read-h.ensures.is in
    let n = counted _ is c.answers.ensures in
    few_words _ _ c.requires.0 own is c.put_bytes-start.ensures c.requires.1 c.put_rules-question.ensures n
    c.places-v.ensures c.copy_atoms-end.ensures

pub slice_bounds-put_words-end : goal.slice_bounds-put_words-end
slice_bounds-put_words-end c =
    let own = sym c.header-table.ensures in
    let is = c.read-h.ensures.is in
    let n = counted _ is c.answers.ensures in
    let few = few_words _ _ c.requires.0 own is c.put_bytes-start.ensures c.requires.1 c.put_rules-question.ensures n
    c.places-v.ensures c.copy_atoms-end.ensures in
    sym (length-take-le _ _ few)

pub put_words-requires : goal.put_words-requires
put_words-requires c =
    let own = sym c.header-table.ensures in
    let is = c.read-h.ensures.is in
    let n = counted _ is c.answers.ensures in
    let v = c.places-v.ensures in
    let p₁ = c.put_bytes-start.ensures in
    let p₂ = c.put_rules-question.ensures in
    let p₃ = c.copy_atoms-end.ensures in (
      words_fit _ _ c.requires.0 own is p₁ c.requires.1 p₂ n v p₃,
      words_room _ _ c.requires.0 own is p₁ c.requires.1 p₂ n v p₃,
    )

pub returns : goal.returns
returns c =
    let own = sym c.header-table.ensures in
    let is = c.read-h.ensures.is in
    let n = counted _ is c.answers.ensures in
    book_put _ _ c.requires.0 own is c.put_bytes-start.ensures c.requires.1 c.put_rules-question.ensures n
    c.places-v.ensures c.copy_atoms-end.ensures c.put_words.ensures

pub shape_of-out : goal.shape_of-out
shape_of-out c = kept (returns c)
