-- Relations first, then the rules, then the question with its answer record. Assumes nothing.
use Rattle.std.proofs.Common.{◌≡◌, ◌+◌, ◌*◌, ℕ, List, cond, eqb, sym, ◌∙◌, ap, ap₂, arith}
use Rattle.reading.specs.declared.Header.{Header}
use Rattle.reading.specs.Header.{HeaderRead, end_with, answer_records, atoms, atom_places, relations, header_size}
use Rattle.reading.specs.Verdict.{told, form_in, SoundBook}
use Rattle.reading.specs.Copy.{wide_places, late_in_atoms}
use Rattle.reading.proofs.Known.{records_told}
use Rattle.reading.proofs.SoundBook.{sound_long, sound_header}
use Rattle.reading.proofs.SoundQuestion.{records_few}
use Rattle.judging.proofs.JudgingSteps.{handed, stops_else, passes_else}
use Rattle.forms.proofs.Headed.{headed}
use Rattle.forms.proofs.LateSteps.{in_order}
use Rattle.forms.proofs.old_form.no_old_form.Goals as goal

module _ (B : List ℕ) (sound : SoundBook B) {h : Header} (r : HeaderRead B h) where
  relations_there : told 13 (wide_places B h.table h.relations) ≡ told 13 (wide_places B (header_size B) (relations B))
  relations_there =
      let k = headed B sound r.is in ap₂ (λ (i n : ℕ). told 13 (wide_places B i n)) k.table_is k.relations_are

  -- how many records the question has in all, by the number of its answer records
  module _ {a : ℕ} (e : a ≡ cond (eqb h.total (end_with (form_in h) h.question h.atoms)) 1 0) where
    counted : a + h.atoms ≡ answer_records B + atoms B
    counted = ap₂ ◌+◌ (e ∙ records_told B h r.is) (headed B sound r.is).atoms_are

    sized : (1 + h.places) * (a + h.atoms) ≡ (1 + atom_places B) * (answer_records B + atoms B)
    sized = ap₂ (λ (w n : ℕ). (1 + w) * n) (headed B sound r.is).places_are counted

pub read-h-requires : goal.read-h-requires
read-h-requires c = sound_long _ c.requires

pub wide_places-requires : goal.wide_places-requires
wide_places-requires c = (headed _ c.requires c.read-h.ensures.is).table_in

pub returns-in_err-wide_places : goal.returns-in_err-wide_places
returns-in_err-wide_places c =
    let B = c.args.book.now in
    let e = relations_there B c.requires c.read-h.ensures in
    handed _ _ c.from_residual.ensures.1 (stops_else 13 _ _ _ (c.in_err-wide_places.ensures ∙ e))
    ∙ ap (told 13) (sym (in_order B))

pub returns-in_err-late_in_rules : goal.returns-in_err-late_in_rules
returns-in_err-late_in_rules c =
    let B = c.args.book.now in
    let e = relations_there B c.requires c.read-h.ensures in
    handed _ _ c.from_residual-in_err-late_in_rules.ensures.1 (stops_else 13 _ _ _ c.in_err-late_in_rules.ensures)
    ∙ ap (told 13) (sym (in_order B ∙ passes_else 13 _ _ (omega arith) (c.in_ok-wide_places.ensures ∙ e)))

pub answers-requires : goal.answers-requires
answers-requires c =
    let r = c.read-h.ensures in
    (rw r.is r.atoms_fit, rw r.is r.question_fits)

pub overflow_add-answers : goal.overflow_add-answers
overflow_add-answers c =
    let B = c.args.book.now in
    let k = headed B c.requires c.read-h.ensures.is in
    omega (arith, counted B c.requires c.read-h.ensures c.answers.ensures, records_few B, k.atoms_are, k.few_atoms)

pub late_in_atoms-requires : goal.late_in_atoms-requires
late_in_atoms-requires c =
    let B = c.args.book.now in
    let k = headed B c.requires c.read-h.ensures.is in
    let e = sized B c.requires c.read-h.ensures c.answers.ensures in
    (k.places_are, omega (arith, e, k.question_is, (sound_header B c.requires).ends))

pub returns : goal.returns
returns c =
    let B = c.args.book.now in
    let r = c.read-h.ensures in
    let e = relations_there B c.requires r in
    c.late_in_atoms.ensures
    ∙ ap₂ (λ (i n : ℕ). told 13 (late_in_atoms B i n)) (headed B c.requires r.is).question_is
    (counted B c.requires r c.answers.ensures)
    ∙ ap (told 13)
    (sym
    (in_order B
    ∙ passes_else 13 _ _ (omega arith) (c.in_ok-wide_places.ensures ∙ e)
    ∙ passes_else 13 _ _ (omega arith) c.in_ok-late_in_rules.ensures))
