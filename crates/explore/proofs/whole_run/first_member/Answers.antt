-- `explore::whole_run::first_member` meets its contract: the record's question is the book's.
use mathlib.Core.Path.{sym, ap, ◌∙◌, subst}
use Rattle.covering.specs.Form.{form}
use Rattle.covering.specs.Record.{stored, question_of, SoundRecord}
use Rattle.covering.specs.Buffer.{held_in, record_room}
use Rattle.reading.proofs.Fits.{question_stored}
use Rattle.covering.proofs.Padded.{stored_sound, stored_question}
use Rattle.explore.proofs.whole_run.first_member.Goals as goal

pub invariant_of-held_form : goal.invariant_of-held_form
invariant_of-held_form c =
    let p = c.requires in
    subst (SoundRecord stored) (sym c.question-question.ensures) (stored_sound _ (question_stored _ p.0 p.1))

pub returns : goal.returns
returns c =
    let p = c.requires in
    c.first.invariant.rest
    ∙ ap (held_in stored record_room)
    (c.first.view_is
    ∙ c.held_form-first.ensures
    ∙ ap form (ap (question_of stored) c.question-question.ensures ∙ stored_question _ (question_stored _ p.0 p.1)))
