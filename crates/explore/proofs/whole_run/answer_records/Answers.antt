-- `explore::whole_run::answer_records` meets its contract: what the header says is what the question has.
use native.Mathlib.Omega.{arith}
use mathlib.Core.Path.{◌≡◌, sym, ap, ◌∙◌}
use Rattle.reading.specs.declared.Header.{Header}
use Rattle.reading.specs.Header.{answer_records}
use Rattle.reading.proofs.Known.{records_told}
use Rattle.reading.proofs.SoundBook.{sound_long}
use Rattle.reading.proofs.SoundQuestion.{records_few}
use Rattle.reading.proofs.QuestionRead.{question_records}
use Rattle.explore.proofs.whole_run.answer_records.Lts as lts
use Rattle.explore.proofs.whole_run.answer_records.Reads as reads
use Rattle.explore.proofs.whole_run.answer_records.Tie as tie
use Rattle.explore.proofs.whole_run.answer_records.Goals as goal

abbrev After-answers : Type 0
After-answers = lts.After-answers tie.the-claims reads.Pre reads.Post

-- the number that was read
told : (c : After-answers) → c.answers.result ≡ answer_records c.args.book.now
told c = c.answers.ensures ∙ records_told _ _ c.read.ensures.is

pub read-requires : goal.read-requires
read-requires c = sound_long _ c.requires

pub answers-requires : goal.answers-requires
answers-requires c =
    let r = c.read.ensures in (
      omega (arith, ap (λ (h : Header). h.atoms) r.is, r.atoms_fit),
      omega (arith, ap (λ (h : Header). h.question) r.is, r.question_fits),
    )

pub overflow_cast-result : goal.overflow_cast-result
overflow_cast-result c = omega (arith, told c.before, records_few c.args.book.now)

pub returns : goal.returns
returns c = told c.before ∙ sym (question_records _ c.requires)
