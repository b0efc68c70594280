-- `printing::answer` meets its contract: the text is too short, or the answer is put into a text made of it.
use Rattle.std.proofs.Common.{rules}
use Rattle.printing.proofs.Adding.{made}
use Rattle.printing.proofs.Answered.{unanswered, all_answered}
use Rattle.printing.proofs.answer.Goals as goal

pub returns-then-text-lt-TEXT : goal.returns-then-text-lt-TEXT
returns-then-text-lt-TEXT c = unanswered _ _ c.if-text-lt-TEXT.true

pub returns : goal.returns
returns c =
    let made_of = c.new-lines.ensures in
    all_answered _ _ c.if-text-lt-TEXT.false (made made_of.room made_of.end (search rules) c.answer_any.ensures)
