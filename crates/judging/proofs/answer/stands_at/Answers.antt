-- The variable is one of the places before the first 255. Assumes nothing.
use Rattle.std.proofs.Common.{rules, tests, ◌+◌, ◌∙◌, eqb, arith}
use Rattle.std.proofs.lemmas.Iterator.{YieldsList-from_range}
use Rattle.std.proofs.lemmas.Iterator.Search.{YieldsList-from_take_while, any_from_yields_List}
use Rattle.reading.specs.Word.{byte}
use Rattle.judging.proofs.Taken.{is_used, has_taken}
use Rattle.judging.proofs.answer.stands_at.Goals as goal

pub returns : goal.returns
returns c =
    let a = c.args in
    any_from_yields_List (λ j. eqb a.b (byte a.book.now j)) _ _ _ c.any.ensures.ran
    (YieldsList-from_take_while _ (is_used a.book.now)
    (YieldsList-from_range a.i (a.i + a.n) a.n (search rules) (omega arith))
    c.take_while.ensures.closure c.take_while.ensures.done (λ x b q k. search (rules, tests)))
    (λ x b q k. search (rules, tests))
    ∙ has_taken a.book.now a.b c.requires.1 a.i a.n
