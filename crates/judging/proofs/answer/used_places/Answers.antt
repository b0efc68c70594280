-- Those counted are the places before the first 255. Assumes nothing.
use Rattle.std.proofs.Common.{rules, tests, ◌+◌, ◌∙◌, arith}
use Rattle.std.proofs.lemmas.Iterator.{YieldsList-from_range}
use Rattle.std.proofs.lemmas.Iterator.Search.{YieldsList-from_take_while}
use Rattle.std.proofs.lemmas.Iterator.Consumers.{count_from_yields_List}
use Rattle.judging.proofs.Taken.{is_used, used_taken}
use Rattle.judging.proofs.answer.used_places.Goals as goal

pub returns : goal.returns
returns c =
    let a = c.args in
    count_from_yields_List _ _ c.count.ensures.ran
    (YieldsList-from_take_while _ (is_used a.book.now)
    (YieldsList-from_range a.i (a.i + a.n) a.n (search rules) (omega arith))
    c.take_while.ensures.closure c.take_while.ensures.done (λ x b q k. search (rules, tests)))
    ∙ used_taken a.book.now a.i a.n
