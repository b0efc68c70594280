-- The place is that of the first byte out of range, as the search finds it. Assumes nothing.
use Rattle.std.proofs.Common.{rules, tests, ◌+◌, ◌∙◌, not, arith}
use Rattle.std.proofs.lemmas.Iterator.{YieldsList-from_range}
use Rattle.std.proofs.lemmas.Iterator.Search.{find_from_yields_List}
use Rattle.reading.specs.Word.{byte}
use Rattle.reading.specs.Header.{in_bounds}
use Rattle.judging.proofs.FirstFound.{places_told}
use Rattle.judging.proofs.judge.wrong_places.Goals as goal

pub returns : goal.returns
returns c =
    let a = c.args in
    c.refused_at.ensures
    ∙ places_told a.book.now a.i a.n c.find-wrong.result a.w c.requires.1
    (find_from_yields_List (λ j. not (in_bounds 1 a.w (byte a.book.now j))) _ _ _ c.find-wrong.ensures.ran
    (YieldsList-from_range a.i (a.i + a.n) a.n (search rules) (omega arith)) (λ x b q k. search (rules, tests)))
