-- The place is that of the first byte that is not allowed, as the search finds it. Assumes nothing.
use Rattle.std.proofs.Common.{rules, tests, ◌≡◌, ◌+◌, ◌-◌, ◌∙◌, not, ltb, arith}
use Rattle.std.proofs.lemmas.Iterator.{YieldsList-from_range}
use Rattle.std.proofs.lemmas.Iterator.Search.{find_from_yields_List}
use Rattle.reading.specs.Word.{byte}
use Rattle.reading.specs.Header.{variables}
use Rattle.reading.specs.Refusals.{place_allowed}
use Rattle.reading.proofs.Forms.{form_known}
use Rattle.judging.proofs.FirstFound.{place_told}
use Rattle.judging.proofs.judge.wrong_place.Goals as goal

pub variables-k-requires : goal.variables-k-requires
variables-k-requires c = omega (arith, c.requires.1, (form_known c.args.book.now).few_places)

pub returns : goal.returns
returns c =
    let a = c.args in
    let B = a.book.now in
    let k = c.variables-k.result in
    let many : k ≡ variables B = omega (arith, c.variables-k.ensures, c.requires.1, (form_known B).variables_are) in
    c.refused_at.ensures
    ∙ place_told B a.i a.n c.find-wrong.result a.used k a.c many c.requires.3
    (find_from_yields_List (λ j. not (place_allowed k a.c (ltb (j - a.i) a.used) (byte B j))) _ _ _
    c.find-wrong.ensures.ran
    (YieldsList-from_range a.i (a.i + a.n) a.n (search rules) (omega arith)) (λ x b q k. search (rules, tests)))
