-- The place is that of the first variable that stands in no atom, as the search finds it. Assumes nothing.
use Rattle.std.proofs.Common.{rules, tests, ◌≡◌, ◌+◌, ◌*◌, ◌∙◌, not, arith}
use Rattle.std.proofs.lemmas.Iterator.{YieldsList-from_range}
use Rattle.std.proofs.lemmas.Iterator.Search.{find_from_yields_List}
use Rattle.covering.specs.Record.{holding, atoms_at}
use Rattle.reading.specs.Word.{byte}
use Rattle.reading.specs.Header.{variables}
use Rattle.reading.specs.Verdict.{stands_in}
use Rattle.reading.proofs.Forms.{form_known}
use Rattle.judging.proofs.FirstFound.{loose_told}
use Rattle.judging.proofs.answer.loose_from.Goals as goal

pub returns : goal.returns
returns c =
    let a = c.args in
    let B = a.book.now in
    let A = atoms_at (holding a.w) B (a.i + a.w) a.n in
    let many : 8 * a.w ≡ variables B = omega (arith, c.requires.1, (form_known B).variables_are) in
    c.refused_at.ensures
    ∙ loose_told B a.i a.w c.find-loose.result A (8 * a.w) many
    (find_from_yields_List (λ j. not (stands_in (8 * a.w) A (byte B j))) _ _ _ c.find-loose.ensures.ran
    (YieldsList-from_range a.i (a.i + a.w) a.w (search rules) (omega arith)) (λ x b q k. search (rules, tests)))
