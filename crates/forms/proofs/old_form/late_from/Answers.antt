-- The place is that of the first variable above 31, as the search finds it. Assumes nothing.
use Rattle.std.proofs.Common.{rules, tests, ◌+◌, ◌∙◌, not, arith}
use Rattle.std.proofs.lemmas.Iterator.{YieldsList-from_range}
use Rattle.std.proofs.lemmas.Iterator.Search.{find_from_yields_List}
use Rattle.reading.specs.Word.{byte}
use Rattle.reading.specs.Copy.{term_old}
use Rattle.forms.proofs.LateSteps.{late_told}
use Rattle.forms.proofs.old_form.late_from.Goals as goal

pub returns : goal.returns
returns c =
    let a = c.args in
    c.refused_at.ensures
    ∙ late_told a.book.now a.i a.n c.find-late.result
    (find_from_yields_List (λ j. not (term_old (byte a.book.now j))) _ _ _ c.find-late.ensures.ran
    (YieldsList-from_range a.i (a.i + a.n) a.n (search rules) (omega arith)) (λ x b q k. search (rules, tests)))
