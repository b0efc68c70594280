-- The place is that of the first wide relation, as the search finds it. Assumes nothing.
use Rattle.std.proofs.Common.{rules, tests, ◌+◌, ◌∙◌, not, leb, arith}
use Rattle.std.proofs.lemmas.Iterator.{YieldsList-from_range}
use Rattle.std.proofs.lemmas.Iterator.Search.{find_from_yields_List}
use Rattle.reading.specs.Word.{byte}
use Rattle.reading.specs.Header.{old}
use Rattle.forms.proofs.LateSteps.{wide_told}
use Rattle.forms.proofs.old_form.wide_places.Goals as goal

pub returns : goal.returns
returns c =
    let a = c.args in
    c.refused_at.ensures
    ∙ wide_told a.book.now a.i a.n c.find-wide.result
    (find_from_yields_List (λ j. not (leb (byte a.book.now j) old.places)) _ _ _ c.find-wide.ensures.ran
    (YieldsList-from_range a.i (a.i + a.n) a.n (search rules) (omega arith)) (λ x b q k. search (rules, tests)))
