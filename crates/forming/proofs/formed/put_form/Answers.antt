-- `forming::formed::put_form` meets its contract: where no two atoms are equal none is dropped.
use mathlib.Core.Path.{ap, sym, ◌∙◌}
use Rattle.covering.specs.Form.{renumber, form}
use Rattle.forming.proofs.formed.put_form.Goals as goal

pub returns-then-all_differ : goal.returns-then-all_differ
unfolding form
returns-then-all_differ c =
    let p = c.put_renumbered.ensures in
    (p.0, p.1 ∙ ap renumber (sym (c.all_differ.ensures c.if-all_differ.true)))

pub returns : goal.returns
unfolding form
returns c =
    let p = c.put_renumbered-2.ensures in
    (p.0, p.1 ∙ ap renumber (c.lent.ensures ∙ c.drop_equal-kept.ensures))
