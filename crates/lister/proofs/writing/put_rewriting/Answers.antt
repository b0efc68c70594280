-- `lister::writing::put_rewriting` meets its contract: the left atoms and the body, each class replaced, then the form of the
-- whole.
use mathlib.Core.Path.{ap, ◌∙◌}
use Rattle.covering.specs.Form.{form}
use Rattle.covering.specs.Buffer.{held_in, record_room}
use Rattle.covering.specs.Record.{stored}
use Rattle.lister.proofs.writing.put_rewriting.Goals as goal

pub in_form-requires : goal.in_form-requires
in_form-requires c = c.whole.invariant.sound

pub returns : goal.returns
returns c =
    c.in_form.ensures
    ∙ ap (λ Q. held_in stored record_room (form Q)) (c.whole.view_is ∙ c.replaced-whole.ensures)
