-- `forming::formed::held_form` meets its contract: a record with no atom is lent, and what is put there is one.
use mathlib.Core.Path.{ap, ◌∙◌}
use Rattle.covering.specs.Record.{stored}
use Rattle.covering.specs.Buffer.{held_in, record_room}
use Rattle.forming.proofs.formed.held_form.Goals as goal

pub put_form-requires : goal.put_form-requires
put_form-requires c =
    c.out.invariant.rest ∙ ap (held_in stored record_room) (c.out.view_is ∙ c.empty-out.ensures)

pub invariant_of-out : goal.invariant_of-out
invariant_of-out c = c.put_form.ensures.0

pub returns : goal.returns
returns c = c.put_form.ensures.1
