-- `forming::formed::in_form` meets its contract: the bytes of a record are those that hold its question.
use mathlib.Core.Path.{ap, ◌∙◌}
use Rattle.covering.specs.Record.{stored}
use Rattle.covering.specs.Buffer.{held_in, record_room}
use Rattle.forming.proofs.formed.in_form.Goals as goal

pub returns : goal.returns
returns c = let p = c.put_form.ensures in p.0.rest ∙ ap (held_in stored record_room) p.1
