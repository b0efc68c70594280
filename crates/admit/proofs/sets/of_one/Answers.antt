-- `admit::sets::of_one` meets its contract: the first set is stored.
use mathlib.Core.Path.{refl}
use Rattle.admit.proofs.sets.of_one.Goals as goal

pub returns : goal.returns
returns c = (refl, c.relations.ensures)
