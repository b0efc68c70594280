-- `unify::unknowns::is_unknown` meets its contract: a constant is no variable, and any other term is one that stands in the
-- body or does not.
use mathlib.Core.Path.{ap}
use mathlib.Core.Bool.{not}
use Rattle.unify.proofs.ValidTests.{is_var_lem, is_con}
use Rattle.unify.proofs.unknowns.is_unknown.Goals as goal

pub returns-then-u-ge128 : goal.returns-then-u-ge128
returns-then-u-ge128 c = rw (is_con _ c.if-u-ge128.true)

pub returns : goal.returns
returns c = rw (is_var_lem _ c.if-u-ge128.false) (ap not c.stands_in.ensures)
