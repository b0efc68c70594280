-- `unify::byte::shifted` meets its contract: a variable goes up by the shift, a constant stays.
use native.Mathlib.Omega.{arith}
use Rattle.unify.proofs.ValidTests.{up_variable, up_constant}
use Rattle.unify.proofs.byte.shifted.Goals as goal

pub returns-then-u-lt48 : goal.returns-then-u-lt48
returns-then-u-lt48 c = up_variable _ _ (omega arith)

pub returns : goal.returns
returns c = up_constant c.args.shift _ (c.requires.0 c.if-u-lt48.false)
