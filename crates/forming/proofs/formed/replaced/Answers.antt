-- `forming::formed::replaced` meets its contract: a variable's byte is the table's, any other stays.
use native.Mathlib.Omega.{arith}
use mathlib.Core.Path.{sym}
use Rattle.forming.specs.Building.{sub_of}
use Rattle.forming.proofs.AtomBytes.{variable_on, constant_on}
use Rattle.forming.proofs.formed.replaced.Goals as goal

pub returns-then-t-ge96 : goal.returns-then-t-ge96
returns-then-t-ge96 c = sym (constant_on (sub_of c.args.table.now) c.args.t (c.requires.1 c.if-t-ge96.true))

pub returns : goal.returns
returns c = rw c.from.ensures (sym (variable_on c.args.table.now c.args.t (omega (arith, c.if-t-ge96.false))))
