-- `unify::byte::stands_for` meets its contract: a variable is looked up, anything else stands for itself.
use mathlib.Core.Path.{sym}
use native.Mathlib.Omega.{arith}
use Rattle.unify.proofs.TableBytes.{look_variable, look_other}
use Rattle.unify.proofs.byte.stands_for.Goals as goal

pub returns-then-t-lt96 : goal.returns-then-t-lt96
returns-then-t-lt96 c =
    let a = c.args in
    rw c.from.ensures (sym (look_variable a.table.now a.t (omega arith) (omega arith)))

pub returns : goal.returns
returns c =
    let a = c.args in
    sym (look_other a.table.now a.t (omega arith))
