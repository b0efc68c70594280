-- `printing::put::Text::put_all` meets its contract.
use native.Mathlib.Omega.{arith}
use Rattle.printing.proofs.Adding.{adds_none, adds_as, then}
use Rattle.printing.proofs.Texts.{all_none, all_some}
use Rattle.printing.proofs.put.Text.put_all.Goals as goal

pub returns-then-n-eq0 : goal.returns-then-n-eq0
returns-then-n-eq0 c =
    let a = c.args in
    adds_as (all_none a.output.now a.i a.n c.if-n-eq0.true) (adds_none (omega arith))

pub returns : goal.returns
returns c =
    let a = c.args in
    adds_as (all_some a.output.now a.i a.n (omega arith)) (then c.put_atom.ensures c.put_atoms.ensures)
