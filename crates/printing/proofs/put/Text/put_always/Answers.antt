-- `printing::put::Text::put_always` meets its contract.
use native.Mathlib.Omega.{arith}
use Rattle.printing.proofs.Adding.{adds_none, adds_as}
use Rattle.printing.proofs.Texts.{always_not, always_alone, always_after}
use Rattle.printing.proofs.put.Text.put_always.Goals as goal

pub returns-then-count-ne0 : goal.returns-then-count-ne0
returns-then-count-ne0 c =
    let a = c.args in
    adds_as (always_not a.count a.answers c.if-count-ne0.true) (adds_none (omega arith))

pub returns-then-answers-eq0 : goal.returns-then-answers-eq0
returns-then-answers-eq0 c =
    let a = c.args in
    adds_as (always_alone a.count a.answers (omega arith) (omega arith)) c.put.ensures

pub returns : goal.returns
returns c =
    let a = c.args in
    adds_as (always_after a.count a.answers (omega arith) c.if-answers-eq0.false) c.put-2.ensures
