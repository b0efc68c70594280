-- `printing::put::Text::put_line` meets its contract: five puts one after the other.
use Rattle.printing.proofs.Adding.{adds_as, then}
use Rattle.printing.proofs.Texts.{line_is}
use Rattle.printing.proofs.put.Text.put_line.Goals as goal

pub returns : goal.returns
returns c =
    let a = c.args in
    adds_as (line_is a.first.now a.m a.second.now a.n)
    (then c.put.ensures
    (then c.put_decimal.ensures
    (then c.put-2.ensures (then c.put_decimal-2.ensures c.put-3.ensures))))
