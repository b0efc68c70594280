-- `printing::put::Text::put_relation` meets its contract: the letter of an answer record, or r and the number.
use Rattle.std.proofs.Common.{arith, length, ap, refl}
use Rattle.printing.proofs.Adding.{adds_as, then}
use Rattle.printing.proofs.Texts.{answer_text, numbered_text}
use Rattle.printing.proofs.put.Text.put_relation.Goals as goal

pub put-requires : goal.put-requires
put-requires c = omega (arith, ap length (answer_text c.args.r c.if-r-eq255.true))

pub returns-then-r-eq255 : goal.returns-then-r-eq255
returns-then-r-eq255 c = adds_as (answer_text c.args.r c.if-r-eq255.true) c.put.ensures

pub put-requires-2 : goal.put-requires-2
put-requires-2 c = omega (arith, ap length (numbered_text c.args.r _ c.if-r-eq255.false refl))

pub put_decimal-requires : goal.put_decimal-requires
put_decimal-requires c = omega (arith, ap length (numbered_text c.args.r _ c.if-r-eq255.false c.from.ensures))

pub returns : goal.returns
returns c =
    adds_as (numbered_text c.args.r _ c.if-r-eq255.false c.from.ensures) (then c.put-2.ensures c.put_decimal.ensures)
