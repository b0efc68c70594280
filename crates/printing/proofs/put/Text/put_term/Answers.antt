-- `printing::put::Text::put_term` meets its contract: the letter, then the number.
use Rattle.std.proofs.Common.{arith, length, ap, refl}
use Rattle.printing.proofs.Adding.{adds_as, then}
use Rattle.printing.proofs.Texts.{variable_text, constant_text}
use Rattle.printing.proofs.put.Text.put_term.Goals as goal

pub put-requires : goal.put-requires
put-requires c = omega (arith, ap length (variable_text c.args.b _ c.if-b-lt128.true refl))

pub put_decimal-requires : goal.put_decimal-requires
put_decimal-requires c = omega (arith, ap length (variable_text c.args.b _ c.if-b-lt128.true c.from.ensures))

pub returns-then-b-lt128 : goal.returns-then-b-lt128
returns-then-b-lt128 c =
    adds_as (variable_text c.args.b _ c.if-b-lt128.true c.from.ensures) (then c.put.ensures c.put_decimal.ensures)

pub put-requires-2 : goal.put-requires-2
put-requires-2 c = omega (arith, ap length (constant_text c.args.b _ c.if-b-lt128.false refl))

pub put_decimal-requires-2 : goal.put_decimal-requires-2
put_decimal-requires-2 c = omega (arith, ap length (constant_text c.args.b _ c.if-b-lt128.false c.from-2.ensures))

pub returns : goal.returns
returns c =
    adds_as (constant_text c.args.b _ c.if-b-lt128.false c.from-2.ensures) (then c.put-2.ensures c.put_decimal-2.ensures)
