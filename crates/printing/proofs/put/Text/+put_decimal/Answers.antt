-- `printing::put::Text::put_decimal` meets its contract: the tenth's digits and the last digit. The measure is the number.
use borrow.Author.Rules.{rules}
use Rattle.printing.proofs.Adding.{adds_as, then}
use Rattle.printing.proofs.Decimal.{decimal_one, decimal_more}
use Rattle.printing.proofs.put.Text.+put_decimal.Goals as goal

pub returns-then-n-lt10 : goal.returns-then-n-lt10
returns-then-n-lt10 t c = adds_as (decimal_one c.args.n (search rules)) c.put_digit.ensures

pub returns : goal.returns
returns t c =
    let n = c.args.n in
    adds_as (decimal_more n (search rules)) (then c.put_decimal.ensures c.put_digit-2.ensures)
