-- `printing::put::Text::put_decimal` meets its contract: the tenth's digits and the last digit. The measure is the number.
use Rattle.printing.proofs.put.Text.+put_decimal.Given as goal

abbrev pub decreases-put_decimal : goal.decreases-put_decimal
decreases-put_decimal l = l.n
