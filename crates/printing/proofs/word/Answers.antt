-- `printing::word` meets its contract: two bytes, the low one first.
use Rattle.std.proofs.Common.{arith}
use Rattle.reading.proofs.Reading.{word_is}
use Rattle.printing.proofs.word.Goals as goal

pub returns : goal.returns
returns c = omega (arith, word_is c.args.s.now c.args.i)
