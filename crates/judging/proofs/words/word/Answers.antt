-- Two bytes, the low one first. Assumes nothing.
use Rattle.std.proofs.Common.{arith}
use Rattle.reading.specs.Word.{word}
use Rattle.judging.proofs.words.word.Goals as goal

pub returns : goal.returns
unfolding word
returns c = (grind arith, omega arith)
