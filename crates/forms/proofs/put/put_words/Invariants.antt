-- `forms::put::put_words` meets its contract. The loop's invariant: the words passed are put, two bytes each.
use Rattle.std.proofs.Common.{◌≡◌, ◌*◌, take}
use Rattle.covering.specs.Lists.{gather}
use Rattle.covering.specs.Put.{Puts}
use Rattle.reading.specs.Word.{word_bytes}
use Rattle.forms.proofs.put.put_words.Given as goal

abbrev pub invariant-loop-word : goal.invariant-loop-word
invariant-loop-word l = (l.at ≡ 2 * l.word-index) × Puts (gather word_bytes (take l.word-index l.words)) l.initial.out 0 l.at l.out
