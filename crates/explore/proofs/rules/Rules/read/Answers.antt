-- `Rules::read` meets its contract.
use native.Mathlib.Omega.{arith}
use Rattle.reading.proofs.SoundBook.{sound_long}
use Rattle.explore.proofs.Among.{rules_read}
use Rattle.explore.proofs.rules.Rules.read.Goals as goal

pub read-count-requires : goal.read-count-requires
read-count-requires c = sound_long _ c.requires.0

pub head_sets-heads-requires : goal.head_sets-heads-requires
head_sets-heads-requires c = (
  c.requires.0,
  omega (arith, rules_read c.args.book.now c.requires.0 _ c.read-count.ensures),
  c.starts-starts.ensures,
  c.requires.1,
)

pub invariant_of-result : goal.invariant_of-result
invariant_of-result c =
    record {
      sound = c.requires.0;
      form = c.requires.1;
      number = omega (arith, rules_read c.args.book.now c.requires.0 _ c.read-count.ensures);
      starts_at = c.starts-starts.ensures;
      heads_are = c.head_sets-heads.ensures;
      answers_are = c.answer_records-answers.ensures;
    }
