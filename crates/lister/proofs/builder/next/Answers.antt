-- `lister::builder::next` meets its contract: the builder starts with no atom passed, none sent and each variable in a
-- class of its own.
use mathlib.Core.Path.{refl}
use Rattle.lister.proofs.Asked.{start_next}
use Rattle.lister.proofs.Answers.{told_same}
use Rattle.lister.proofs.Digits.{start_builds}
use Rattle.lister.proofs.LeftByBits.{none_left}
use Rattle.lister.proofs.builder.next.Goals as goal

pub choice_counts-counts-requires : goal.choice_counts-counts-requires
choice_counts-counts-requires c =
    let r = c.requires.1 in
    (r.some_head, r.few_head)

pub build-requires : goal.build-requires
build-requires c = rw c.from-n.ensures (start_builds c.requires.0 c.requires.1 c.all_apart-table.ensures)

pub returns : goal.returns
returns c =
    let Q = c.args.question.now in
    told_same
    (start_next Q _ _ c.requires.0 c.requires.1 _ _ (none_left Q 0 0 refl) c.all_apart-table.ensures _)
    (rw c.from-n.ensures at c.build.ensures)
