-- What was found is numbered from where it was asked on, and below the count of choices.
use Rattle.std.proofs.Common.{arith}
use Rattle.lister.proofs.FromBook.{found_within}
use Rattle.rewriting_examples.proofs.list.Goals as goal

pub overflow_add-from : goal.overflow_add-from
overflow_add-from g c =
    let r = c.args.rule.now in
    let w = found_within c.args.question.now r.book.now r.parts c.requires.0 c.requires.1 _ c.in-Some.choice c.in-Some.ensures.answer in
    omega (arith, w.0, w.1)

pub loop-from-smaller : goal.loop-from-smaller
loop-from-smaller g c =
    let r = c.args.rule.now in
    let w = found_within c.args.question.now r.book.now r.parts c.requires.0 c.requires.1 _ c.in-Some.choice c.in-Some.ensures.answer in
    omega (arith, w.0, w.1)

pub loop-from-preserved : goal.loop-from-preserved
loop-from-preserved g c =
    let r = c.args.rule.now in
    let w = found_within c.args.question.now r.book.now r.parts c.requires.0 c.requires.1 _ c.in-Some.choice c.in-Some.ensures.answer in
    omega (arith, w.0, w.1)
