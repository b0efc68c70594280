-- `lister::ahead::can_be_valid` meets its contract: it says no only by the two tests.
use borrow.Author.Tests.{not-false}
use native.Mathlib.Omega.{arith}
use mathlib.Core.Path.{sym, ◌∙◌, ap, subst}
use mathlib.Core.Bool.{true≢false}
use mathlib.Core.Logic.{inl, inr}
use Rattle.unification.specs.Step.{move, valid}
use Rattle.unify.specs.Table.{tabled}
use Rattle.unify.specs.InBytes.{rule_of, classes_of}
use Rattle.lister.specs.Listing.{LeftIn}
use Rattle.lister.proofs.LeftByBits.{left_sound}
use Rattle.lister.proofs.ahead.can_be_valid.Goals as goal

pub returns-then-more-eq1 : goal.returns-then-more-eq1
returns-then-more-eq1 c = λ told. absurd (true≢false told)

pub put_left-requires : goal.put_left-requires
put_left-requires c = (c.empty-left.ensures, c.args.asked.now.question_in, omega arith)

pub are_valid-requires : goal.are_valid-requires
are_valid-requires c =
    let a = c.args in
    let sound = (left_sound a.asked.now.question.now a.asked.now.question_in a.n a.sent (omega arith)).0 in
    subst LeftIn (sym c.put_left.ensures) sound

pub returns-then-not-are_valid : goal.returns-then-not-are_valid
returns-then-not-are_valid c =
    λ told. let a = c.args in
    let r = move 48 (rule_of a.asked.now.rule.book.now a.asked.now.rule.parts) in
    inl
    (ap (λ A. valid (tabled (classes_of a.table.now)) A r) (sym c.put_left.ensures)
    ∙ sym c.are_valid.ensures
    ∙ c.if-not-are_valid.true)

pub overflow_add-n : goal.overflow_add-n
overflow_add-n c = omega (arith, c.args.asked.now.question_in.few)

pub looks_stuck-requires : goal.looks_stuck-requires
looks_stuck-requires c = omega arith

pub returns-then-asked : goal.returns-then-asked
returns-then-asked c = λ told. inr (c.looks_stuck.ensures (not-false _ told))

pub returns : goal.returns
returns c = λ told. absurd (true≢false told)
