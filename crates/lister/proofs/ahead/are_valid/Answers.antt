-- `lister::ahead::are_valid` meets its contract: a rule without existential variables answers with yes, and any other by
-- the test.
use borrow.Author.Rules.{rules}
use mathlib.Core.Path.{sym, ◌∙◌, ap, subst}
use Rattle.unification.specs.Step.{move, valid}
use Rattle.unify.specs.Table.{tabled}
use Rattle.unify.specs.InBytes.{rule_of, classes_of}
use Rattle.unify.proofs.ValidTests.{no_unknowns}
use Rattle.lister.specs.Listing.{LeftIn}
use Rattle.lister.proofs.LeftAtoms.{left_bytes}
use Rattle.lister.proofs.ahead.are_valid.Goals as goal

pub returns-then-not-asked : goal.returns-then-not-asked
returns-then-not-asked c =
    let a = c.args in
    let without = sym c.args.asked.now.told ∙ c.if-not-asked.true in
    sym
    (no_unknowns 48 (rule_of a.asked.now.rule.book.now a.asked.now.rule.parts) without (tabled (classes_of a.table.now))
    a.left.now)

pub is_valid-requires : goal.is_valid-requires
is_valid-requires c =
    let r = c.args.asked.now.rule_in in
    let left = left_bytes _ c.left.invariant.sound c.left.invariant.rest (subst LeftIn (sym c.left.view_is) c.requires) in
    (left, r.body, r.head, search rules)

pub returns : goal.returns
returns c =
    let a = c.args in
    c.is_valid.ensures
    ∙ ap (λ A. valid (tabled (classes_of a.table.now)) A (move 48 (rule_of a.asked.now.rule.book.now a.asked.now.rule.parts)))
    c.left.view_is
