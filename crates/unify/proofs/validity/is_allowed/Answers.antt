-- `unify::validity::is_allowed` meets its contract: a constant and a variable of the body are no existential
-- variables, and any other term of the head is one. That u stands in the body says that the moved u stands in the
-- moved body.
use mathlib.Core.Path.{sym}
use Rattle.covering.specs.Record.{term_of}
use Rattle.unify.specs.Table.{tabled}
use Rattle.unify.specs.InBytes.{rule_in, rule_of, classes_of}
use Rattle.unify.proofs.ValidTests.{is_var_lem, is_con, left_in, allowed_constant, allowed_frontier, allowed_unknown}
use Rattle.unify.proofs.validity.is_allowed.Goals as goal

pub returns-then-u-ge128 : goal.returns-then-u-ge128
returns-then-u-ge128 c =
    let a = c.args in
    let rule = rule_of a.rule.now.book.now a.rule.now.parts in
    let σ = tabled (classes_of a.table.now) in
    sym (allowed_constant 48 rule (term_of a.u) σ (left_in a.left.now) (is_con _ c.if-u-ge128.true))

pub returns-then-stands_in : goal.returns-then-stands_in
unfolding rule_in
returns-then-stands_in c =
    let a = c.args in
    let rule = rule_of a.rule.now.book.now a.rule.now.parts in
    let σ = tabled (classes_of a.table.now) in
    sym
    (allowed_frontier 48 rule (term_of a.u) σ (left_in a.left.now)
    (is_var_lem _ c.if-u-ge128.false)
    c.stands_in.ensures c.if-stands_in.true)

pub returns : goal.returns
unfolding rule_in
returns c =
    let a = c.args in
    let rule = rule_of a.rule.now.book.now a.rule.now.parts in
    let σ = tabled (classes_of a.table.now) in
    allowed_unknown 48 rule (term_of a.u) σ (left_in a.left.now)
    (is_var_lem _ c.if-u-ge128.false)
    c.stands_in.ensures c.if-stands_in.false c.moved-z.ensures
    c.is_safe.ensures
