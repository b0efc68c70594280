-- `lister::prefix::prefix_rewriting` meets its contract. The loop's invariant (`Begun`): the atoms left and the classes
-- are those of the first j digits, and what is left of the number is the number of the others.
use native.Mathlib.Omega.{arith}
use mathlib.Core.Path.{◌≡◌, ap, subst}
use Prim.Native.Nat.{◌-◌}
use lib.ListN.{length}
use Rattle.unification.proofs.Prefix.{count_some}
use Rattle.lister.proofs.FirstDigits.{Begun, begun_first, begun_next, begun_stops, digit_for}
use Rattle.lister.proofs.WhatIsSettled.{prefix_none, settled_in, prefix_many, prefix_some}
use Rattle.lister.proofs.prefix.prefix_rewriting.Goals as goal

pub bounds-question-0 : goal.bounds-question-0
bounds-question-0 c = omega (arith, c.requires.0.atoms.fits)

pub loop-j-init : goal.loop-j-init
loop-j-init c = begun_first c.requires.3 c.empty-left.ensures c.all_apart-table.ensures

pub overflow_sub-n : goal.overflow_sub-n
overflow_sub-n c = omega (arith, c.from-n.ensures, c.requires.2)

pub overflow_sub-n-in-loop-j : goal.overflow_sub-n-in-loop-j
overflow_sub-n-in-loop-j c = omega (arith, c.from-n.ensures, c.requires.2)

pub choice_count-each-requires : goal.choice_count-each-requires
choice_count-each-requires c =
    (c.requires.1.some_head, c.requires.1.few_head, omega (arith, c.from-n.ensures, c.requires.0.few))

pub nonzero_div-d : goal.nonzero_div-d
nonzero_div-d c =
    omega (arith, c.choice_count-each.ensures, count_some c.args.rule.now.parts.heads (c.from-n.result - 1 - c.loop-j.j))

pub put_digit-requires : goal.put_digit-requires
put_digit-requires c =
    digit_for c.requires.0 c.requires.1 c.loop-j.invariant (omega (arith, c.requires.2))
    (rw c.from-n.ensures at c.choice_count-each.ensures)

pub returns-then-not-put_digit : goal.returns-then-not-put_digit
returns-then-not-put_digit c =
    let now = c.loop-j.invariant in
    prefix_none _ _ _ _ now.choice now.among now.place c.args.p
    (begun_stops c.requires.0 c.requires.1 now (omega (arith, c.requires.2))
    (rw c.from-n.ensures at c.choice_count-each.ensures)
    (rw c.if-not-put_digit.true at c.put_digit.ensures) c.args.p (omega arith) (omega (arith, c.requires.2)))

pub nonzero_rem-rest : goal.nonzero_rem-rest
nonzero_rem-rest c =
    omega (arith, c.choice_count-each.ensures, count_some c.args.rule.now.parts.heads (c.from-n.result - 1 - c.loop-j.j))

pub loop-j-preserved : goal.loop-j-preserved
loop-j-preserved c =
    begun_next c.requires.0 c.requires.1 c.loop-j.invariant (omega (arith, c.requires.2))
    (rw c.from-n.ensures at c.choice_count-each.ensures) (rw c.if-not-put_digit.false at c.put_digit.ensures)

-- the digits are all put, and the atoms that no head atom can meet are left
pub leave_unmet-requires : goal.leave_unmet-requires
leave_unmet-requires c =
    let now = c.loop-j.invariant in
    (c.requires.0, c.requires.1, omega (arith, now.few), omega (arith, c.requires.2))

pub returns-then-count-gt8 : goal.returns-then-count-gt8
returns-then-count-gt8 c =
    let a = c.args in
    let l = c.loop-j in
    let all : l.j ≡ a.p = omega arith in
    let begun = subst (λ n. Begun a.question.now a.rule.now.book.now a.rule.now.parts a.choice n l.rest l.left l.table) all l.invariant in
    prefix_many _ _ _ _ c.requires.0 c.requires.1 begun c.leave_unmet.ensures
    (omega (arith, c.if-count-gt8.true, c.count.ensures, ap length c.lent.ensures))

pub replaced-requires : goal.replaced-requires
replaced-requires c =
    let a = c.args in
    let l = c.loop-j in
    let all : l.j ≡ a.p = omega arith in
    let begun = subst (λ n. Begun a.question.now a.rule.now.book.now a.rule.now.parts a.choice n l.rest l.left l.table) all l.invariant in (
      settled_in _ _ _ _ c.requires.0 c.requires.1 begun c.leave_unmet.ensures,
      omega (arith, c.if-count-gt8.false, c.count.ensures, ap length c.lent.ensures),
      c.requires.1,
      l.invariant.fit,
    )

pub returns : goal.returns
returns c =
    let a = c.args in
    let l = c.loop-j in
    let all : l.j ≡ a.p = omega arith in
    let begun = subst (λ n. Begun a.question.now a.rule.now.book.now a.rule.now.parts a.choice n l.rest l.left l.table) all l.invariant in
    prefix_some _ _ _ _ c.requires.0 c.requires.1 begun c.leave_unmet.ensures
    (omega (arith, c.if-count-gt8.false, c.count.ensures, ap length c.lent.ensures)) c.replaced.result c.replaced.ensures
