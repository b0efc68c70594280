-- `admit::removing::remove_covered` meets its contract: first the explored members, then the others; then their sets.
use native.Mathlib.Omega.{arith}
use Rattle.admit.proofs.Array.{stands_all, explored_lent, others_lent, of_explored, of_others}
use Rattle.admit.proofs.Array.{removed_working, removed_state, removed_few, none_removed}
use Rattle.admit.proofs.removing.remove_covered.Goals as goal

pub keep_uncovered-explored-requires : goal.keep_uncovered-explored-requires
keep_uncovered-explored-requires c =
    let l = explored_lent c.requires.0 c.requires.2 in
    (omega arith, omega (arith, l.long, c.requires.0.ahead, c.requires.0.few), l.standing, c.requires.1, l.sets, c.requires.3)

pub keep_uncovered-others-requires : goal.keep_uncovered-others-requires
keep_uncovered-others-requires c =
    let k = of_explored c.requires.0 c.requires.2 _ c.keep_uncovered-explored.ensures in
    let l = others_lent c.requires.0 c.requires.2 _ k in
    (k.lower, omega (arith, l.long, c.requires.0.few), l.standing, c.requires.1, l.sets, c.requires.3)

pub overflow_add-count : goal.overflow_add-count
overflow_add-count c =
    let w = c.requires.0 in
    let k = of_explored w c.requires.2 _ c.keep_uncovered-explored.ensures in
    let l = of_others w c.requires.2 _ k c.keep_uncovered-others.ensures in
    omega (arith, removed_few w _ k l)

pub renew-requires : goal.renew-requires
renew-requires c =
    let w = c.requires.0 in
    let k = of_explored w c.requires.2 _ c.keep_uncovered-explored.ensures in
    let l = of_others w c.requires.2 _ k c.keep_uncovered-others.ensures in
    (removed_few w _ k l, stands_all (removed_working w _ k l), c.requires.2.size, none_removed w _ k l c.requires.2)

pub returns : goal.returns
returns c =
    let w = c.requires.0 in
    let k = of_explored w c.requires.2 _ c.keep_uncovered-explored.ensures in
    let l = of_others w c.requires.2 _ k c.keep_uncovered-others.ensures in
    (removed_working w _ k l, removed_state w _ k l, c.renew.ensures)
