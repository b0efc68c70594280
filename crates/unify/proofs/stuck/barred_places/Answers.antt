-- `unify::stuck::barred_places` meets its contract. The loop's invariant: the pairs from the j-th place on are among those
-- of the two atoms, and the head's places are sound.
use native.Mathlib.Omega.{arith}
use mathlib.Core.Path.{subst}
use Rattle.covering.proofs.Bytes.{used_more, term_constant}
use Rattle.unify.specs.InBytes.{in_book}
use Rattle.unify.specs.Stuck.{TiedTo}
use Rattle.unify.proofs.StuckBytes.{first_within, rest_within, pairs_more}
use Rattle.unify.proofs.stuck.barred_places.Goals as goal

pub moved-requires : goal.moved-requires
moved-requires c =
    let a = c.args in
    let u = used_more a.rule.now.book.now a.k c.loop-j.j 6 (omega arith) in_book c.loop-j.invariant.0 c.if-u.false in
    term_constant in_book _ u.0

pub returns-then-tied_to : goal.returns-then-tied_to
returns-then-tied_to c =
    λ e. (
      _,
      first_within (pairs_more _ _ _ _ c.loop-j.j 6 (omega arith) c.if-t.false c.if-u.false) c.loop-j.invariant.1,
      subst (TiedTo _ _ _) c.moved.ensures (c.tied_to.ensures c.if-tied_to.true),
    )

pub loop-j-preserved : goal.loop-j-preserved
loop-j-preserved c =
    let a = c.args in (
      (used_more a.rule.now.book.now a.k c.loop-j.j 6 (omega arith) in_book c.loop-j.invariant.0 c.if-u.false).1,
      rest_within (pairs_more _ _ _ _ c.loop-j.j 6 (omega arith) c.if-t.false c.if-u.false) c.loop-j.invariant.1,
    )
