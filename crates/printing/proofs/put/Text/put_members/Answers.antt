-- `printing::put::Text::put_members` meets its contract: a member's line at a turn.
use Rattle.std.proofs.Common.{◌+◌, arith, refl, ap}
use Rattle.printing.proofs.Adding.{left_first, left_more, left_none}
use Rattle.printing.proofs.Texts.{members_end, members_next, first_stands, first_member}
use Rattle.printing.proofs.put.Text.put_members.Goals as goal

pub bounds-output-at : goal.bounds-output-at
bounds-output-at c =
    omega (arith, (first_member _ _ _ _ (omega arith) c.loop-done.invariant.1).atoms.fits)

pub overflow_add-at : goal.overflow_add-at
overflow_add-at c =
    omega (arith, (first_member _ _ _ _ (omega arith) c.loop-done.invariant.1).atoms.fits)

pub put_member-requires : goal.put_member-requires
put_member-requires c =
    let m = first_member _ _ _ _ (omega arith) c.loop-done.invariant.1 in (
      m.atoms,
      m.is,
      omega (arith, m.most),
      left_first _ _ c.loop-done.invariant.0 (members_next _ _ _ _ _ _ refl refl (omega arith)),
    )

pub overflow_add-answers : goal.overflow_add-answers
overflow_add-answers c =
    omega (arith, (first_member _ _ _ _ (omega arith) c.loop-done.invariant.1).most)

pub overflow_add-at-in-loop-done : goal.overflow_add-at-in-loop-done
overflow_add-at-in-loop-done c =
    omega (arith, c.width-at.ensures, (first_member _ _ _ _ (omega arith) c.loop-done.invariant.1).atoms.fits)

pub loop-done-preserved : goal.loop-done-preserved
loop-done-preserved c =
    let next = ap (λ k. c.loop-done.at + k) c.width-at.ensures in (
      left_more c.loop-done.invariant.0 (members_next _ _ _ _ _ _ next (omega arith) (omega arith)) c.put_member.ensures,
      (first_stands _ _ _ _ _ _ next (omega arith) (omega arith) c.loop-done.invariant.1).1,
    )

pub returns : goal.returns
returns c = left_none c.loop-done.invariant.0 (members_end _ _ _ _ (omega arith))
