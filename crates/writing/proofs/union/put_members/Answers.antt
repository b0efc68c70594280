-- `writing::union::put_members` meets its contract. The loop's invariant: the members passed are put.
use native.Mathlib.Omega.{arith}
use mathlib.Core.Path.{sym, subst}
use Prim.Native.Nat.{ℕ, ◌+◌}
use Rattle.writing.proofs.Members.{SoFar, none_put, one_put, here_is, here_has, here_narrow, same_room}
use Rattle.writing.proofs.union.put_members.Goals as goal

pub loop-member-init : goal.loop-member-init
loop-member-init c =
    none_put _ _ _ _ _ c.requires.0 c.requires.1 c.requires.2 c.requires.4 (omega (arith, c.requires.4, c.requires.5))

pub put_member-at-requires : goal.put_member-at-requires
put_member-at-requires c =
    let inv = c.loop-member.invariant in
    let more = c.loop-member-test.true in
    let h = here_is _ _ _ _ _ inv more in (
      omega (arith, h.within),
      h.sound,
      here_has _ _ _ _ _ inv more,
      here_narrow _ _ _ _ _ inv more,
      c.requires.3,
      omega (arith, h.within, inv.behind, c.requires.5, same_room _ _ _ _ _ inv),
    )

pub bounds-work-from : goal.bounds-work-from
bounds-work-from c = omega (arith, (here_is _ _ _ _ _ c.loop-member.invariant c.loop-member-test.true).within)

pub loop-member-preserved : goal.loop-member-preserved
loop-member-preserved c =
    let a = c.args in
    let inv = c.loop-member.invariant in
    subst
    (λ (k : ℕ). SoFar a.w a.answers a.work.now a.n a.out.now c.put_member-at.new.out
    (c.loop-member.from + k) c.put_member-at.result (c.loop-member._member + 1))
    (sym c.width-from.ensures)
    (one_put _ _ _ _ _ inv c.loop-member-test.true c.requires.3
    c.put_member-at.ensures)
