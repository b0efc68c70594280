-- `cover::place::send_term` meets its contract: each way through the code is one way of a place.
use native.Mathlib.Omega.{arith}
use mathlib.Core.Path.{refl, sym}
use borrow.Author.Tests.{lt-ltb, le-ltb}
use Prim.Native.Nat.{◌<◌}
use Rattle.cover.proofs.Sent.{put_new, put_old, put_constant}
use Rattle.cover.proofs.place.send_term.Goals as goal

pub returns-then-t-ge96 : goal.returns-then-t-ge96
returns-then-t-ge96 c = (sym (put_constant _ _ _ c.if-t-ge96.true), rw (le-ltb _ 96 c.if-t-ge96.true) refl)

pub returns-then-had : goal.returns-then-had
returns-then-had c =
    let a = c.args in
    let v : a.t < 96 = omega arith in
    (sym (put_new _ _ _ v c.if-had.true), rw (lt-ltb a.t 96 v) refl)

pub returns-else-had : goal.returns-else-had
returns-else-had c =
    let a = c.args in
    let v : a.t < 96 = omega arith in
    (sym (put_old _ _ _ c.if-had.false), rw (lt-ltb a.t 96 v) refl)
