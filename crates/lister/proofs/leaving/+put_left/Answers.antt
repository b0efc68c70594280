-- `lister::leaving::put_left` meets its contract: first those of the atoms before the last, then the last, if it is left.
-- The measure is the number of atoms.
use native.Mathlib.Omega.{arith}
use mathlib.Core.Path.{sym, ◌∙◌, ap, subst}
use Prim.Native.Nat.{◌-◌, ◌/◌, ◌<◌}
use lib.ListN.{length}
use Rattle.lister.proofs.LeftByBits.{none_left, last_sent, last_left, room_for, with_atom}
use Rattle.lister.proofs.leaving.+put_left.Goals as goal

pub returns-then-n-eq0 : goal.returns-then-n-eq0
returns-then-n-eq0 t c = c.requires.0 ∙ sym (none_left c.args.question.now c.args.n c.args.sent c.if-n-eq0.true)

pub put_left-requires : goal.put_left-requires
put_left-requires t c = (omega arith, (c.requires.0, c.requires.1, omega (arith, c.requires.2)))

pub returns-then-sent-eq1 : goal.returns-then-sent-eq1
returns-then-sent-eq1 t c =
    let a = c.args in
    c.put_left.ensures ∙ sym (last_sent a.question.now a.n a.sent (omega arith) c.if-sent-eq1.true)

pub overflow_mul-n : goal.overflow_mul-n
overflow_mul-n t c = omega (arith, c.requires.2, c.requires.1.few)

pub overflow_add-n : goal.overflow_add-n
overflow_add-n t c = omega (arith, c.requires.2, c.requires.1.few)

pub add_atom-requires : goal.add_atom-requires
add_atom-requires t c =
    let a = c.args in
    let r = room_for a.question.now c.requires.1 (a.n - 1) (a.sent / 2) (omega (arith, c.requires.2)) in
    (subst (λ A. length A < 12) (sym c.put_left.ensures) r.0, r.1)

pub returns : goal.returns
returns t c =
    let a = c.args in
    c.add_atom.ensures
    ∙ ap (with_atom a.question.now (a.n - 1)) c.put_left.ensures
    ∙ sym (last_left a.question.now a.n a.sent (omega arith) c.if-sent-eq1.false)
