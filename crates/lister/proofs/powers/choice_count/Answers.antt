-- `lister::powers::choice_count` meets its contract: the code's table is that of `specs/Counts`, which is right at every
-- entry.
use native.Mathlib.Omega.{arith}
use mathlib.Core.Path.{◌≡◌}
use Prim.Native.Nat.{suc, ◌-◌}
use Rattle.lister.specs.Counts.{counts}
use Rattle.lister.proofs.Counts.{counts_right}
use Rattle.lister.proofs.powers.choice_count.Goals as goal

pub returns : goal.returns
unfolding counts
returns c =
    let h = c.args.h - 1 in
    let e : suc c.args.h ≡ suc (suc h) = omega arith in
    rw e (counts_right h c.args.n (omega arith) (omega arith))
