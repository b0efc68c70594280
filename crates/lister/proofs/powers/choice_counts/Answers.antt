-- `lister::powers::choice_counts` meets its contract: the row is that of `specs/Counts`, which is right at every entry.
use native.Mathlib.Omega.{arith}
use mathlib.Core.Path.{◌≡◌}
use Prim.Native.Nat.{suc, ◌-◌}
use Rattle.lister.specs.Counts.{counts}
use Rattle.lister.proofs.Counts.{counts_right}
use Rattle.lister.proofs.powers.choice_counts.Goals as goal

pub returns : goal.returns
unfolding counts
returns c =
    λ n few. let h = c.args.h - 1 in
    let e : suc c.args.h ≡ suc (suc h) = omega arith in
    rw e (counts_right h n (omega arith) (omega arith))
