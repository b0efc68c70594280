-- `unify::joining::replaced` meets its contract. The loop's invariant: the entries before i are done, and the table is
-- as long as it was.
use mathlib.Core.Path.{◌≡◌}
use mathlib.Core.Bool.{cond}
use lib.Dec.{eqb}
use lib.ListN.{length}
use Rattle.unify.proofs.Each.{done}
use Rattle.unify.proofs.joining.replaced.Given as goal

abbrev pub invariant-loop-i : goal.invariant-loop-i
invariant-loop-i l = (length l.table ≡ 96) × (l.table ≡ done (λ x. cond (eqb x l.v) l.b x) l.initial.table l.i)
