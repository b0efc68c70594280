-- `unify::joining::replaced` meets its contract. The loop's invariant: the entries before i are done, and the table is
-- as long as it was.
use native.Mathlib.Omega.{arith}
use mathlib.Core.Path.{sym, ap, ◌∙◌}
use lib.ListN.{length-set}
use Rattle.unify.specs.InBytes.{classes_of}
use Rattle.unify.proofs.Each.{done_none, done_more, done_all}
use Rattle.unify.proofs.TableBytes.{put_points}
use Rattle.unify.proofs.joining.replaced.Goals as goal

pub loop-i-init : goal.loop-i-init
loop-i-init c = (c.requires.0, sym (done_none _ _))

pub loop-i-preserved : goal.loop-i-preserved
loop-i-preserved c =
    let l = c.loop-i in (
      length-set l.table _ _ ∙ l.invariant.0,
      rw (c.put_for.ensures, l.invariant.1) (done_more _ _ _),
    )

pub shape_of-table : goal.shape_of-table
shape_of-table c = c.loop-i.invariant.0 ∙ sym c.requires.0

pub returns : goal.returns
returns c = ap classes_of (c.loop-i.invariant.1 ∙ done_all _ _ _ (omega arith)) ∙ put_points _ _ _ c.requires.1
