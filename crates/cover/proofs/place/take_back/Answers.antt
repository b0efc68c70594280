-- `cover::place::take_back` meets its contract. The loop's invariant: what taking back all of it gives, taking back the
-- places that are left gives.
use native.Mathlib.Omega.{arith}
use mathlib.Core.Path.{refl, sym, ◌∙◌}
use Rattle.cover.proofs.Sent.{back_none, back_writes, back_passes}
use Rattle.cover.proofs.place.take_back.Goals as goal

pub loop-j-init : goal.loop-j-init
loop-j-init c = refl

pub loop-j-preserved-then-t-lt96 : goal.loop-j-preserved-then-t-lt96
loop-j-preserved-then-t-lt96 c = c.loop-j.invariant ∙ back_writes _ _ _ _ (omega arith) c.if-t-lt96.true

pub loop-j-preserved : goal.loop-j-preserved
loop-j-preserved c = c.loop-j.invariant ∙ back_passes _ _ _ _ (omega arith) c.if-t-lt96.false

pub returns : goal.returns
returns c = sym (c.loop-j.invariant ∙ back_none _ _ _ _ (omega arith))
