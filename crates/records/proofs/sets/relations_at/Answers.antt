-- `records::sets::relations_at` meets its contract. The loop's invariant: the atoms' set is the one so far with the
-- relations of the atoms from here on.
use mathlib.Core.Path.{sym, ap, ◌∙◌}
use Rattle.covering.specs.Record.{stored}
use Rattle.records.specs.Relations.{joined_to, relations_of}
use Rattle.records.proofs.Among.{joined_none, joined_more}
use Rattle.records.proofs.Onward.{from_start}
use Rattle.records.proofs.sets.relations_at.Goals as goal

pub loop-k-init : goal.loop-k-init
unfolding relations_of
loop-k-init c = ap (joined_to 0) (sym (from_start stored _ _ _))

pub loop-k-preserved : goal.loop-k-preserved
loop-k-preserved c = c.loop-k.invariant ∙ joined_more _ _ _ _ _ c.loop-k-test.true

pub returns : goal.returns
returns c = sym (c.loop-k.invariant ∙ joined_none _ _ _ _ _ c.loop-k-test.false)
