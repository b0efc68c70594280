-- `records::standing::stands_in` meets its contract. The loop's invariant: t stands in all atoms exactly where it stands
-- in those from here on.
use mathlib.Core.Path.{sym, ◌∙◌}
use Rattle.records.proofs.Finding.{atom_hit, atom_miss, atom_none}
use Rattle.records.proofs.standing.stands_in.Goals as goal

pub returns-then-stands_at : goal.returns-then-stands_at
returns-then-stands_at c =
    sym (c.loop-k.invariant ∙ atom_hit _ _ _ _ _ c.loop-k-test.true c.stands_at.ensures c.if-stands_at.true)

pub loop-k-preserved : goal.loop-k-preserved
loop-k-preserved c =
    c.loop-k.invariant ∙ atom_miss _ _ _ _ _ c.loop-k-test.true c.stands_at.ensures c.if-stands_at.false

pub returns : goal.returns
returns c = sym (c.loop-k.invariant ∙ atom_none _ _ _ _ _ c.loop-k-test.false)
