-- `records::standing::stands_at` meets its contract. The loop's invariant: t is among all places exactly where it is
-- among those from here on.
use native.Mathlib.Nat.{add-zero}
use mathlib.Core.Path.{refl, sym, ◌∙◌}
use Rattle.records.proofs.Finding.{place_ends, place_hit, place_miss, place_none}
use Rattle.records.proofs.standing.stands_at.Goals as goal

pub loop-u-init : goal.loop-u-init
loop-u-init c = rw add-zero refl

pub returns-then-u : goal.returns-then-u
returns-then-u c = sym (c.loop-u.invariant ∙ place_ends _ _ _ 6 _ c.loop-u-test.true c.if-u.true)

pub returns-then-u-t : goal.returns-then-u-t
returns-then-u-t c = sym (c.loop-u.invariant ∙ place_hit _ _ _ 6 _ c.loop-u-test.true c.if-u.false c.if-u-t.true)

pub loop-u-preserved : goal.loop-u-preserved
loop-u-preserved c = c.loop-u.invariant ∙ place_miss _ _ _ 6 _ c.loop-u-test.true c.if-u.false c.if-u-t.false

pub returns : goal.returns
returns c = sym (c.loop-u.invariant ∙ place_none _ _ _ 6 _ c.requires c.loop-u-test.false)
