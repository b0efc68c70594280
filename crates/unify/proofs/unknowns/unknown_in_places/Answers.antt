-- `unify::unknowns::unknown_in_places` meets its contract. The loop's invariant: a term in the places is unknown to the
-- body exactly where one from the j-th place on is.
use native.Mathlib.Omega.{arith}
use native.Mathlib.Nat.{add-zero}
use mathlib.Core.Path.{refl, sym, ◌∙◌}
use Rattle.unify.proofs.EachTerm.{some_place_end, some_place_hit, some_place_miss, some_place_none}
use Rattle.unify.proofs.unknowns.unknown_in_places.Goals as goal

pub loop-j-init : goal.loop-j-init
loop-j-init c = rw add-zero refl

pub returns-then-u : goal.returns-then-u
returns-then-u c = sym (c.loop-j.invariant ∙ some_place_end _ _ _ _ 6 (omega arith) c.if-u.true)

pub returns-then-is_unknown : goal.returns-then-is_unknown
returns-then-is_unknown c =
    sym
    (c.loop-j.invariant
    ∙ some_place_hit _ _ _ _ 6 (omega arith) c.if-u.false
    (sym c.is_unknown.ensures ∙ c.if-is_unknown.true))

pub loop-j-preserved : goal.loop-j-preserved
loop-j-preserved c =
    c.loop-j.invariant
    ∙ some_place_miss _ _ _ _ 6 (omega arith) c.if-u.false
    (sym c.is_unknown.ensures ∙ c.if-is_unknown.false)

pub returns : goal.returns
returns c = sym (c.loop-j.invariant ∙ some_place_none _ _ _ _ (omega arith))
