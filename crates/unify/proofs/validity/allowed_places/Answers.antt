-- `unify::validity::allowed_places` meets its contract. The loop's invariant: the terms in the places are allowed
-- exactly where those from the j-th place on are, and these places are sound.
use native.Mathlib.Omega.{arith}
use native.Mathlib.Nat.{add-zero}
use mathlib.Core.Path.{refl, sym, ◌∙◌}
use Rattle.covering.proofs.Bytes.{used_more, term_constant}
use Rattle.unify.specs.InBytes.{in_book}
use Rattle.unify.proofs.EachTerm.{each_place_end, each_place_fails, each_place_passes, each_place_none}
use Rattle.unify.proofs.validity.allowed_places.Goals as goal

pub loop-j-init : goal.loop-j-init
loop-j-init c = (rw add-zero c.requires.4, rw add-zero refl)

pub returns-then-u : goal.returns-then-u
returns-then-u c = sym (c.loop-j.invariant.1 ∙ each_place_end _ _ _ _ 6 (omega arith) _ c.if-u.true)

pub is_allowed-requires : goal.is_allowed-requires
is_allowed-requires c =
    let a = c.args in
    let u = used_more a.rule.now.book.now a.i c.loop-j.j 6 (omega arith) in_book c.loop-j.invariant.0 c.if-u.false in
    (c.requires.0, c.requires.1, c.requires.2, term_constant in_book _ u.0, c.requires.5)

pub returns-then-not-is_allowed : goal.returns-then-not-is_allowed
returns-then-not-is_allowed c =
    sym
    (c.loop-j.invariant.1
    ∙ each_place_fails _ _ _ _ 6 (omega arith) _ c.if-u.false
    refl c.is_allowed.ensures (c.if-not-is_allowed.true))

pub loop-j-preserved : goal.loop-j-preserved
loop-j-preserved c =
    let a = c.args in
    let used = c.if-u.false in (
      (used_more a.rule.now.book.now a.i c.loop-j.j 6 (omega arith) in_book c.loop-j.invariant.0 used).1,
      c.loop-j.invariant.1
          ∙ each_place_passes _ _ _ _ 6 (omega arith) _ used
          refl c.is_allowed.ensures (c.if-not-is_allowed.false),
    )

pub returns : goal.returns
returns c = sym (c.loop-j.invariant.1 ∙ each_place_none _ _ _ _ _ (omega arith))
