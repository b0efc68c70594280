-- `unify::validity::apart_atoms` meets its contract. The loop's invariant: the terms of the atoms are apart exactly
-- where those of the atoms from here on are.
use native.Mathlib.Omega.{arith}
use mathlib.Core.Path.{refl, sym, ◌∙◌}
use Rattle.unify.proofs.EachTerm.{from_first, nth_used, each_term_none, each_term_fails, each_term_passes}
use Rattle.unify.proofs.ValidTests.{apart_byte}
use Rattle.unify.proofs.validity.apart_atoms.Goals as goal

pub loop-k-init : goal.loop-k-init
loop-k-init c = rw (from_first c.args.s.now c.args.i c.args.n) refl

pub apart_places-requires : goal.apart_places-requires
apart_places-requires c = (
  omega arith,
  omega arith,
  nth_used _ _ c.loop-k.k _ (omega arith) c.requires.0.sound,
  c.requires.2,
)

pub returns-then-not-apart_places : goal.returns-then-not-apart_places
returns-then-not-apart_places c =
    let a = c.args in
    sym
    (c.loop-k.invariant
    ∙ each_term_fails (apart_byte a.table.now a.z a.rep) _ _ _ _ _ (omega arith)
    c.apart_places.ensures c.if-not-apart_places.true)

pub loop-k-preserved : goal.loop-k-preserved
loop-k-preserved c =
    let a = c.args in
    c.loop-k.invariant
    ∙ each_term_passes (apart_byte a.table.now a.z a.rep) _ _ _ _ _ (omega arith)
    c.apart_places.ensures c.if-not-apart_places.false

pub returns : goal.returns
returns c =
    let a = c.args in
    sym (c.loop-k.invariant ∙ each_term_none (apart_byte a.table.now a.z a.rep) _ _ _ _ _ (omega arith))
