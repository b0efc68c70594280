-- `unify::validity::is_valid` meets its contract. The loop's invariant: the classes are valid exactly where each term
-- of the head atoms from here on is allowed.
use native.Mathlib.Omega.{arith}
use mathlib.Core.Path.{refl, sym, ◌∙◌, ap}
use Rattle.covering.specs.Term.{Question}
use Rattle.covering.specs.Record.{stored}
use Rattle.covering.proofs.Places.{question_at_lem}
use Rattle.unification.specs.Step.{move, valid}
use Rattle.unify.specs.Table.{tabled}
use Rattle.unify.specs.InBytes.{rule_in, rule_of, classes_of}
use Rattle.unify.proofs.EachTerm.{from_first, nth_used, each_term_none, each_term_fails, each_term_passes}
use Rattle.unify.proofs.validity.is_valid.Goals as goal

pub loop-k-init : goal.loop-k-init
unfolding rule_in
loop-k-init c =
    let a = c.args in
    let r = move 48 (rule_of a.rule.now.book.now a.rule.now.parts) in
    let σ = tabled (classes_of a.table.now) in
    ap (λ (L : Question). valid σ L r) (question_at_lem stored a.left.now refl)
    ∙ rw (from_first a.rule.now.book.now a.rule.now.parts.head a.rule.now.parts.heads) refl

pub allowed_places-requires : goal.allowed_places-requires
allowed_places-requires c =
    let p = c.requires in
    (p.0, p.1, p.2, omega arith, nth_used _ _ c.loop-k.k _ (omega arith) p.2.sound, p.3)

pub returns-then-not-allowed_places : goal.returns-then-not-allowed_places
returns-then-not-allowed_places c =
    sym
    (c.loop-k.invariant
    ∙ each_term_fails _ _ _ _ _ _ (omega arith) c.allowed_places.ensures c.if-not-allowed_places.true)

pub loop-k-preserved : goal.loop-k-preserved
loop-k-preserved c =
    c.loop-k.invariant
    ∙ each_term_passes _ _ _ _ _ _ (omega arith) c.allowed_places.ensures c.if-not-allowed_places.false

pub returns : goal.returns
returns c = sym (c.loop-k.invariant ∙ each_term_none _ _ _ _ _ _ (omega arith))
