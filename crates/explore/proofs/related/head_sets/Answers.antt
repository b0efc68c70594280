-- `explore::related::head_sets` meets its contract. The loop's invariant: what is known of the heads so far is stored.
use native.Mathlib.Omega.{arith}
use mathlib.Core.Path.{refl, ap₂, ◌∙◌}
use lib.ListN.{length-set}
use Rattle.reading.specs.Book.{rule_start}
use Rattle.explore.proofs.Among.{rules_few, start_fits, start_inside, parts_in, parts_are}
use Rattle.explore.proofs.RelatedRules.{head_set, unknowns_of, stored_heads}
use Rattle.explore.proofs.related.head_sets.Goals as goal

pub loop-k-init : goal.loop-k-init
loop-k-init c = (refl, λ j d l. absurd (omega (arith, l)))

pub offset_bounds-starts-k : goal.offset_bounds-starts-k
offset_bounds-starts-k c = omega (arith, rules_few c.args.book.now c.requires.0, c.requires.1)

pub bounds-starts-k : goal.bounds-starts-k
bounds-starts-k c = start_inside c.args.book.now c.requires.0 c.args.starts.now c.requires.2 _ (omega (arith, c.requires.1))

pub rule_at-parts-requires : goal.rule_at-parts-requires
rule_at-parts-requires c =
    (start_fits c.args.book.now c.requires.0 c.args.starts.now c.requires.2 _ (omega (arith, c.requires.1)), c.requires.3)

pub relations_at-relations-requires : goal.relations_at-relations-requires
relations_at-relations-requires c =
    (parts_in c.args.book.now c.requires.0 c.args.starts.now c.requires.2 _ (omega (arith, c.requires.1))
    c.requires.3 _ c.rule_at-parts.ensures).head.fits

pub invariant_of-has_unknowns : goal.invariant_of-has_unknowns
invariant_of-has_unknowns c =
    let r = parts_in c.args.book.now c.requires.0 c.args.starts.now c.requires.2 _ (omega (arith, c.requires.1)) c.requires.3 _
    c.rule_at-parts.ensures in
    record { body_inside = r.body.fits; head_inside = r.head.fits }

pub offset_bounds-heads-k : goal.offset_bounds-heads-k
offset_bounds-heads-k c = omega (arith, rules_few c.args.book.now c.requires.0, c.requires.1)

pub bounds-heads-k : goal.bounds-heads-k
bounds-heads-k c = omega (arith, rules_few c.args.book.now c.requires.0, c.requires.1)

pub loop-k-preserved : goal.loop-k-preserved
loop-k-preserved c =
    let B = c.args.book.now in
    let l = c.loop-k in
    let k = l.k in
    let rule = c.rule_at-parts.result in
    let parts = parts_are B c.requires.0 c.args.starts.now c.requires.2 k (omega (arith, c.requires.1)) c.requires.3 _
    c.rule_at-parts.ensures in
    let s = rule_start B k in
    let told = ap₂ (λ n b. record { relations = n; unknowns = b })
    (c.relations_at-relations.ensures ∙ head_set B c.requires.3 s rule parts)
    (c.has_unknowns-unknowns.ensures ∙ unknowns_of B c.requires.3 s rule parts) in (
      length-set l.heads k _ ∙ l.invariant.0,
      stored_heads B l.heads k _ (omega (arith, rules_few B c.requires.0, c.requires.1)) told l.invariant.1,
    )

pub returns : goal.returns
returns c = record { told = λ k d i. c.loop-k.invariant.1 k d (omega (arith, c.requires.1, i)) }
