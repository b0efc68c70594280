-- `explore::related::next_by` meets its contract: no choice is tried where no relation is in both sets, and else the lister
-- is asked.
use mathlib.Core.Path.{sym, subst, ap, ◌∙◌}
use Rattle.covering.specs.Record.{question_of, stored}
use Rattle.lister.specs.Listing.{RuleIn}
use Rattle.explore.specs.declared.Head.{Head}
use Rattle.explore.proofs.RelatedRules.{none_tried, found_by, found_few, unknowns_of}
use Rattle.explore.proofs.related.next_by.Goals as goal

pub returns-then-head-all-eq0 : goal.returns-then-head-all-eq0
returns-then-head-all-eq0 c =
    let p = c.requires in
    let head = ap (λ (h : Head). h.relations) p.4 in
    (none_tried c.args.book.now p.1 _ (question_of stored c.args.member.now) head p.5 c.if-head-all-eq0.true _ _, tt)

pub rule_at-parts-requires : goal.rule_at-parts-requires
rule_at-parts-requires c = let p = c.requires in (p.0, p.1)

pub next-requires : goal.next-requires
next-requires c =
    let B = c.args.book.now in
    let parts = c.rule_at-parts.ensures in
    let told = ap (λ (h : Head). h.unknowns) c.requires.4 ∙ sym (unknowns_of B c.requires.1 _ _ parts) in
    (c.requires.3, subst (RuleIn B) (sym parts) c.requires.2, told)

pub returns : goal.returns
returns c =
    let B = c.args.book.now in
    let parts = c.rule_at-parts.ensures in
    let rule = subst (RuleIn B) (sym parts) c.requires.2 in (
      found_by B c.requires.1 _ _ parts _ _ _ _ _ c.next.ensures,
      found_few B _ rule c.args.member.now c.requires.3 _ _ c.next.ensures.answer,
    )
