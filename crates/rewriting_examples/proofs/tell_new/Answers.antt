-- A sound book holds its header and its first rule, and its question is one that the lister takes.
use Rattle.std.proofs.Common.{◌<◌, arith, sym, ◌∙◌, ap, subst}
use Rattle.reading.specs.declared.Header.{Header}
use Rattle.reading.specs.Header.{rules}
use Rattle.book.specs.Parts.{parts_at}
use Rattle.reading.proofs.SoundBook.{sound_long, sound_header, sound_rule}
use Rattle.lister.specs.Listing.{RuleIn}
use Rattle.lister.proofs.FromBook.{rule_in_lem, question_in}
use Rattle.rewriting_examples.proofs.tell_new.Goals as goal

pub read-h-requires : goal.read-h-requires
read-h-requires g c = sound_long _ c.requires.0

pub rule_at-parts-requires : goal.rule_at-parts-requires
rule_at-parts-requires g c =
    let B = c.args.book.now in
    let some : 0 < rules B = omega (arith, ap (λ (h : Header). h.rules) c.read-h.ensures.is, c.if-h-eq0.false) in
    (omega (arith, c.starts-at.ensures.starts 0 (omega arith), (sound_rule B c.requires.0 0 some).ends, (sound_header B c.requires.0).ends), c.requires.1)

pub invariant_of-list : goal.invariant_of-list
invariant_of-list g c =
    let B = c.args.book.now in
    let some : 0 < rules B = omega (arith, ap (λ (h : Header). h.rules) c.read-h.ensures.is, c.if-h-eq0.false) in
    let r =
    subst (RuleIn B) (sym (c.rule_at-parts.ensures ∙ ap (parts_at B) (c.starts-at.ensures.starts 0 (omega arith))))
    (rule_in_lem B c.requires.0 c.requires.1 0 some) in
    record { body_inside = r.body.fits; head_inside = r.head.fits }

pub list-requires : goal.list-requires
list-requires g c =
    let B = c.args.book.now in
    let some : 0 < rules B = omega (arith, ap (λ (h : Header). h.rules) c.read-h.ensures.is, c.if-h-eq0.false) in (
      question_in B c.requires.0 c.requires.1 _ c.question-question.ensures,
      subst (RuleIn B) (sym (c.rule_at-parts.ensures ∙ ap (parts_at B) (c.starts-at.ensures.starts 0 (omega arith))))
          (rule_in_lem B c.requires.0 c.requires.1 0 some),
    )
