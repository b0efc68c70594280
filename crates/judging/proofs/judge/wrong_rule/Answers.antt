-- The rules passed are right, so the first wrong one is the first among those left. Assumes nothing.
use Rattle.std.proofs.Common.{◌+◌, ◌-◌, ℕ, sym, ◌∙◌, ap, arith}
use Rattle.reading.specs.Verdict.{told, wrong_rule}
use Rattle.judging.proofs.JudgingSteps.{rules_end_right, rules_end_wrong, rules_stop, rules_pass, end_wrong, end_right}
use Rattle.reading.proofs.Conditions.{rule_right_lem}
use Rattle.covering.proofs.Tests.{true→T}
use Rattle.judging.proofs.judge.wrong_rule.Goals as goal

pub returns-in_default : goal.returns-in_default
returns-in_default c =
    let e = end_wrong _ _ _ (sym c.rule_end.ensures ∙ c.in_default.is) in
    ap (told 6) (sym (c.loop-rule.invariant.1 ∙ rules_stop _ _ _ _ _ c.loop-rule-test.true e))

pub loop-rule-preserved : goal.loop-rule-preserved
loop-rule-preserved c =
    let B = c.args.book.now in
    let end = c.args.end in
    let e = end_right B end c.loop-rule.s c.in-Some.next (sym c.in-Some.is ∙ c.rule_end.ensures) in
    let l = (rule_right_lem B end c.loop-rule.s (true→T _ e.0)).ends in (
      omega (arith, e.1, l),
      c.loop-rule.invariant.1
          ∙ rules_pass _ _ _ _ _ c.loop-rule-test.true e.0
          ∙ ap (λ (s : ℕ). wrong_rule B end s (c.args.n - (c.loop-rule._rule + 1))) (sym e.1),
    )

pub returns-then-s-end : goal.returns-then-s-end
returns-then-s-end c =
    ap (told 6) (sym (c.loop-rule.invariant.1 ∙ rules_end_wrong _ _ _ _ _ c.loop-rule-test.false c.if-s-end.true))

pub returns : goal.returns
returns c = ap (told 6) (sym (c.loop-rule.invariant.1
    ∙ rules_end_right _ _ _ _ _ c.loop-rule-test.false c.if-s-end.false))
