-- The rules' atoms stand before the question's. Assumes nothing.
use Rattle.std.proofs.Common.{ℕ, sym, ◌∙◌, ap, ap₂, arith}
use Rattle.reading.specs.Verdict.{told, wrong_in_rules}
use Rattle.judging.proofs.JudgedHeader.{known, is_start, is_rules, rule_search}
use Rattle.judging.proofs.JudgingSteps.{handed, stops_else, passes_else, byte_is}
use Rattle.judging.proofs.headed.Headed.wrong_byte.Goals as goal

pub wrong_in_rules-requires : goal.wrong_in_rules-requires
wrong_in_rules-requires c =
    let r = c.args.self.right in (omega (arith, (known r).ends), rule_search r ∙ c.requires)

pub returns-in_err-wrong_in_rules : goal.returns-in_err-wrong_in_rules
returns-in_err-wrong_in_rules c =
    let B = c.args.self.book.now in
    let r = c.args.self.right in
    let e = ap₂ (λ (s n : ℕ). told 7 (wrong_in_rules B s n)) (is_start r) (is_rules r) in
    handed _ _ c.from_residual.ensures.1 (stops_else 7 _ _ _ (c.in_err-wrong_in_rules.ensures ∙ e))
    ∙ ap (told 7) (sym (byte_is B))

pub returns : goal.returns
returns c =
    let B = c.args.self.book.now in
    let r = c.args.self.right in
    let e = ap₂ (λ (s n : ℕ). told 7 (wrong_in_rules B s n)) (is_start r) (is_rules r) in
    c.wrong_in_question.ensures
    ∙ ap (told 7) (sym (byte_is B ∙ passes_else 7 _ _ (omega arith) (c.in_ok-wrong_in_rules.ensures ∙ e)))
