-- Each search's refusal is given if there is one, else the next is asked. Assumes nothing.
use Rattle.std.proofs.Common.{ℕ, sym, ◌∙◌, ap, ap₂, arith}
use Rattle.reading.specs.Verdict.{told, wrong_places}
use Rattle.judging.proofs.JudgedHeader.{known, is_relations, relations_within, rule_search}
use Rattle.judging.proofs.JudgingSteps.{handed, stops_there, passes_there, found_none, contents_is}
use Rattle.judging.proofs.headed.contents.Goals as goal

pub wrong_places-requires : goal.wrong_places-requires
wrong_places-requires c = (relations_within c.requires, (known c.requires).places_are)

pub returns-in_err-wrong_places : goal.returns-in_err-wrong_places
returns-in_err-wrong_places c =
    let B = c.args.book.now in
    let r = c.requires in
    let e = ap₂ (λ (i n : ℕ). told 5 (wrong_places B i n)) (known r).table_is (is_relations r) in
    handed _ _ c.from_residual.ensures.1 (stops_there 5 _ _ _ (c.in_err-wrong_places.ensures ∙ e)) ∙ sym (contents_is B)

pub wrong_rule-requires : goal.wrong_rule-requires
wrong_rule-requires c =
    let k = known c.requires in (omega (arith, k.start_is, k.start_fits), omega (arith, k.ends), k.places_are)

pub returns-in_err-wrong_rule : goal.returns-in_err-wrong_rule
returns-in_err-wrong_rule c =
    let B = c.args.book.now in
    let r = c.requires in
    let e = ap₂ (λ (i n : ℕ). told 5 (wrong_places B i n)) (known r).table_is (is_relations r) in
    let d = ap (told 6) (rule_search r) in
    handed _ _ c.from_residual-in_err-wrong_rule.ensures.1 (stops_there 6 _ _ _ (c.in_err-wrong_rule.ensures ∙ d))
    ∙ sym (contents_is B ∙ passes_there 5 _ _ (omega arith) (c.in_ok-wrong_places.ensures ∙ e))

pub wrong_byte-requires : goal.wrong_byte-requires
wrong_byte-requires c = found_none 6 _ (omega arith) (c.in_ok-wrong_rule.ensures ∙ ap (told 6) (rule_search c.requires))

pub returns-in_err-wrong_byte : goal.returns-in_err-wrong_byte
returns-in_err-wrong_byte c =
    let B = c.args.book.now in
    let r = c.requires in
    let e = ap₂ (λ (i n : ℕ). told 5 (wrong_places B i n)) (known r).table_is (is_relations r) in
    let d = ap (told 6) (rule_search r) in
    handed _ _ c.from_residual-in_err-wrong_byte.ensures.1 (stops_there 7 _ _ _ c.in_err-wrong_byte.ensures)
    ∙ sym
    (contents_is B
    ∙ passes_there 5 _ _ (omega arith) (c.in_ok-wrong_places.ensures ∙ e)
    ∙ passes_there 6 _ _ (omega arith) (c.in_ok-wrong_rule.ensures ∙ d))

pub returns : goal.returns
returns c =
    let B = c.args.book.now in
    let r = c.requires in
    let e = ap₂ (λ (i n : ℕ). told 5 (wrong_places B i n)) (known r).table_is (is_relations r) in
    let d = ap (told 6) (rule_search r) in
    c.loose_variable.ensures
    ∙ sym
    (contents_is B
    ∙ passes_there 5 _ _ (omega arith) (c.in_ok-wrong_places.ensures ∙ e)
    ∙ passes_there 6 _ _ (omega arith) (c.in_ok-wrong_rule.ensures ∙ d)
    ∙ passes_there 7 _ _ (omega arith) c.in_ok-wrong_byte.ensures)
