-- A book with an answer record has its variables, and one without has none that is loose. Assumes nothing.
use Rattle.std.proofs.Common.{sym, ◌∙◌, ap, arith}
use Rattle.covering.proofs.Tests.{true→T}
use Rattle.reading.specs.Verdict.{told}
use Rattle.judging.proofs.JudgedHeader.{known, few_places, ends_with, is_question, is_atoms, is_records, counts_fit}
use Rattle.judging.proofs.AnswerSteps.{not_announced, is_announced, variable_none, variables_from}
use Rattle.judging.proofs.headed.Headed.loose_variable.Goals as goal

pub answers-requires : goal.answers-requires
answers-requires c = counts_fit c.args.self.right

pub returns-then-answers-eq0 : goal.returns-then-answers-eq0
returns-then-answers-eq0 c =
    let B = c.args.self.book.now in
    let none = sym (is_records c.args.self.right c.answers.ensures) ∙ c.if-answers-eq0.true in
    ap (told 11) (sym (variable_none B (not_announced B none)))

pub loose_from-requires : goal.loose_from-requires
loose_from-requires c =
    let r = c.args.self.right in
    let t = is_announced _ (λ d. c.if-answers-eq0.false (is_records r c.answers.ensures ∙ d)) in
    (omega (arith, ends_with r (true→T _ t)), (known r).places_are, few_places r)

pub returns : goal.returns
returns c =
    let B = c.args.self.book.now in
    let r = c.args.self.right in
    let h = c.args.self.header in
    let t = is_announced B (λ d. c.if-answers-eq0.false (is_records r c.answers.ensures ∙ d)) in
    c.loose_from.ensures
    ∙ ap (told 11) (sym (variables_from B t h.question h.atoms h.places (is_question r) (is_atoms r)
    (known r).places_are))
