-- The relation byte is judged first, then the places; of these the first is used and the next ones up to a 255 are.
-- Assumes nothing.
use Rattle.std.proofs.Common.{◌+◌, ℕ, sym, ◌∙◌, ap, arith}
use Rattle.covering.proofs.Tests.{true→T}
use Rattle.reading.specs.Verdict.{told, wrong_answer, wrong_place}
use Rattle.reading.proofs.Forms.{form_known}
use Rattle.reading.proofs.SoundQuestion.{used_few}
use Rattle.judging.proofs.JudgedHeader.{known, is_constants, is_question, ends_with, is_records, counts_fit}
use Rattle.judging.proofs.AnswerSteps.{not_announced, is_announced, record_none, record_some, record_places}
use Rattle.judging.proofs.AnswerSteps.{answer_wrong}
use Rattle.judging.proofs.headed.Headed.wrong_answer.Goals as goal

pub answers-requires : goal.answers-requires
answers-requires c = counts_fit c.args.self.right

pub returns-then-answers-eq0 : goal.returns-then-answers-eq0
returns-then-answers-eq0 c =
    let B = c.args.self.book.now in
    let none = sym (is_records c.args.self.right c.answers.ensures) ∙ c.if-answers-eq0.true in
    ap (told 7) (sym (record_none B (not_announced B none)))

pub bounds-book-i : goal.bounds-book-i
bounds-book-i c = let k = known c.args.self.right in omega (arith, k.some_atom, k.ends)

pub returns-then-from-ne-ANSWER : goal.returns-then-from-ne-ANSWER
returns-then-from-ne-ANSWER c =
    let B = c.args.self.book.now in
    let r = c.args.self.right in
    let t = is_announced B (λ d. c.if-answers-eq0.false (is_records r c.answers.ensures ∙ d)) in
    let e = record_some B t ∙ ap (wrong_answer B) (sym (is_question r))
    ∙ answer_wrong B _ (λ d. c.if-from-ne-ANSWER.true (c.from.ensures ∙ d)) in
    ap (told 7) (sym e)

pub used_places-used-requires : goal.used_places-used-requires
used_places-used-requires c =
    let r = c.args.self.right in
    let t = is_announced _ (λ d. c.if-answers-eq0.false (is_records r c.answers.ensures ∙ d)) in
    omega (arith, ends_with r (true→T _ t), (known r).places_are, (form_known c.args.self.book.now).some_places)

pub overflow_add-used : goal.overflow_add-used
overflow_add-used c =
    omega (arith, c.used_places-used.ensures, used_few c.args.self.book.now (c.args.self.header.question + 2) 3)

pub wrong_place-requires : goal.wrong_place-requires
wrong_place-requires c =
    let r = c.args.self.right in
    let k = known r in
    let t = is_announced _ (λ d. c.if-answers-eq0.false (is_records r c.answers.ensures ∙ d)) in
    (omega (arith, ends_with r (true→T _ t)), k.places_are, k.few_constants, is_constants r)

pub returns : goal.returns
returns c =
    let B = c.args.self.book.now in
    let r = c.args.self.right in
    let i = c.args.self.header.question in
    let used = c.used_places-used in
    let t = is_announced B (λ d. c.if-answers-eq0.false (is_records r c.answers.ensures ∙ d)) in
    let e = record_places B t i used.result (is_question r) (sym c.from.ensures ∙ c.if-from-ne-ANSWER.false)
    used.ensures in
    c.wrong_place.ensures
    ∙ ap (λ (w : ℕ). told 7 (wrong_place B (1 + used.result) (i + 1) 0 w)) (known r).places_are
    ∙ ap (told 7) (sym e)
