-- `lister::builder::whole_choice` meets its contract: nothing before the start or where it is not valid, else the rewriting
-- of the choice.
use native.Mathlib.Omega.{arith}
use mathlib.Core.Path.{refl, sym, ◌∙◌, ap, subst}
use lib.ListN.{length}
use Prim.Native.Nat.{◌≤◌}
use Rattle.covering.specs.Form.{form}
use Rattle.covering.specs.Record.{stored}
use Rattle.covering.specs.Buffer.{held_in, record_room}
use Rattle.unify.specs.InBytes.{rule_of, classes_of}
use Rattle.lister.specs.Leaving.{left_by}
use Rattle.lister.specs.Listing.{LeftIn}
use Rattle.lister.proofs.Build.{since_early}
use Rattle.lister.proofs.Prefixes.{judged_yes, judged_no}
use Rattle.lister.proofs.Answers.{told_same, told_none}
use Rattle.lister.proofs.LeftByBits.{left_sound}
use Rattle.unification.specs.Step.{move, valid, judge, rewriting as rewriting_of}
use Rattle.unify.specs.Table.{tabled}
use Rattle.lister.proofs.builder.whole_choice.Goals as goal

pub returns-then-number-asked : goal.returns-then-number-asked
returns-then-number-asked c =
    let a = c.args in
    let r = move 48 (rule_of a.asked.now.rule.book.now a.asked.now.rule.parts) in
    let A = left_by a.asked.now.question.now a.n a.sent in
    told_none
    (since_early a.asked.now.from a.number (judge A r (tabled (classes_of a.table.now))) (omega (arith, c.if-number-asked.true)))

pub put_left-requires : goal.put_left-requires
put_left-requires c = (c.empty-left.ensures, c.args.asked.now.question_in, c.requires.0)

pub are_valid-requires : goal.are_valid-requires
are_valid-requires c =
    let a = c.args in
    let sound = (left_sound a.asked.now.question.now a.asked.now.question_in a.n a.sent c.requires.0).0 in
    subst LeftIn (sym c.put_left.ensures) sound

pub returns-then-not-are_valid : goal.returns-then-not-are_valid
returns-then-not-are_valid c =
    let a = c.args in
    let r = move 48 (rule_of a.asked.now.rule.book.now a.asked.now.rule.parts) in
    let σ = tabled (classes_of a.table.now) in
    let A = left_by a.asked.now.question.now a.n a.sent in
    told_none
    (judged_no a.asked.now.from a.number A r σ
    (ap (λ L. valid σ L r) (sym c.put_left.ensures)
    ∙ sym c.are_valid.ensures
    ∙ c.if-not-are_valid.true))

pub put_rewriting-requires : goal.put_rewriting-requires
put_rewriting-requires c =
    let a = c.args in
    let sound = (left_sound a.asked.now.question.now a.asked.now.question_in a.n a.sent c.requires.0).0 in (
      subst LeftIn (sym c.put_left.ensures) sound,
      subst (λ A. length A ≤ 8) (sym c.put_left.ensures) c.requires.1,
      a.asked.now.rule_in,
      c.requires.2,
    )

pub returns : goal.returns
returns c =
    let a = c.args in
    let r = move 48 (rule_of a.asked.now.rule.book.now a.asked.now.rule.parts) in
    let σ = tabled (classes_of a.table.now) in
    let A = left_by a.asked.now.question.now a.n a.sent in
    let yes =
    ap (λ L. valid σ L r) (sym c.put_left.ensures)
    ∙ sym c.are_valid.ensures
    ∙ c.if-not-are_valid.false in
    told_same (sym (judged_yes a.asked.now.from a.number A r σ (omega (arith, c.if-number-asked.false)) yes))
    (record {
      answer = refl;
      room = c.put_rewriting.ensures
          ∙ ap (λ L. held_in stored record_room (form (rewriting_of σ L r))) c.put_left.ensures;
    })
