-- `unify::joining::join` meets its contract: a class joined with itself, a variable's class with another, a
-- constant's with a variable's, and two constants.
use mathlib.Core.Path.{refl, sym, ap, ◌∙◌}
use mathlib.Core.Option.{some}
use Rattle.covering.specs.Record.{term_of}
use Rattle.unify.specs.Table.{join_table}
use Rattle.unify.specs.InBytes.{classes_of}
use Rattle.unify.proofs.TableBytes.{join_self, join_variable, join_constant, join_clash, merged_yes, merged_no}
use Rattle.unify.proofs.joining.join.Goals as goal

pub returns-then-a-b : goal.returns-then-a-b
returns-then-a-b c =
    let a = c.args in
    let m = classes_of a.table.now in
    merged_yes _ _ refl
    ∙ sym
    (ap (λ x. join_table m (term_of a.a) (term_of x)) (sym c.if-a-b.true)
    ∙ join_self m (term_of a.a))

pub returns-then-a-lt128 : goal.returns-then-a-lt128
returns-then-a-lt128 c =
    merged_yes _ _ refl ∙ ap some c.replaced.ensures ∙ sym (join_variable _ _ _ c.if-a-lt128.true)

pub returns-then-b-lt128 : goal.returns-then-b-lt128
returns-then-b-lt128 c =
    merged_yes _ _ refl
    ∙ ap some c.replaced-then-b-lt128.ensures
    ∙ sym (join_constant _ _ _ c.if-a-lt128.false c.if-b-lt128.true)

pub returns : goal.returns
returns c =
    merged_no _ _ refl
    ∙ sym (join_clash _ _ _ c.if-a-lt128.false c.if-b-lt128.false c.if-a-b.false)
