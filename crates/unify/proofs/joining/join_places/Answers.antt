-- `unify::joining::join_places` meets its contract. The loop's invariant: putting all places together is putting
-- those from the j-th on together under the classes so far, the head's are sound, and the table is as long as it was.
use native.Mathlib.Omega.{arith}
use mathlib.Core.Path.{ap, ap₂, refl, sym, ◌∙◌}
use Rattle.covering.proofs.Bytes.{used_more, term_constant}
use Rattle.unify.specs.Table.{look, join_table}
use Rattle.unify.specs.InBytes.{in_book, classes_of, merged}
use Rattle.unify.proofs.TableBytes.{merged_yes, merged_no}
use Rattle.unify.proofs.Joins.{joins_done, joins_end, joins_short, joins_clash, joins_next}
use Rattle.unify.proofs.joining.join_places.Goals as goal

pub returns-then-t : goal.returns-then-t
unfolding merged
returns-then-t c = sym (c.loop-j.invariant.2 ∙ joins_end _ _ _ _ c.loop-j.j 6 (omega arith) _ c.if-t.true)

pub returns-then-u : goal.returns-then-u
returns-then-u c =
    merged_no _ _ refl
    ∙ sym (c.loop-j.invariant.2 ∙ joins_short _ _ _ _ c.loop-j.j 6 (omega arith) _ c.if-t.false c.if-u.true)

pub moved-requires : goal.moved-requires
moved-requires c =
    let a = c.args in
    let u = used_more a.book.now a.k c.loop-j.j 6 (omega arith) in_book c.loop-j.invariant.0 c.if-u.false in
    term_constant in_book _ u.0

pub returns-then-not-join : goal.returns-then-not-join
returns-then-not-join c =
    let m = classes_of c.loop-j.table in
    let step = sym
    (c.join.ensures
    ∙ ap₂ (join_table m) c.stands_for-a.ensures (c.stands_for-b.ensures ∙ ap (look m) c.moved.ensures)) in
    merged_no _ _ refl
    ∙ sym
    (c.loop-j.invariant.2
    ∙ joins_clash _ _ _ _ c.loop-j.j 6 (omega arith) _ c.if-t.false c.if-u.false
    (step ∙ merged_no c.join.result _ c.if-not-join.true))

pub loop-j-preserved : goal.loop-j-preserved
loop-j-preserved c =
    let a = c.args in
    let m = classes_of c.loop-j.table in
    let step = sym
    (c.join.ensures
    ∙ ap₂ (join_table m) c.stands_for-a.ensures (c.stands_for-b.ensures ∙ ap (look m) c.moved.ensures)) in (
      (used_more a.book.now a.k c.loop-j.j 6 (omega arith) in_book c.loop-j.invariant.0 c.if-u.false).1,
      c.join.auto.table ∙ c.loop-j.invariant.1,
      c.loop-j.invariant.2
          ∙ joins_next _ _ _ _ c.loop-j.j 6 (omega arith) _ c.if-t.false c.if-u.false
          (step ∙ merged_yes c.join.result _ c.if-not-join.false),
    )

pub returns : goal.returns
returns c = merged_yes _ _ refl ∙ sym (c.loop-j.invariant.2 ∙ joins_done _ _ _ _ _ _ (omega arith))
