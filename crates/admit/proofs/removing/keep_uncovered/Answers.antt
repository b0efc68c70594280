-- `admit::removing::keep_uncovered` meets its contract: one turn more of a removal that is midway.
use native.Mathlib.Omega.{arith}
use native.Mathlib.Nat.{sub-zero}
use mathlib.Core.Path.{sym, ap, ◌∙◌}
use mathlib.Core.List.{List}
use Prim.Native.Nat.{ℕ}
use lib.ListN.{length}
use Rattle.covering.specs.Record.{stored, question_of}
use Rattle.records.specs.Relations.{relations_of}
use Rattle.admit.proofs.Removal.{midway_start, midway_done, turn_gone, turn_kept, within, sound_part, part_same, place_as, midway_as}
use Rattle.admit.proofs.Beside.{sets_here, sets_at}
use Rattle.admit.proofs.removing.keep_uncovered.Goals as goal
use Rattle.admit.proofs.removing.keep_uncovered.Goals.{then-not-covers_member, else-not-covers_member}

pub loop-set-init : goal.loop-set-init
loop-set-init c =
    let a = c.args in (
      midway_start a.work.now a.from a.to (length a.sets.now) (question_of stored a.rewriting.now) c.requires.0 c.requires.2,
      rw sub-zero c.requires.4,
    )

pub bounds-work-at : goal.bounds-work-at
bounds-work-at c = omega (arith, within _ _ _ _ _ c.loop-set.invariant.0 c.loop-set-test.true)

pub slice_bounds-covers_member-count : goal.slice_bounds-covers_member-count
slice_bounds-covers_member-count c = omega (arith, within _ _ _ _ _ c.loop-set.invariant.0 c.loop-set-test.true)

pub slice_bounds-covers_member-start : goal.slice_bounds-covers_member-start
slice_bounds-covers_member-start c = omega (arith, within _ _ _ _ _ c.loop-set.invariant.0 c.loop-set-test.true)

pub covers_member-requires : goal.covers_member-requires
covers_member-requires c =
    let m = c.loop-set.invariant.0 in
    let in_turn = c.loop-set-test.true in (
      c.requires.3,
      sound_part _ _ _ _ _ m in_turn,
      c.requires.5,
      (sets_here _ _ _ _ _ _ in_turn c.loop-set.invariant.1).0
          ∙ ap (λ (l : List ℕ). relations_of (question_of stored l)) (sym (part_same _ _ _ _ _ m in_turn)),
    )

pub move_down-requires : goal.move_down-requires
move_down-requires c =
    let m = c.loop-set.invariant.0 in
    (m.lower, omega (arith, c.width-width.ensures, within _ _ _ _ _ m c.loop-set-test.true))

pub overflow_add-end : goal.overflow_add-end
overflow_add-end c =
    let m = c.loop-set.invariant.0 in
    omega (arith, c.width-width.ensures, m.lower, within _ _ _ _ _ m c.loop-set-test.true)

pub overflow_add-kept : goal.overflow_add-kept
overflow_add-kept c = omega (arith, c.loop-set.invariant.0.few, c.loop-set.invariant.0.passed)

pub overflow_add-at : goal.overflow_add-at
overflow_add-at c = omega (arith, c.width-width.ensures, within _ _ _ _ _ c.loop-set.invariant.0 c.loop-set-test.true)

pub loop-set-preserved : goal.loop-set-preserved
loop-set-preserved c =
    let m = c.loop-set.invariant.0 in
    let in_turn = c.loop-set-test.true in
    let v = c.width-width.ensures in
    let e = c.covers_member.ensures in
    let next = (sets_here _ _ _ _ _ _ in_turn c.loop-set.invariant.1).1 in (
      elim c.if-not-covers_member.branch [
        | then-not-covers_member w ↦
            midway_as _ _ _ _ _ w.work-is w.end-is w.kept-is
            (turn_kept _ _ _ _ _ m in_turn v _ e w.if-not-covers_member.true _ w.move_down.ensures)
        | else-not-covers_member w ↦
            midway_as _ _ _ _ _ w.work-is w.end-is w.kept-is
            (turn_gone _ _ _ _ _ m in_turn v _ e w.if-not-covers_member.false)
      ],
      sets_at _ _ _ _ _ _ (place_as _ _ _ _ _ m in_turn v) next,
    )

pub shape_of-work : goal.shape_of-work
shape_of-work c = c.loop-set.invariant.0.size

pub returns : goal.returns
returns c =
    let a = c.args in
    midway_done a.work.now a.from a.to (length a.sets.now) (question_of stored a.rewriting.now) c.loop-set.invariant.0
    c.loop-set-test.false
