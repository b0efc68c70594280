-- `admit::sets::renew` meets its contract. Where none was removed nothing is done; else one set after the other is made.
use native.Mathlib.Omega.{arith}
use native.Mathlib.Nat.{sub-zero}
use mathlib.Core.Path.{◌≡◌, sym, ap, ◌∙◌, subst}
use mathlib.Core.List.{List}
use Prim.Native.Nat.{ℕ, ◌+◌, ◌-◌, ◌≤◌, ◌<◌}
use lib.ListN.{length, length-append, length-drop, take, drop}
use lib.Seq.{length-take-le}
use Rattle.covering.specs.Record.{stored, question_of, SoundRecord}
use Rattle.covering.proofs.Slices.{part_is}
use Rattle.records.specs.Relations.{relations_of}
use Rattle.exploration.specs.Held.{held_from, Standing}
use Rattle.exploration.proofs.Members.{ending_none, members_count}
use Rattle.exploration.proofs.Standing.{stands}
use Rattle.admit.specs.Sets.{SetsFrom}
use Rattle.admit.proofs.Beside.{next_end, sets_next, sets_longer}
use Rattle.admit.proofs.sets.renew.Goals as goal

pub returns-then-were-count : goal.returns-then-were-count
returns-then-were-count c = record { size = c.requires.2; sets = c.requires.3 c.if-were-count.true }

pub loop-set-init : goal.loop-set-init
unfolding SetsFrom held_from
loop-set-init c = (ending_none c.args.work.now 8, rw sub-zero c.requires.1, tt)

-- a member is left where a set is, and stands
in_turn : (S : List ℕ) (n i : ℕ) → length S ≡ 64 → n ≤ 64 → i < length (take n S) → i < n
in_turn S n i size few h = omega (arith, length-take-le n S (omega arith))

pub slice_bounds-relations-count : goal.slice_bounds-relations-count
slice_bounds-relations-count c =
    omega (arith, stands _ _ _ _ (in_turn _ _ _ c.requires.2 c.requires.0 c.loop-set-test.true) c.loop-set.invariant.1)

pub slice_bounds-relations-start : goal.slice_bounds-relations-start
slice_bounds-relations-start c =
    omega (arith, stands _ _ _ _ (in_turn _ _ _ c.requires.2 c.requires.0 c.loop-set-test.true) c.loop-set.invariant.1)

pub relations-requires : goal.relations-requires
relations-requires c =
    subst (SoundRecord stored) (sym (part_is c.args.work.now c.loop-set.at))
    (stands _ _ _ _ (in_turn _ _ _ c.requires.2 c.requires.0 c.loop-set-test.true) c.loop-set.invariant.1).sound

pub bounds-work-at : goal.bounds-work-at
bounds-work-at c =
    omega (arith, stands _ _ _ _ (in_turn _ _ _ c.requires.2 c.requires.0 c.loop-set-test.true) c.loop-set.invariant.1)

pub overflow_add-at : goal.overflow_add-at
overflow_add-at c =
    omega (
      arith,
      stands _ _ _ _ (in_turn _ _ _ c.requires.2 c.requires.0 c.loop-set-test.true) c.loop-set.invariant.1,
      c.width-at.ensures,
    )

pub loop-set-preserved : goal.loop-set-preserved
loop-set-preserved c =
    let W = c.args.work.now in
    let l = c.loop-set in
    let i = l.set-index in
    let left = in_turn _ _ _ c.requires.2 c.requires.0 c.loop-set-test.true in
    let made = c.relations.ensures ∙ ap (λ (B : List ℕ). relations_of (question_of stored B)) (part_is W l.at) in
    let wide = c.width-at.ensures in (
      ap (λ (k : ℕ). l.at + k) wide ∙ next_end W l.at i l.invariant.0,
      subst (λ (k : ℕ). Standing W (l.at + k) (c.args.count - (i + 1))) (sym wide) (stands _ _ _ _ left l.invariant.1).rest,
      sets_next W l.at i l.invariant.0 l.set-items _ (omega arith) made l.invariant.2,
    )

pub returns : goal.returns
returns c =
    let S = c.args.sets.now in
    let l = c.loop-set in
    let made : length l.set-items ≡ c.args.count = omega (arith, length-take-le c.args.count S (omega arith)) in
    let all : l.set-index ≡ c.args.count = omega (arith, length-take-le c.args.count S (omega arith)) in
    record {
      size = omega (arith, length-append l.set-items (drop c.args.count S), length-drop c.args.count S, made);
      sets =
          sets_longer l.set-items _ 0 _ (omega (arith, members_count c.args.work.now 8 c.args.count, made))
          (subst (λ (n : ℕ). SetsFrom l.set-items 0 (held_from c.args.work.now 8 n)) all l.invariant.2);
    }
