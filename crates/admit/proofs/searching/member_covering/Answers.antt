-- `admit::searching::member_covering` meets its contract: a member is passed where its relations are not all there, or where
-- no candidate of it serves; else the search ends.
use native.Mathlib.Omega.{arith}
use mathlib.Core.Path.{refl, sym, ◌∙◌, subst}
use Rattle.covering.specs.Record.{stored, SoundRecord}
use Rattle.covering.proofs.Slices.{part_is}
use Rattle.records.proofs.Among.{not_part}
use Rattle.admit.proofs.Finding.{passed_start, passed_here, passed_set, passed_found, passed_more, passed_all, not_found}
use Rattle.admit.proofs.Finding.{asked_none, asked_start, asked_more, asked_found, asked_all}
use Rattle.admit.proofs.searching.member_covering.Goals as goal
use Rattle.admit.proofs.searching.member_covering.Goals.{then-is_part+else-member-eq0+else-loop-k-test, else-is_part}

pub members-init : goal.members-init
members-init c = passed_start _ _ _ _ c.requires.0 c.requires.3 c.requires.2

pub slice_bounds-member-count : goal.slice_bounds-member-count
slice_bounds-member-count c = omega (arith, passed_here _ _ _ _ c.members.invariant c.if-sets-i.false)

pub slice_bounds-member-start : goal.slice_bounds-member-start
slice_bounds-member-start c = omega (arith, passed_here _ _ _ _ c.members.invariant c.if-sets-i.false)

pub bounds-member-0 : goal.bounds-member-0
bounds-member-0 c =
    let here = passed_here _ _ _ _ c.members.invariant c.if-sets-i.false in
    let sound = subst (SoundRecord stored) (sym (part_is c.args.work.now c.members.at)) here.sound in
    omega (arith, sound.fits)

pub loop-k-init : goal.loop-k-init
loop-k-init c = asked_start _ _ _ c.members.invariant.map (omega (arith, c.if-member-eq0.false))

pub covers_on-requires : goal.covers_on-requires
covers_on-requires c =
    let here = passed_here _ _ _ _ c.members.invariant c.if-sets-i.false in (
      subst (SoundRecord stored) (sym (part_is c.args.work.now c.members.at)) here.sound,
      c.requires.1,
      omega (arith, c.from-k-end.ensures),
      omega (arith, c.if-member-eq0.false),
    )

pub loop-k-preserved : goal.loop-k-preserved
loop-k-preserved c =
    asked_more _ _ c.loop-k.invariant (omega (arith, c.from-k-end.ensures)) c.covers_on.ensures c.if-covers_on.false

pub bounds-work-at : goal.bounds-work-at
bounds-work-at c = omega (arith, passed_here _ _ _ _ c.members.invariant c.if-sets-i.false)

pub overflow_add-at : goal.overflow_add-at
overflow_add-at c = omega (arith, passed_here _ _ _ _ c.members.invariant c.if-sets-i.false, c.width-at.ensures)

pub members-preserved : goal.members-preserved
members-preserved c =
    let p = c.members.invariant in
    let more = c.if-sets-i.false in
    elim c.if-is_part.branch [
      | then-is_part+else-member-eq0+else-loop-k-test w ↦
          let all = asked_all _ _ w.loop-k.invariant (omega (arith, w.from-k-end.ensures, w.loop-k-test.false)) _ p.map in
          passed_more _ _ _ _ p more _ _ (part_is c.args.work.now c.members.at) (not_found _ _ all refl)
          (w.map-is ∙ w.loop-k.invariant.map) c.width-at.ensures
      | else-is_part w ↦
          passed_more _ _ _ _ p more _ _ refl
          (not_part _ _ (passed_set _ _ _ _ p more) c.requires.4 (sym c.is_part.ensures ∙ w.if-is_part.false))
          (w.map-is ∙ p.map) c.width-at.ensures
    ]

pub returns-then-sets-i : goal.returns-then-sets-i
returns-then-sets-i c = passed_all _ _ _ _ c.members.invariant c.if-sets-i.true

pub returns-then-member-eq0 : goal.returns-then-member-eq0
returns-then-member-eq0 c =
    let p = c.members.invariant in
    passed_found _ _ _ _ p c.if-sets-i.false _ _ (part_is c.args.work.now c.members.at)
    (asked_none _ _ _ p.map c.if-member-eq0.true) refl

pub returns-then-covers_on : goal.returns-then-covers_on
returns-then-covers_on c =
    let p = c.members.invariant in
    passed_found _ _ _ _ p c.if-sets-i.false _ _ (part_is c.args.work.now c.members.at)
    (asked_found _ _ c.loop-k.invariant (omega (arith, c.from-k-end.ensures)) c.covers_on.ensures _ p.map c.if-covers_on.true) refl
