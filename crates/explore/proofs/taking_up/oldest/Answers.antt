-- `explore::taking_up::oldest` meets its contract: the explored members are passed, and the next one is copied.
use native.Mathlib.Omega.{arith}
use mathlib.Core.Path.{◌≡◌, sym, ap, ◌∙◌, subst}
use mathlib.Core.List.{List}
use Prim.Native.Nat.{ℕ, ◌+◌}
use lib.ListN.{length, drop}
use Rattle.covering.specs.Term.{Question}
use Rattle.covering.specs.Record.{stored, question_of, SoundRecord}
use Rattle.covering.specs.Buffer.{held_in, record_room}
use Rattle.covering.specs.Lists.{head}
use Rattle.covering.proofs.Slices.{part_is}
use Rattle.exploration.specs.Union.{first_at}
use Rattle.exploration.specs.Held.{held_from}
use Rattle.explore.proofs.Among.{From, from_first, from_here, from_next, from_head}
use Rattle.explore.proofs.taking_up.oldest.Goals as goal

pub loop-init : goal.loop-init
loop-init c = from_first c.bytes-work.result.now (length c.args.members.now.members) c.bytes-work.ensures.standing

pub bounds-work-at : goal.bounds-work-at
bounds-work-at c = omega (arith, from_here _ _ c.loop.invariant (omega arith))

pub overflow_add-at : goal.overflow_add-at
overflow_add-at c = omega (arith, from_here _ _ c.loop.invariant (omega arith), c.width-at.ensures)

pub loop-preserved : goal.loop-preserved
loop-preserved c =
    subst (λ (k : ℕ). From c.bytes-work.result.now (length c.args.members.now.members) (c.loop.at + k) (c.loop.counter + 1))
    (sym c.width-at.ensures) (from_next _ _ c.loop.invariant (omega arith))

pub slice_bounds-copy_record-count : goal.slice_bounds-copy_record-count
slice_bounds-copy_record-count c = omega (arith, from_here _ _ c.loop.invariant (omega arith))

pub slice_bounds-copy_record-start : goal.slice_bounds-copy_record-start
slice_bounds-copy_record-start c = omega (arith, from_here _ _ c.loop.invariant (omega arith))

pub copy_record-requires : goal.copy_record-requires
copy_record-requires c =
    subst (SoundRecord stored) (sym (part_is c.bytes-work.result.now c.loop.at)) (from_here _ _ c.loop.invariant (omega arith)).sound

pub returns : goal.returns
returns c =
    let W = c.bytes-work.result.now in
    let all : c.loop.counter ≡ c.args.members.now.explored = omega arith in (
      question_of stored (drop c.loop.at W),
      ap (λ (U : List Question). head (drop c.args.members.now.explored U)) (sym c.bytes-work.ensures.are)
          ∙ ap (λ (i : ℕ). head (drop i (held_from W first_at (length c.args.members.now.members)))) (sym all)
          ∙ from_head _ _ c.loop.invariant (omega arith),
      c.copy_record.ensures ∙ ap (λ (B : List ℕ). held_in stored record_room (question_of stored B)) (part_is W c.loop.at),
    )
