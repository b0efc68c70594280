-- What was skipped and what a turn reads, or fails to, is skipped together.
use Rattle.std.proofs.Common.{◌≡◌, ◌≤◌, ◌+◌, arith, rules, length, take}
use Rattle.rauntiko_batch.proofs.Skipping.{skip_more}
use Rattle.rauntiko_batch.proofs.skip.Goals as goal

pub loop-left-preserved : goal.loop-left-preserved
loop-left-preserved g c =
    let done = c.loop-left.invariant.0 in
    let step = c.min-step.result in
    let read = take c.in_ok-got.got c.fill.new.into in
    let room : length c.fill.new.into ≡ step = search rules in
    let fits : step ≤ c.loop-left.left = search rules in
    let full : step ≤ length read = omega (arith, c.in_ok-got.ensures.bound.1, c.if-got-step.false) in (
      done + step,
      omega (arith, c.loop-left.invariant.1, fits),
      skip_more (g.R.Read.remaining c.args.reader.now) (g.R.Read.remaining c.loop-left.reader)
          (g.R.Read.remaining c.fill.new.reader) done step _ read c.loop-left.invariant.2
          c.in_ok-got.ensures.bytes room full,
    )
