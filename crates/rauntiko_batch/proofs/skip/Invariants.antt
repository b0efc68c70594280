-- What is not left to skip was skipped.
use Rattle.std.proofs.Common.{◌≡◌, ℕ, ◌+◌, true}
use Rattle.rauntiko_batch.specs.Batch.{Skips}
use Rattle.rauntiko_batch.proofs.skip.Given as goal

abbrev pub invariant-loop-left : goal.invariant-loop-left
invariant-loop-left g l = (done : ℕ) × (done + l.left ≡ l.n) × Skips done (g.R.Read.remaining l.initial.reader)
    (g.R.Read.remaining l.reader) true

abbrev pub decreases-loop-left : goal.decreases-loop-left
decreases-loop-left g l = l.left
