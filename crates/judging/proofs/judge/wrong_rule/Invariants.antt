-- The rules passed are right, so the first wrong one is the first among those left. Assumes nothing.
use Rattle.std.proofs.Common.{◌≡◌, ◌-◌, ◌≤◌}
use Rattle.reading.specs.Verdict.{wrong_rule}
use Rattle.judging.proofs.judge.wrong_rule.Given as goal

abbrev pub invariant-loop-rule : goal.invariant-loop-rule
invariant-loop-rule l = (l.s ≤ l.end) × (wrong_rule l.book l.end l.start l.n
    ≡ wrong_rule l.book l.end l.s (l.n - l._rule))
