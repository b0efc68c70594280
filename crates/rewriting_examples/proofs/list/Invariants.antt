-- The numbers asked from rise, and no choice's number reaches the count of them.
use Rattle.std.proofs.Common.{◌-◌, ◌≤◌}
use Rattle.lister.specs.Counts.{most_choices}
use Rattle.rewriting_examples.proofs.list.Given as goal

abbrev pub invariant-loop-from : goal.invariant-loop-from
invariant-loop-from g l = l.from ≤ most_choices

abbrev pub decreases-loop-from : goal.decreases-loop-from
decreases-loop-from g l = most_choices - l.from
