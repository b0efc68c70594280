-- The rules passed have no variable above 31, so the first is the first in those left. Assumes nothing.
use Rattle.std.proofs.Common.{◌≡◌, ◌-◌}
use Rattle.reading.specs.Book.{rule_start}
use Rattle.reading.specs.Copy.{late_in_rules}
use Rattle.forms.specs.Late.{in_rules}
use Rattle.forms.proofs.old_form.late_in_rules.Given as goal

abbrev pub invariant-loop-rule : goal.invariant-loop-rule
invariant-loop-rule l = (l.s ≡ rule_start l.book l._rule) × (in_rules l.book ≡ late_in_rules l.book l.s (l.n - l._rule))
