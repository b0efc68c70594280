-- The atoms passed have no variable above 31, so the first is the first in those left. Assumes nothing.
use Rattle.std.proofs.Common.{◌≡◌, ◌+◌, ◌*◌, ◌-◌}
use Rattle.reading.specs.Copy.{late_in_atoms}
use Rattle.forms.proofs.old_form.late_in_atoms.Given as goal

abbrev pub invariant-loop-k : goal.invariant-loop-k
invariant-loop-k l = late_in_atoms l.book l.i l.n ≡ late_in_atoms l.book (l.i + (1 + l.w) * l.k) (l.n - l.k)
