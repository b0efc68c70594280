-- The lines of so many members are put, and those of the others, from `at` on, are left.
use Rattle.std.proofs.Common.{◌-◌}
use Rattle.covering.specs.Lists.{gather}
use Rattle.covering.specs.Record.{new_places}
use Rattle.exploration.specs.Union.{members_from}
use Rattle.exploration.specs.Standing.{WrittenAt}
use Rattle.printing.specs.Printed.{member_line}
use Rattle.printing.proofs.Adding.{Left}
use Rattle.printing.proofs.put.Text.put_members.Given as goal

abbrev pub invariant-loop-done : goal.invariant-loop-done
invariant-loop-done l =
    Left (gather member_line (members_from new_places l.answers l.output l.i l.n))
    (gather member_line (members_from new_places l.answers l.output l.at (l.n - l.done))) l.initial.self l.self
    × WrittenAt new_places l.answers l.output l.at (l.n - l.done)
