-- `explore::taking_up::oldest`: so many members are passed, and the others stand from `at` on.
use lib.ListN.{length}
use Rattle.explore.proofs.Among.{From}
use Rattle.explore.proofs.taking_up.oldest.Given as goal

abbrev pub invariant-loop : goal.invariant-loop
invariant-loop l = From l.work (length l.members.members) l.at l.counter
