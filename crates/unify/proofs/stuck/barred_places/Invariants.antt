-- `unify::stuck::barred_places` meets its contract. The loop's invariant: the pairs from the j-th place on are among those
-- of the two atoms, and the head's places are sound.
use mathlib.Core.List.{map}
use Prim.Native.Nat.{◌+◌, ◌-◌}
use lib.Dec.{T}
use Rattle.covering.specs.Term.{on_term}
use Rattle.covering.specs.Record.{args_at, used_first}
use Rattle.unification.specs.Choice.{place_pairs}
use Rattle.unification.specs.Step.{up}
use Rattle.unify.specs.InBytes.{in_book}
use Rattle.unify.proofs.StuckBytes.{Within}
use Rattle.unify.proofs.stuck.barred_places.Given as goal

abbrev pub invariant-loop-j : goal.invariant-loop-j
invariant-loop-j l = T (used_first in_book l.rule.book.now (l.k + l.j) (6 - l.j))
    × Within (place_pairs (args_at l.question (l.i + l.j) (6 - l.j)) (map (on_term (up 48)) (args_at l.rule.book.now (l.k + l.j) (6 - l.j))))
    (place_pairs (args_at l.question l.i 6) (map (on_term (up 48)) (args_at l.rule.book.now l.k 6)))
