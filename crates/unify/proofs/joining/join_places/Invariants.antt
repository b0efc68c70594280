-- `unify::joining::join_places` meets its contract. The loop's invariant: putting all places together is putting
-- those from the j-th on together under the classes so far, the head's are sound, and the table is as long as it was.
use mathlib.Core.Path.{◌≡◌}
use Prim.Native.Nat.{◌+◌, ◌-◌}
use mathlib.Core.List.{map}
use lib.Dec.{T}
use lib.ListN.{length}
use Rattle.covering.specs.Term.{on_term}
use Rattle.covering.specs.Record.{args_at, used_first}
use Rattle.unification.specs.Choice.{place_pairs}
use Rattle.unification.specs.Step.{up}
use Rattle.unify.specs.Table.{unify_table}
use Rattle.unify.specs.InBytes.{in_book, classes_of}
use Rattle.unify.proofs.joining.join_places.Given as goal

abbrev pub invariant-loop-j : goal.invariant-loop-j
invariant-loop-j l = T (used_first in_book l.book (l.k + l.j) (6 - l.j))
    × (length l.table ≡ 96)
    × (unify_table (place_pairs (args_at l.question l.i 6) (map (on_term (up 48)) (args_at l.book l.k 6))) (classes_of l.initial.table)
    ≡ unify_table
    (place_pairs (args_at l.question (l.i + l.j) (6 - l.j)) (map (on_term (up 48)) (args_at l.book (l.k + l.j) (6 - l.j))))
    (classes_of l.table))
