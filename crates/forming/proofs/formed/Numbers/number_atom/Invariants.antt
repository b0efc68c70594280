-- `forming::formed::Numbers::number_atom` meets its contract. The loop's invariant: to see all places is to see those
-- from the j-th on, after the variables that the table has now.
use mathlib.Core.Path.{◌≡◌}
use mathlib.Core.List.{List}
use Prim.Native.Nat.{ℕ, ◌+◌, ◌-◌, ◌≤◌}
use lib.Dec.{T}
use Rattle.covering.specs.Record.{stored, args_at, used_first}
use Rattle.forming.specs.Building.{all_seen, NumberTable}
use Rattle.forming.proofs.formed.Numbers.number_atom.Given as goal

abbrev pub invariant-loop-j : goal.invariant-loop-j
invariant-loop-j l = (l.self.given ≤ l.initial.self.given + l.j)
    × T (used_first stored l.from (l.at + 1 + l.j) (6 - l.j))
    × ((S : List ℕ)
    → NumberTable S l.initial.self.table l.initial.self.given
    → (M : List ℕ)
    × NumberTable M l.self.table l.self.given
    × (all_seen S (args_at l.from (l.at + 1) 6) ≡ all_seen M (args_at l.from (l.at + 1 + l.j) (6 - l.j))))
