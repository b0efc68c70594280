-- `records::record::used_first` meets its contract. The loop's invariant: the places are sound exactly where those from
-- the j-th on are.
use mathlib.Core.Path.{◌≡◌}
use Prim.Native.Nat.{◌+◌, ◌-◌}
use Rattle.covering.specs.Record.{desk, used_first}
use Rattle.records.proofs.record.used_first.Given as goal

abbrev pub invariant-loop-j : goal.invariant-loop-j
invariant-loop-j l = used_first (desk l.w) l.s l.i l.w ≡ used_first (desk l.w) l.s (l.i + l.j) (l.w - l.j)
