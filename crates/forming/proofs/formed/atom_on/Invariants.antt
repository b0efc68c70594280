-- `forming::formed::atom_on` meets its contract. The loop's invariant: the bytes passed are those of the atom on the
-- table.
use mathlib.Core.Path.{◌≡◌}
use Prim.Native.Nat.{ℕ, ◌<◌}
use lib.ListN.{length, get_or}
use Rattle.covering.specs.Term.{on_atom}
use Rattle.covering.specs.Record.{stored, atom_at, atom_bytes}
use Rattle.forming.specs.Building.{sub_of}
use Rattle.forming.proofs.formed.atom_on.Given as goal

abbrev pub invariant-loop-j : goal.invariant-loop-j
invariant-loop-j l = (length l.atom ≡ 7)
    × ((m : ℕ)
    → m < l.j
    → get_or l.atom m 0 ≡ get_or (atom_bytes stored (on_atom (sub_of l.table) (atom_at stored l.from l.at))) m 0)
