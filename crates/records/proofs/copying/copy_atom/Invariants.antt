-- `records::copying::copy_atom` meets its contract. The loop's invariant: the relation and the places passed are copied.
use mathlib.Core.Path.{◌≡◌}
use lib.ListN.{length}
use lib.Seq.{paste}
use Rattle.covering.specs.Record.{holding, atom_at, atom_bytes}
use Rattle.records.proofs.copying.copy_atom.Given as goal

abbrev pub invariant-loop-j : goal.invariant-loop-j
invariant-loop-j l = (length l.to ≡ length l.initial.to)
    × (l.to ≡ paste l.initial.to l.at (atom_bytes (holding l.v) (atom_at (holding l.w) l.from l.i)) l.j)
