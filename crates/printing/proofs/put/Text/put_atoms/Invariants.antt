-- The first k atoms are put, and the others are left.
use Rattle.std.proofs.Common.{◌+◌, ◌*◌, ◌-◌, T}
use Rattle.covering.specs.Record.{stored, atoms_at, are_atoms}
use Rattle.printing.specs.Printed.{ascii, marked, atom_text}
use Rattle.printing.proofs.Adding.{Left}
use Rattle.printing.proofs.put.Text.put_atoms.Given as goal

abbrev pub invariant-loop-k : goal.invariant-loop-k
invariant-loop-k l =
    Left (marked (ascii " ") atom_text (atoms_at stored l.member l.i l.n))
    (marked (ascii " ") atom_text (atoms_at stored l.member (l.i + 7 * l.k) (l.n - l.k))) l.initial.self l.self
    × T (are_atoms stored l.member (l.i + 7 * l.k) (l.n - l.k))
