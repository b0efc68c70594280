-- `forming::formed::has_atom` meets its contract. The loop's invariant: the atom is among them all exactly where it is
-- among those from here on.
use mathlib.Core.Path.{◌≡◌}
use Rattle.covering.specs.Term.{eq_atom}
use Rattle.covering.specs.Record.{stored, atom_at, atoms_at}
use Rattle.forming.specs.Building.{has}
use Rattle.forming.proofs.Passing.{left}
use Rattle.forming.proofs.formed.has_atom.Given as goal

abbrev pub invariant-loop-k : goal.invariant-loop-k
invariant-loop-k l =
    has eq_atom (atoms_at stored l.kept l.i l.n) (atom_at stored l.from l.at)
    ≡ has eq_atom (left l.kept l.i l.n l.k) (atom_at stored l.from l.at)
