-- `records::sets::relations_at` meets its contract. The loop's invariant: the atoms' set is the one so far with the
-- relations of the atoms from here on.
use mathlib.Core.Path.{◌≡◌}
use Rattle.covering.specs.Record.{stored, atoms_at}
use Rattle.records.specs.Relations.{joined_to, relations_of}
use Rattle.records.proofs.Onward.{from}
use Rattle.records.proofs.sets.relations_at.Given as goal

abbrev pub invariant-loop-k : goal.invariant-loop-k
invariant-loop-k l = relations_of (atoms_at stored l.s l.i l.n) ≡ joined_to l.set (from stored l.s l.i l.n l.k)
