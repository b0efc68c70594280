-- `records::copying::copy_atoms` meets its contract. The loop's invariant: the atoms passed are put.
use Rattle.covering.specs.Lists.{gather}
use Rattle.covering.specs.Record.{holding, atoms_at, atom_bytes}
use Rattle.covering.specs.Put.{Puts}
use Rattle.records.proofs.copying.copy_atoms.Given as goal

abbrev pub invariant-loop-k : goal.invariant-loop-k
invariant-loop-k l = Puts (gather (atom_bytes (holding l.v)) (atoms_at (holding l.w) l.from l.i l.k)) l.initial.to l.at l.end l.to
