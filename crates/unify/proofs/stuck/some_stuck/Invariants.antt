-- `unify::stuck::some_stuck` meets its contract. The loop's invariant: the atoms yet to come are among those asked for.
use Rattle.covering.specs.Record.{stored, atoms_at}
use Rattle.unify.proofs.EachTerm.{from_atom}
use Rattle.unify.proofs.StuckBytes.{Within}
use Rattle.unify.proofs.stuck.some_stuck.Given as goal

abbrev pub invariant-loop-k : goal.invariant-loop-k
invariant-loop-k l = Within (from_atom l.question l.i l.n l.k) (atoms_at stored l.question l.i l.n)
