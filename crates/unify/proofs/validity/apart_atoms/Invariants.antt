-- `unify::validity::apart_atoms` meets its contract. The loop's invariant: the terms of the atoms are apart exactly
-- where those of the atoms from here on are.
use mathlib.Core.Path.{◌≡◌}
use Rattle.covering.specs.Lists.{all}
use Rattle.covering.specs.Term.{on_question, terms}
use Rattle.covering.specs.Record.{stored, atoms_at}
use Rattle.unification.specs.Step.{up}
use Rattle.unify.proofs.EachTerm.{from_atom}
use Rattle.unify.proofs.ValidTests.{apart_byte}
use Rattle.unify.proofs.validity.apart_atoms.Given as goal

abbrev pub invariant-loop-k : goal.invariant-loop-k
invariant-loop-k l =
    all (apart_byte l.table l.z l.rep) (terms (on_question (up l.shift) (atoms_at stored l.s l.i l.n)))
    ≡ all (apart_byte l.table l.z l.rep) (terms (on_question (up l.shift) (from_atom l.s l.i l.n l.k)))
