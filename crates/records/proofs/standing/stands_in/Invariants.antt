-- `records::standing::stands_in` meets its contract. The loop's invariant: t stands in all atoms exactly where it stands
-- in those from here on.
use mathlib.Core.Path.{◌≡◌}
use Prim.Native.Nat.{◌+◌, ◌*◌, ◌-◌}
use Rattle.covering.specs.Lists.{any}
use Rattle.covering.specs.Term.{terms, eq_term}
use Rattle.covering.specs.Record.{stored, term_of, atoms_at}
use Rattle.records.proofs.standing.stands_in.Given as goal

abbrev pub invariant-loop-k : goal.invariant-loop-k
invariant-loop-k l =
    any (eq_term (term_of l.t)) (terms (atoms_at stored l.s l.i l.n))
    ≡ any (eq_term (term_of l.t)) (terms (atoms_at stored l.s (l.i + l.k * 7) (l.n - l.k)))
