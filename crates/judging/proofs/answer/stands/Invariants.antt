-- A variable that none of the atoms passed has stands where it stands in those left. Assumes nothing.
use Rattle.std.proofs.Common.{◌≡◌, ◌+◌, ◌*◌, ◌-◌}
use Rattle.covering.specs.Lists.{any}
use Rattle.covering.specs.Term.{var, terms, eq_term}
use Rattle.covering.specs.Record.{holding, atoms_at}
use Rattle.judging.proofs.answer.stands.Given as goal

abbrev pub invariant-loop-k : goal.invariant-loop-k
invariant-loop-k l = any (eq_term (var l.b)) (terms (atoms_at (holding l.w) l.book l.i l.n))
    ≡ any (eq_term (var l.b)) (terms (atoms_at (holding l.w) l.book (l.i + (1 + l.w) * l.k) (l.n - l.k)))
