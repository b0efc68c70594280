-- `records::standing::stands_at` meets its contract. The loop's invariant: t is among all places exactly where it is
-- among those from here on.
use mathlib.Core.Path.{◌≡◌}
use Prim.Native.Nat.{◌+◌, ◌-◌}
use Rattle.covering.specs.Lists.{any}
use Rattle.covering.specs.Term.{eq_term}
use Rattle.covering.specs.Record.{term_of, args_at}
use Rattle.records.proofs.standing.stands_at.Given as goal

abbrev pub invariant-loop-u : goal.invariant-loop-u
invariant-loop-u l =
    any (eq_term (term_of l.t)) (args_at l.s l.i 6)
    ≡ any (eq_term (term_of l.t)) (args_at l.s (l.i + l.u-index) (6 - l.u-index))
