-- `unify::unknowns::unknown_in_places` meets its contract. The loop's invariant: a term in the places is unknown to the
-- body exactly where one from the j-th place on is.
use mathlib.Core.Path.{◌≡◌}
use Prim.Native.Nat.{◌+◌, ◌-◌}
use Rattle.covering.specs.Lists.{any}
use Rattle.covering.specs.Record.{stored, args_at, atoms_at}
use Rattle.unify.proofs.ValidTests.{unknown_to}
use Rattle.unify.proofs.unknowns.unknown_in_places.Given as goal

abbrev pub invariant-loop-j : goal.invariant-loop-j
invariant-loop-j l = (any (unknown_to (atoms_at stored l.rule.book.now l.rule.parts.body l.rule.parts.bodies)) (args_at l.rule.book.now l.i 6)
    ≡ any (unknown_to (atoms_at stored l.rule.book.now l.rule.parts.body l.rule.parts.bodies)) (args_at l.rule.book.now (l.i + l.j) (6 - l.j)))
