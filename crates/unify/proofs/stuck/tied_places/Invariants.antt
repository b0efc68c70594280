-- `unify::stuck::tied_places` meets its contract. The loop's invariant: the terms from the j-th place on are among the
-- atom's.
use Prim.Native.Nat.{◌+◌, ◌-◌}
use Rattle.covering.specs.Record.{args_at}
use Rattle.unify.proofs.StuckBytes.{Within}
use Rattle.unify.proofs.stuck.tied_places.Given as goal

abbrev pub invariant-loop-j : goal.invariant-loop-j
invariant-loop-j l = Within (args_at l.question (l.i + l.j) (6 - l.j)) (args_at l.question l.i 6)
