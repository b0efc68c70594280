-- `forms::put::put_bytes` meets its contract. The loop's invariant: the bytes passed are put.
use Prim.Native.Nat.{◌+◌}
use lib.ListN.{take, drop}
use Rattle.covering.specs.Put.{Puts}
use Rattle.forms.proofs.put.put_bytes.Given as goal

abbrev pub invariant-loop-k : goal.invariant-loop-k
invariant-loop-k l = Puts (take l.k (drop l.i l.from)) l.initial.out l.at (l.at + l.k) l.out
