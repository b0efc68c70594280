-- `forming::formed::drop_equal` meets its contract. The loop's invariant: dropping equal atoms is adding those from
-- here on to those kept, each unless it is there, and there are no more than twelve in all.
use mathlib.Core.Path.{◌≡◌}
use Prim.Native.Nat.{◌+◌, ◌-◌, ◌≤◌}
use lib.ListN.{length, get_or}
use Rattle.covering.specs.Term.{eq_atom}
use Rattle.covering.specs.Form.{dedup}
use Rattle.covering.specs.Record.{stored, question_of}
use Rattle.forming.specs.Building.{added_all}
use Rattle.forming.proofs.Passing.{left}
use Rattle.forming.proofs.formed.drop_equal.Given as goal

abbrev pub invariant-loop-k : goal.invariant-loop-k
invariant-loop-k l =
    let B = l.member-inside.bytes.now in
    record {
      room : length l.kept + (get_or B 0 0 - l.k) ≤ 12;
      dropped : dedup (question_of stored B) ≡ added_all eq_atom l.kept (left B 1 (get_or B 0 0) l.k);
    }
