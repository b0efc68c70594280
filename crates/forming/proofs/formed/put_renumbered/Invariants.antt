-- `forming::formed::put_renumbered` meets its contract. The loop's invariant: the atoms passed are put renumbered, and with
-- those from here on they are no more than twelve.
use mathlib.Core.Path.{◌≡◌}
use mathlib.Core.List.{◌++◌}
use Prim.Native.Nat.{◌+◌, ◌-◌, ◌≤◌}
use lib.ListN.{length, get_or}
use Rattle.covering.specs.Term.{Question, on_question}
use Rattle.covering.specs.Form.{numbering}
use Rattle.covering.specs.Record.{stored, question_of}
use Rattle.records.specs.Holding.{HeldRecord}
use Rattle.forming.proofs.Passing.{left}
use Rattle.forming.proofs.formed.put_renumbered.Given as goal

abbrev pub invariant-loop-k : goal.invariant-loop-k
invariant-loop-k l =
    let B = l.member-inside.bytes.now in
    HeldRecord l.out
    × (length (question_of stored l.out) + (get_or B 0 0 - l.k) ≤ 12)
    × ((P : Question)
    × (question_of stored l.out ≡ on_question (numbering l.member) P)
    × (l.member ≡ P ++ left B 1 (get_or B 0 0) l.k))
