-- `forming::formed::numbers_of` meets its contract. The loop's invariant: the record's variables in order of first
-- appearance are those that the table has now and then those of the atoms from here on.
use mathlib.Core.Path.{◌≡◌}
use mathlib.Core.List.{List}
use Prim.Native.Nat.{ℕ, ◌+◌, ◌*◌, ◌-◌, ◌≤◌}
use lib.ListN.{get_or}
use Rattle.covering.specs.Term.{terms}
use Rattle.covering.specs.Form.{firsts}
use Rattle.forming.specs.Building.{all_seen, NumberTable}
use Rattle.forming.proofs.Passing.{left}
use Rattle.forming.proofs.formed.numbers_of.Given as goal

abbrev pub invariant-loop-k : goal.invariant-loop-k
invariant-loop-k l =
    let B = l.member-inside.bytes.now in
    (l.numbers.given + (get_or B 0 0 - l.k) * 6 ≤ 72)
    × ((S : List ℕ)
    × NumberTable S l.numbers.table l.numbers.given
    × (firsts (terms l.member) ≡ all_seen S (terms (left B 1 (get_or B 0 0) l.k))))
