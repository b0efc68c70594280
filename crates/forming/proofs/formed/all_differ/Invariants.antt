-- `forming::formed::all_differ` meets its contract. The loop's invariant: if of the atoms from here on none is dropped,
-- none of them all is.
use mathlib.Core.Path.{◌≡◌}
use lib.ListN.{get_or}
use Rattle.covering.specs.Form.{dedup}
use Rattle.forming.proofs.Passing.{left}
use Rattle.forming.proofs.formed.all_differ.Given as goal

abbrev pub invariant-loop-k : goal.invariant-loop-k
invariant-loop-k l =
    let B = l.member-inside.bytes.now in
    dedup (left B 1 (get_or B 0 0) l.k) ≡ left B 1 (get_or B 0 0) l.k → dedup l.member ≡ l.member
