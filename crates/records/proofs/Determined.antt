-- Any two results that the contracts of `no_atoms` and `empty` allow are equal; and the bytes of a record of its own are
-- determined by its question. Assumes nothing.
use mathlib.Core.Path.{◌≡◌, sym, ap, ◌∙◌}
use mathlib.Core.List.{List}
use Prim.Native.Nat.{ℕ}
use Rattle.covering.specs.Record.{stored, question_of}
use Rattle.covering.specs.Buffer.{held_in, record_room}
use Rattle.records.specs.Holding.{HeldRecord}
use Rattle.records.proofs.held.no_atoms.Reads as no-atoms-reads
use Rattle.records.proofs.held.Held.empty.Reads as empty-reads

pub no_atoms_determined : (κs : _) (a : _) (r s : _) (x y : _) → no-atoms-reads.Learnt κs a r x
    → no-atoms-reads.Learnt κs a s y → r ≡ s
no_atoms_determined κs a r s x y p q = p ∙ sym q

pub empty_determined : (κs : _) (a : _) (r s : _) (x y : _) → empty-reads.Learnt κs a r x
    → empty-reads.Learnt κs a s y → r ≡ s
empty_determined κs a r s x y p q = p ∙ sym q

pub held_determined : (B C : List ℕ) → HeldRecord B → HeldRecord C → question_of stored B ≡ question_of stored C → B ≡ C
held_determined B C h k e = h.rest ∙ ap (held_in stored record_room) e ∙ sym k.rest
