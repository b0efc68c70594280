-- `forming::formed::put_atom` meets its contract: the atom's bytes are copied to the place after the record's own, whose
-- count is one more.
use native.Mathlib.Omega.{arith}
use mathlib.Core.Path.{ap, ◌∙◌}
use Prim.Native.Nat.{ℕ, ◌+◌}
use lib.ListN.{get_or, set, drop, length-set}
use lib.Seq.{paste}
use Rattle.covering.specs.Record.{stored}
use Rattle.covering.specs.Buffer.{record_room}
use Rattle.covering.proofs.Padded.{put_after}
use Rattle.covering.proofs.RoundTrip.{stored_apart}
use Rattle.records.proofs.Part.{put_front}
use Rattle.forming.proofs.AtomBytes.{atom_bytes_lem}
use Rattle.forming.proofs.Growing.{room_length}
use Rattle.forming.proofs.formed.put_atom.Goals as goal

pub bounds-kept-0 : goal.bounds-kept-0
bounds-kept-0 c = omega (arith, room_length _ c.requires.0)

pub bounds-kept-0-2 : goal.bounds-kept-0-2
bounds-kept-0-2 c = omega (arith, room_length _ c.requires.0)

pub slice_bounds-copy_from_slice-end : goal.slice_bounds-copy_from_slice-end
slice_bounds-copy_from_slice-end c =
    omega (arith, room_length _ c.requires.0, c.requires.0.room, c.width-start.ensures, length-set {A = ℕ})

pub returns : goal.returns
returns c =
    let a = c.args in
    let kept = a.kept.now in
    let s = drop a.at a.from.now in
    put_front (set kept 0 (get_or kept 0 0 + 1)) s _ c.width-start.result _ _ 7 c.copy_from_slice.ensures.after
    (omega arith) (omega arith)
    ∙ ap (λ (i : ℕ). paste (set kept 0 (get_or kept 0 0 + 1)) i s 7) c.width-start.ensures
    ∙ put_after stored record_room kept _ s c.requires.0
    (atom_bytes_lem stored stored_apart a.from.now a.at c.requires.1)
