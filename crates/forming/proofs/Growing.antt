-- A record that grows atom by atom has 85 bytes, and an atom of a sound record on the table of its new numbers fits. Assumes
-- nothing.
use mathlib.Core.Path.{◌≡◌, sym, ◌∙◌, ap, subst}
use mathlib.Core.List.Memᴰ
use mathlib.Core.List.{List}
use Prim.Native.Nat.{ℕ, ◌<◌}
use native.Mathlib.Omega.{arith}
use lib.ListN.{length, get_or}
use Rattle.covering.specs.Lists.{◌∈◌}
use Rattle.covering.specs.Term.{Atom, on_atom, terms}
use Rattle.covering.specs.Form.{firsts, numbering}
use Rattle.covering.specs.Record.{stored, question_of, AtomFits, SoundRecord}
use Rattle.covering.specs.Buffer.{RoomLeft, record_room}
use Rattle.forming.specs.Building.{new_number, sub_of}
use Rattle.covering.proofs.RoundTrip.{stored_apart}
use Rattle.covering.proofs.Padded.{held_count, held_length}
use Rattle.covering.proofs.Fitting.{sound_fits, renumber_fits}
use Rattle.forming.proofs.Renaming.{on_table}

-- a record under construction fills its bytes
pub room_length : (B : List ℕ) → RoomLeft stored record_room B → length B ≡ 85
room_length B r =
    let count : get_or B 0 0 ≡ length (question_of stored B) =
    ap (λ x. get_or x 0 0) r.holds ∙ held_count stored record_room (question_of stored B) in
    ap length r.holds ∙ held_length stored record_room (question_of stored B) (omega (arith, r.room, count))

-- the table of a sound record's new numbers: an atom on it is that atom renumbered, and fits
module _ (B : List ℕ) (s : SoundRecord stored B) (table : List ℕ)
    (each : (n : ℕ) → n < 96 → get_or table n 0 ≡ new_number (firsts (terms (question_of stored B))) n) (a : Atom)
    (m : a ∈ question_of stored B) where
  pub table_numbers : on_atom (sub_of table) a ≡ on_atom (numbering (question_of stored B)) a
  table_numbers = on_table (question_of stored B) table (sound_fits stored stored_apart B (omega arith) s) each a m

  pub table_fits : AtomFits stored (on_atom (sub_of table) a)
  table_fits =
      let f = sound_fits stored stored_apart B (omega arith) s in
      let g = renumber_fits stored (question_of stored B) f (omega arith) in
      subst
      (AtomFits stored)
      (sym table_numbers)
      (g.each _ (Memᴰ.map (on_atom (numbering (question_of stored B))) m))
