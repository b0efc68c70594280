-- A record copied to the front of 85 bytes: it is sound, counts as many atoms, and is the same question. Assumes nothing.
use mathlib.Core.Path.{◌≡◌, sym, ◌∙◌, ap, subst}
use mathlib.Core.List.{List}
use Prim.Native.Nat.{ℕ}
use lib.ListN.{length, get_or}
use Rattle.covering.specs.Record.{stored, question_of, SoundRecord}
use Rattle.covering.specs.Buffer.{held_in, record_room}
use Rattle.covering.proofs.Padded.{sound_stored, stored_sound, stored_question}
use Rattle.covering.proofs.Lengths.{question_count}

module _ (B R : List ℕ) (s : SoundRecord stored B) (is : R ≡ held_in stored record_room (question_of stored B)) where
  pub copy_sound : SoundRecord stored R
  copy_sound = subst (SoundRecord stored) (sym is) (stored_sound _ (sound_stored B s))

  pub copy_same : question_of stored R ≡ question_of stored B
  copy_same = ap (question_of stored) is ∙ stored_question _ (sound_stored B s)

  pub copy_count : get_or R 0 0 ≡ get_or B 0 0
  copy_count = sym (question_count stored R) ∙ ap length copy_same ∙ question_count stored B
