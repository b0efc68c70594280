-- Records of 85 bytes: that of a question that fits, of a member and of a rewriting of a member. Assumes nothing.
use mathlib.Core.Path.{◌≡◌}
use mathlib.Core.List.{List}
use Prim.Native.Nat.{ℕ}
use lib.ListN.{length}
use Rattle.covering.specs.Lists.{◌∈◌}
use Rattle.covering.specs.Term.{Question}
use Rattle.covering.specs.Record.{stored, question_of, Fits, SoundRecord}
use Rattle.covering.specs.Buffer.{held_in, record_room}
use Rattle.covering.specs.Asking.{Shaped}
use Rattle.covering.proofs.Padded.{stored_question, stored_sound}
use Rattle.reading.specs.Book.{book_of, layout_of}
use Rattle.reading.specs.Verdict.{SoundBook}
use Rattle.exploration.specs.Run.{all_rewritings}
use Rattle.exploration.proofs.OfBook.{stored_fits, rewriting_stored}

module _ (B : List ℕ) (s : SoundBook B) (M : Question) (m : Fits (layout_of B) M) where
  -- the record of a member can be handed to covering; to the lister it can by `member_in` there
  pub member_question : question_of stored (held_in stored record_room M) ≡ M
  member_question = stored_question M (stored_fits B s m)

  pub member_sound : SoundRecord stored (held_in stored record_room M)
  member_sound = stored_sound M (stored_fits B s m)

  -- and that of a rewriting of it to covering
  module _ (t : Shaped (length (book_of B).question.answer) M) (P : Question)
      (x : P ∈ all_rewritings (book_of B).rules M)
    where
      pub rewriting_sound : SoundRecord stored (held_in stored record_room P)
      rewriting_sound = stored_sound P (rewriting_stored B s M m t P x)

      pub rewriting_question : question_of stored (held_in stored record_room P) ≡ P
      rewriting_question = stored_question P (rewriting_stored B s M m t P x)
