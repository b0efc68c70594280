-- What is known of the bytes of a record of its own: they begin with a sound record, and the rest is 255.
use Rattle.std.specs.Prelude.{◌≡◌, List, ℕ}
use Rattle.covering.specs.Record.{stored, question_of, SoundRecord}
use Rattle.covering.specs.Buffer.{held_in, record_room}

pub record HeldRecord (B : List ℕ) : Type 0 where
  pub sound : SoundRecord stored B
  pub rest : B ≡ held_in stored record_room (question_of stored B)
