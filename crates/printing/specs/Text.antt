-- What is put into a text: the contracts of what puts there are said with it.
use Rattle.std.specs.Prelude.{◌≡◌, List, ℕ, ◌+◌, ◌≤◌, length}
use Rattle.covering.specs.Put.{Puts}
use Rattle.printing.specs.declared.put.Text.{Text}

-- the text has room for the bytes
abbrev pub HasRoom : List ℕ → Text → Type 0
HasRoom bytes text = text.end + length bytes ≤ length text.room.now

-- the bytes are put where the text ended, and it ends where they do; its room is the one that it was, as long as it was
pub record Adds (bytes : List ℕ) (before after : Text) : Type 0 where
  pub same : after.room.ghost_name ≡ before.room.ghost_name
  pub long : length after.room.now ≡ length before.room.now
  pub puts : Puts bytes before.room.now before.end after.end after.room.now
