-- What `print` and `print_refusal` print, and what they ask: a number, a place and an output that say a result, and room
-- for its lines.
use Rattle.std.specs.Prelude.{◌≡◌, List, [], ℕ, zero, suc, ◌≤◌, length}
use Rattle.covering.specs.Record.{new_places}
use Rattle.reading.specs.Word.{word}
use Rattle.exploration.specs.Answer.{Result, union, refusal}
use Rattle.exploration.specs.Standing.{WrittenAt}
use Rattle.exploration.specs.Union.{members_of, explored_of}
use Rattle.printing.specs.Printed.{ascii, printed}
use Rattle.printing.specs.declared.put.Text.{Text}
use Rattle.printing.specs.Text.{HasRoom}

-- The result that a number, a place and an output say, where each member has so many answer records and six places an
-- atom: "0 means complete",
-- and the output has the union; "Every other number" is a refusal's.
abbrev pub result_in : ℕ → ℕ → ℕ → List ℕ → Result
result_in answers zero place out = union (members_of new_places answers out) (explored_of out)
result_in answers (suc n) place out = refusal (suc n) place

-- what stands for the atoms where none is counted, after so many answer records
unfoldable pub always_bytes : ℕ → ℕ → List ℕ
always_bytes zero zero = ascii "always"
always_bytes zero (suc answers) = ascii " always"
always_bytes (suc count) answers = []

-- a union stands in the output: its header, and its members one after the other, each with so many answer records
pub record UnionStands (answers : ℕ) (out : List ℕ) : Type 0 where
  pub header : 8 ≤ length out
  pub members : WrittenAt new_places answers out (word out 4) (word out 0)

-- what a text has room for: `print` asks it at the number 0, `print_refusal` at a refusal's
pub record Printable (answers number place : ℕ) (out : List ℕ) (text : Text) : Type 0 where
  pub stands : number ≡ 0 → UnionStands answers out
  pub fits : HasRoom (printed (result_in answers number place out)) text
