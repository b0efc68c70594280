-- How the functions say what becomes of a book: `Ok`, or a refusal, whose number 01 gives ("The answer is a number and a
-- place. 0 means complete").
use Rattle.std.specs.Prelude.{ℕ, Result, Ok, Err}
use Rattle.reading.specs.declared.Reason.{Reason}
use Rattle.reading.specs.declared.Reason.TheVariants.{ShortOutput, ShortBook, OutsideTable, WrongOffset, WrongRelation, WrongRule}
use Rattle.reading.specs.declared.Reason.TheVariants.{WrongByte, TooLong, NoRoom, NoneLeft, LooseAnswer, NoOldForm}
use Rattle.reading.specs.declared.Refused.{Refused}
use Rattle.reading.specs.Refusal.{Refusal}

-- "Refusal numbers"; 11 of 02, a), and 13 of 02, i)
abbrev pub number_of : Reason → ℕ
number_of ShortOutput = 1
number_of ShortBook = 2
number_of OutsideTable = 3
number_of WrongOffset = 4
number_of WrongRelation = 5
number_of WrongRule = 6
number_of WrongByte = 7
number_of TooLong = 8
number_of NoRoom = 9
number_of NoneLeft = 10
number_of LooseAnswer = 11
number_of NoOldForm = 13

-- the number and the place of what is judged: 0 and 0 where nothing is wrong
abbrev pub judged : Result Unit Refused → Refusal
judged (Ok _) = record { number = 0; place = 0 }
judged (Err r) = record { number = number_of r.reason; place = r.place }

-- the number and the place of what is written: 0, and the length
abbrev pub number_told : Result ℕ Refused → ℕ
number_told (Ok n) = 0
number_told (Err r) = number_of r.reason

abbrev pub place_told : Result ℕ Refused → ℕ
place_told (Ok n) = n
place_told (Err r) = r.place
