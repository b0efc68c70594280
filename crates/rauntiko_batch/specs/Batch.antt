-- A batch: books one after the other, each after its length of four bytes; and what is written for it.
use Rattle.std.specs.Prelude.{◌≡◌, ℕ, ◌+◌, ◌<◌, ◌≤◌, min, List, [], ◌++◌, length, take, drop, ⊤, None, Some, Bool, true, false, codes}
use Rattle.std.specs.declared.option.Option.{Option}
use Rattle.std.specs.Io.KnownBytes.{Appends, Keeps}
use Rattle.input.specs.Number.{low_first}
use Rattle.input.specs.Looked.{looked_at}
use Rattle.printing.specs.Answer.{lines_of, text_size}

-- the length that stands before the first book
abbrev pub first_size : List ℕ → ℕ
first_size xs = low_first (take 4 xs)

-- the first book is all there
abbrev pub HasBook : List ℕ → Type 0
HasBook xs = 4 + first_size xs ≤ length xs

-- its bytes, of which no more than these are looked at
abbrev pub first_book : List ℕ → List ℕ
first_book xs = take (min (first_size xs) looked_at) (drop 4 xs)

-- what follows it
abbrev pub after_first : List ℕ → List ℕ
after_first xs = drop (4 + first_size xs) xs

-- what is written for it: what is printed for the book, and a line with a full stop
abbrev pub first_answer : List ℕ → List ℕ
first_answer xs = lines_of (first_book xs) text_size ++ codes ".\n"

-- what is written for a batch: the answers to its books, up to one that is not all there
pub data Answered : List ℕ → List ℕ → Type 0 where
  none : (xs : List ℕ) → (HasBook xs → ⊥) → Answered xs []
  first : (xs ys : List ℕ) → HasBook xs → Answered (after_first xs) ys → Answered xs (first_answer xs ++ ys)

-- what a reader has left where n bytes are read for nothing, and whether they were there
abbrev pub Skips : ℕ → Option (List ℕ) → Option (List ℕ) → Bool → Type 0
Skips n None after there = ⊤
Skips n (Some xs) after true = (n ≤ length xs) × (after ≡ Some (drop n xs))
Skips n (Some xs) after false = length xs < n

-- what a reader has left and stands in a buffer where the first book is read, and how much of it, if there is one
abbrev pub ReadsFirst : Option (List ℕ) → Option (List ℕ) → List ℕ → Option ℕ → Type 0
ReadsFirst None after book read = ⊤
ReadsFirst (Some xs) after book (Some n) = HasBook xs × (after ≡ Some (after_first xs)) × (take n book ≡ first_book xs)
ReadsFirst (Some xs) after book None = HasBook xs → ⊥

-- what a reader has left and a writer holds where the first book is answered, and whether there is one
abbrev pub AnswersFirst : Option (List ℕ) → Option (List ℕ) → Option (List ℕ) → Option (List ℕ) → Bool → Type 0
AnswersFirst None after old new there = ⊤
AnswersFirst (Some xs) after old new true = HasBook xs × (after ≡ Some (after_first xs)) × Appends old new (first_answer xs)
AnswersFirst (Some xs) after old new false = (HasBook xs → ⊥) × Keeps old new
