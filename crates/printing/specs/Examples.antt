-- 01's printed book, and what is printed for it.
use Rattle.std.specs.Prelude.{List, [], ◌∷◌, ℕ}
use Rattle.exploration.specs.Examples.{printed_book, printed_once, depth_two}
use Rattle.exploration.specs.Others.{printed_new, loan_line, which_ones, known, known_which}
use Rattle.printing.specs.Printed.{ascii}
use Rattle.printing.specs.Answer.{lines_of, text_size}

-- a book's bytes, and the text
pub record PrintedExample : Type 0 where
  pub book : List ℕ
  pub text : List ℕ

-- the same with the text that the definitions say
abbrev pub shown : PrintedExample → PrintedExample
shown e = record { book = e.book; text = lines_of e.book text_size }

unfoldable pub examples : List PrintedExample
examples =
    -- "it prints"
    record { book = printed_book.book; text = ascii "members 2 explored 2\nr1(v0) r2(v1,v0)\nr0(v0)\n" }
    -- "With L = 1 it prints `refused 10 at 1`: number, then place."
    ∷ record { book = printed_once.book; text = ascii "refused 10 at 1\n" }
    -- "example 9's like at depth two"
    ∷ record { book = depth_two.book; text = ascii "members 3 explored 3\nr2(v0,v1) r2(v1,v0)\nr1(v0)\nr0(v0)\n" }
    -- in the new form (02, i): the same lines, and places five and six
    ∷ record { book = printed_new.book; text = ascii "members 2 explored 2\nr1(v0) r2(v1,v0)\nr0(v0)\n" }
    ∷ record { book = loan_line.book; text = ascii "members 2 explored 2\na(v0) r1(v0,v1,v2,v3,v4,v5)\na(v0) r0(v0)\n" }
    -- "printed `a(v0)`"
    ∷ record { book = which_ones.book; text = ascii "members 2 explored 2\na(v0) r0(v0)\na(v0) r1(v0)\n" }
    -- "printed as `always` after any answer record"
    ∷ record { book = known.book; text = ascii "members 1 explored 2\nalways\n" }
    ∷ record { book = known_which.book; text = ascii "members 2 explored 2\na(v0) r0(v0)\na(c0) always\n" }
    -- "2 | book under 18 bytes"
    ∷ record { book = []; text = ascii "refused 2 at 0\n" }
    ∷ []
