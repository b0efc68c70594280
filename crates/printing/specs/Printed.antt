-- What is printed (01, "Examples from the bench"), as bytes. Every line ends with a newline.
use Rattle.std.specs.Prelude.{cond, List, [], ◌∷◌, ◌++◌, ℕ, zero, suc, ◌+◌, ◌/◌, ◌%◌, eqb, ltb, length}
use Prim.Native.Char.{code}
use Prim.Native.String.{String, [] as empty, ◌∷◌ as ◌then◌}
use Rattle.covering.specs.Lists.{gather}
use Rattle.covering.specs.Term.{Term, var, con, Atom, Question}
use Rattle.covering.specs.Asking.{answer_relation, asking}
use Rattle.exploration.specs.Answer.{Result, union, refusal}

-- the bytes of a text, a byte for a character
abbrev pub ascii : String → List ℕ
ascii empty = []
ascii (c then s) = code c ∷ ascii s

-- a digit's byte
abbrev pub figure : ℕ → ℕ
figure n = 48 + n

-- the decimal digits of a number, with no zero in front; the first argument bounds how many there are
unfoldable pub figures : ℕ → ℕ → List ℕ
figures zero n = figure n ∷ []
figures (suc most) n = let more = figures most (n / 10) ++ figure (n % 10) ∷ [] in cond (ltb n 10) (figure n ∷ []) more

-- (`proofs/Decimal`: their value is the number, and a number that is not 0 begins with 1 to 9)
unfoldable pub decimal : ℕ → List ℕ
decimal n = figures n n

-- "v variable, c constant"
unfoldable pub term_text : Term → List ℕ
term_text (var n) = ascii "v" ++ decimal n
term_text (con c) = ascii "c" ++ decimal c

-- things one after the other, each with a mark before it; with the mark between two of them
module _ {A : Type 0} (mark : List ℕ) (shown : A → List ℕ) where
  abbrev pub marked : List A → List ℕ
  marked xs = gather (λ x. mark ++ shown x) xs

  abbrev pub separated : List A → List ℕ
  separated [] = []
  separated (x ∷ xs) = shown x ++ marked xs

-- "its atoms as relation number", r before it; and of an answer record, "printed `a(v0)`"
unfoldable pub relation_text : ℕ → List ℕ
relation_text r = let numbered = ascii "r" ++ decimal r in cond (eqb r answer_relation) (ascii "a") numbered

-- ".. and terms"
unfoldable pub atom_text : Atom → List ℕ
atom_text a = relation_text a.rel ++ (ascii "(" ++ (separated (ascii ",") term_text a.args ++ ascii ")"))

-- "printed as `always` after any answer record" (02, c): what stands for the atoms of a member without any
abbrev pub always_text : List Term → Question → List ℕ
always_text ts (a ∷ A) = []
always_text [] [] = ascii "always"
always_text (t ∷ ts) [] = ascii " always"

-- a member's line, its answer record and its atoms with a space between two
unfoldable pub member_line : Question → List ℕ
member_line M =
    separated (ascii " ") atom_text M ++ (always_text (asking M).answer (asking M).atoms ++ ascii "\n")

-- a line of two numbers, each after its words
unfoldable pub line : List ℕ → ℕ → List ℕ → ℕ → List ℕ
line first m second n = first ++ (decimal m ++ (second ++ (decimal n ++ ascii "\n")))

-- What is printed for a book's result: "The first line has members and explored; each other line is a member"; or
-- "`refused 10 at 1`: number, then place".
abbrev pub printed : Result → List ℕ
printed (union U n) = line (ascii "members ") (length U) (ascii " explored ") n ++ gather member_line U
printed (refusal n p) = line (ascii "refused ") n (ascii " at ") p
