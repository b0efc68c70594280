-- A book as it is written (01, "Stored book"; 02, i), in either form, and what a book keeps to so that it can be.
-- That reading undoes writing is proved in `proofs/WrittenRead`, and that writing undoes reading in `proofs/BookBack`.
use Rattle.std.specs.Prelude.{◌≡◌, cond, List, [], ◌∷◌, ◌++◌, ℕ, ◌+◌, ◌≤◌, ◌<◌, length, get_or}
use Rattle.covering.specs.Lists.{◌∈◌, gather}
use Rattle.covering.specs.Term.{Term, var, con, Atom, Question}
use Rattle.covering.specs.Asking.{Asking, answer_most, joined, Stands}
use Rattle.covering.specs.Record.{holding, atom_bytes}
use Rattle.covering.specs.Rule.{Rule}
use Rattle.reading.specs.Word.{byte, word_bytes}
use Rattle.reading.specs.Header.{BookForm, says_new, Range, relations_range, constants_range, rules_range, atoms_range}
use Rattle.reading.specs.Header.{allowed_range, places_range, body_range, head_range}
use Rattle.reading.specs.Book.{Book}

-- "An atom is five bytes: relation number below P, then four places." In the new form they are seven.
abbrev pub atoms_bytes : BookForm → Question → List ℕ
atoms_bytes f A = gather (atom_bytes (holding f.places)) A

-- "A rule: two bytes, the body's and the head's atom counts, .., then body atoms, then head atoms."
unfoldable pub rule_bytes : BookForm → Rule → List ℕ
rule_bytes f r = length r.body ∷ length r.head ∷ (atoms_bytes f r.body ++ atoms_bytes f r.head)

abbrev pub rules_bytes : BookForm → List Rule → List ℕ
rules_bytes f rs = gather (rule_bytes f) rs

-- "A leading record with relation byte 255 carries their terms before the question's atoms" (02, a)
abbrev pub question_bytes : BookForm → Asking → List ℕ
question_bytes f q = atoms_bytes f (joined q)

-- "The offsets are 18, 18 + P, and wherever the rules end."; "relations at 20" (02, i)
abbrev pub rules_offset : BookForm → Book → ℕ
rules_offset f b = f.header + length b.places

abbrev pub question_offset : BookForm → Book → ℕ
question_offset f b = rules_offset f b + length (rules_bytes f b.rules)

abbrev pub total_length : BookForm → Book → ℕ
total_length f b = question_offset f b + length (question_bytes f b.question)

-- "A new book form has a tenth header word, 6" (02, i)
abbrev pub tenth_words : BookForm → List ℕ
tenth_words f = cond (says_new f.header) (f.places ∷ []) []

-- "relations P, constants C, rules R, question atoms N, explorations allowed L, then the offsets of relations, rules
-- and question, then the total length."
abbrev pub header_words : BookForm → Book → List ℕ
header_words f b =
    length b.places
    ∷ b.constants
    ∷ length b.rules
    ∷ length b.question.atoms
    ∷ b.allowed
    ∷ f.header
    ∷ rules_offset f b
    ∷ question_offset f b
    ∷ total_length f b
    ∷ tenth_words f

-- "All words are 16-bit, little-endian."
unfoldable pub header_bytes : BookForm → Book → List ℕ
header_bytes f b = gather word_bytes (header_words f b)

-- what stands after the header: "Relations: P bytes, each the number of places", the rules, the question
abbrev pub contents_bytes : BookForm → Book → List ℕ
contents_bytes f b = b.places ++ (rules_bytes f b.rules ++ question_bytes f b.question)

unfoldable pub book_bytes : BookForm → Book → List ℕ
book_bytes f b = header_bytes f b ++ contents_bytes f b

-- a list that is one of bytes
abbrev pub AreBytes : List ℕ → Type 0
AreBytes B = (i : ℕ) → byte B i < 256

-- "| field | least | most |"
abbrev pub Within : Range → ℕ → Type 0
Within r n = (r.least ≤ n) × (n ≤ r.most)

-- "0 to 31 for a variable or 128 to 127 + C for a constant"; "Variables run 0 to 47" (02, i)
abbrev pub BookTerm : BookForm → Book → Term → Type 0
BookTerm f b (var n) = n < f.variables
BookTerm f b (con c) = c < b.constants

-- "relation number below P", and as many terms as its relation has places
pub record BookAtom (f : BookForm) (b : Book) (a : Atom) : Type 0 where
  pub relation : a.rel < length b.places
  pub places : length a.args ≡ get_or b.places a.rel 0
  pub terms : (t : Term) → t ∈ a.args → BookTerm f b t

pub record BookRule (f : BookForm) (b : Book) (r : Rule) : Type 0 where
  pub the_body_count : Within body_range (length r.body)
  pub the_head_count : Within head_range (length r.head)
  pub body : (a : Atom) → a ∈ r.body → BookAtom f b a
  pub head : (a : Atom) → a ∈ r.head → BookAtom f b a

-- what a book keeps to in a form: the table of the header's fields, the relations' places, and its rules and question
pub record BookFits (f : BookForm) (b : Book) : Type 0 where
  pub relations : Within relations_range (length b.places)
  pub constants : Within constants_range b.constants
  pub rule_count : Within rules_range (length b.rules)
  pub atom_count : Within atoms_range (length b.question.atoms)
  pub allowed : Within allowed_range b.allowed
  pub places : (r : ℕ) → r < length b.places → Within (places_range f) (get_or b.places r 0)
  pub rules : (r : Rule) → r ∈ b.rules → BookRule f b r
  pub atoms : (a : Atom) → a ∈ b.question.atoms → BookAtom f b a
  -- "but still at most four answer places"; "an answer variable in no question atom" is refused
  pub answer_count : length b.question.answer ≤ answer_most
  pub answer : (t : Term) → t ∈ b.question.answer → BookTerm f b t
  pub stands : Stands b.question
