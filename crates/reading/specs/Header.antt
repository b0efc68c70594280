-- The header, the limits of its fields and the sizes of what follows it (01, "Stored book"), in both forms of a book
-- (02, i).
use Rattle.std.specs.Prelude.{◌≡◌, Bool, cond, ◌&&◌, ◌⊎◌, List, ℕ, ◌+◌, ◌*◌, ◌<◌, eqb, leb}
use Rattle.covering.specs.Record.{old_places, new_places, holding, size}
use Rattle.reading.specs.declared.Header.{Header}
use Rattle.reading.specs.Word.{word}

-- "relations P, constants C, rules R, question atoms N, explorations allowed L,"
abbrev pub relations : List ℕ → ℕ
relations B = word B 0

abbrev pub constants : List ℕ → ℕ
constants B = word B 2

abbrev pub rules : List ℕ → ℕ
rules B = word B 4

abbrev pub atoms : List ℕ → ℕ
atoms B = word B 6

abbrev pub allowed : List ℕ → ℕ
allowed B = word B 8

-- "then the offsets of relations, rules and question,"
abbrev pub relations_at : List ℕ → ℕ
relations_at B = word B 10

abbrev pub rules_at : List ℕ → ℕ
rules_at B = word B 12

abbrev pub question_at : List ℕ → ℕ
question_at B = word B 14

-- "then the total length."
abbrev pub total_word : List ℕ → ℕ
total_word B = word B 16

-- "A new book form has a tenth header word, 6" (02, i)
abbrev pub tenth_word : List ℕ → ℕ
tenth_word B = word B 18

-- The two forms: the header's bytes, the places of an atom and how many variables there are.
pub record BookForm : Type 0 where
  pub header : ℕ
  pub places : ℕ
  pub variables : ℕ

-- "The header has nine" words; "An atom is five bytes: relation number below P, then four places."; "0 to 31 for a
-- variable"
abbrev pub old : BookForm
old = record { header = 18; places = old_places; variables = 32 }

-- "A new book form has a tenth header word, 6, relations at 20 .., atoms and answer records of seven bytes .. Variables
-- run 0 to 47"
abbrev pub new : BookForm
new = record { header = 20; places = new_places; variables = 48 }

-- "The relations' offset, 18 or 20, tells the forms apart." What has another offset is judged as old.
abbrev pub says_new : ℕ → Bool
says_new table = eqb table new.header

unfoldable pub form_for : ℕ → BookForm
form_for table = cond (says_new table) new old

abbrev pub is_new : List ℕ → Bool
is_new B = says_new (relations_at B)

abbrev pub form_of : List ℕ → BookForm
form_of B = form_for (relations_at B)

abbrev pub header_size : List ℕ → ℕ
header_size B = (form_of B).header

abbrev pub atom_places : List ℕ → ℕ
atom_places B = (form_of B).places

abbrev pub variables : List ℕ → ℕ
variables B = (form_of B).variables

-- an atom's bytes: its relation number and its places
abbrev pub atom_size_in : BookForm → ℕ
atom_size_in f = size (holding f.places)

abbrev pub atom_size : List ℕ → ℕ
atom_size B = atom_size_in (form_of B)

-- the words as the code hands them on; the places are those that the tenth word tells, and four where there is none
abbrev pub header_of : List ℕ → Header
header_of B =
    record {
      relations = relations B;
      constants = constants B;
      rules = rules B;
      atoms = atoms B;
      allowed = allowed B;
      table = relations_at B;
      start = rules_at B;
      question = question_at B;
      total = total_word B;
      places = cond (is_new B) (tenth_word B) old_places;
    }

-- a header that was read: its words, each of 16 bits
pub record HeaderRead (B : List ℕ) (h : Header) : Type 0 where
  pub is : h ≡ header_of B
  pub relations_fit : relations B < 65536
  pub atoms_fit : atoms B < 65536
  pub question_fits : question_at B < 65536

-- "| field | least | most |"
pub record Range : Type 0 where
  pub least : ℕ
  pub most : ℕ

abbrev pub relations_range : Range
relations_range = record { least = 1; most = 64 }

abbrev pub constants_range : Range
constants_range = record { least = 0; most = 127 }

abbrev pub rules_range : Range
rules_range = record { least = 0; most = 32 }

abbrev pub atoms_range : Range
atoms_range = record { least = 1; most = 8 }

abbrev pub allowed_range : Range
allowed_range = record { least = 1; most = 1000 }

-- "Relations: P bytes, each the number of places, 1 to 4."; "with one to six places" (02, i)
abbrev pub places_range : BookForm → Range
places_range f = record { least = 1; most = f.places }

-- "two bytes, the body's and the head's atom counts, each 1 to 4"; "a fact is a rule with an empty body, so 01's
-- definition is mended: body counts run 0 to 4" (02, c)
abbrev pub body_range : Range
body_range = record { least = 0; most = 4 }

abbrev pub head_range : Range
head_range = record { least = 1; most = 4 }

-- whether a number is in a range, and that it is not
abbrev pub in_bounds : ℕ → ℕ → ℕ → Bool
in_bounds least most n = leb least n && leb n most

abbrev pub inside : Range → ℕ → Bool
inside r n = in_bounds r.least r.most n

abbrev pub Outside : Range → ℕ → Type 0
Outside r n = (n < r.least) ⊎ (r.most < n)

-- With answer places (02, a): "N doesn't count it; a total five larger announces it", or seven larger. Where the
-- question ends without an answer record, and with one; whether there is one, and how many.
abbrev pub end_without : BookForm → ℕ → ℕ → ℕ
end_without f question atoms = question + atom_size_in f * atoms

abbrev pub end_with : BookForm → ℕ → ℕ → ℕ
end_with f question atoms = question + atom_size_in f * (atoms + 1)

unfoldable pub announced : List ℕ → Bool
announced B = eqb (total_word B) (end_with (form_of B) (question_at B) (atoms B))

abbrev pub answer_records : List ℕ → ℕ
answer_records B = cond (announced B) 1 0

-- "before the question's atoms": where these start
abbrev pub question_atoms_at : List ℕ → ℕ
question_atoms_at B = question_at B + atom_size B * answer_records B
