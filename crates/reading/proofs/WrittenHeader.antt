-- The header of a written book: its words are read again, it tells the form in which the book is written, and what
-- follows it stands where it says. Assumes nothing.
use mathlib.Core.Path.{◌≡◌, refl, sym, ◌∙◌, ap, subst}
use mathlib.Core.Bool.{cond}
use mathlib.Core.Logic.{◌⊎◌, inl, inr}
use mathlib.Core.List.{List, ◌++◌}
use Prim.Native.Nat.{ℕ, ◌*◌}
use native.Mathlib.Omega.{arith}
use lib.ListN.{length, drop, length-append}
use lib.Seq.{drop_at}
use Rattle.covering.specs.Record.{old_places}
use Rattle.reading.specs.Word.{word}
use Rattle.reading.specs.Header.{BookForm, old, new, form_for, form_of, header_size, relations, constants, rules}
use Rattle.reading.specs.Header.{atoms, allowed, rules_at, question_at, total_word, header_of, atom_places}
use Rattle.reading.specs.Header.{relations_at, tenth_word, says_new}
use Rattle.reading.specs.Book.{Book, rules_start}
use Rattle.reading.specs.Written.{rules_bytes, question_bytes, rules_offset, question_offset, total_length}
use Rattle.reading.specs.Written.{header_words}
use Rattle.reading.specs.Written.{header_bytes, contents_bytes, book_bytes}
use Rattle.reading.proofs.AtPlace.{past}
use Rattle.reading.proofs.Forms.{for_cases}
use Rattle.reading.proofs.WordBytes.{word_back, words_long}

-- the two forms
abbrev pub OneForm : BookForm → Type 0
OneForm f = (f ≡ old) ⊎ (f ≡ new)

module _ (f : BookForm) (b : Book) where
  relations_word : word (book_bytes f b) 0 ≡ length b.places
  unfolding word book_bytes header_bytes
  relations_word = word_back (length b.places)

  constants_word : word (book_bytes f b) 2 ≡ b.constants
  unfolding word book_bytes header_bytes
  constants_word = word_back b.constants

  rules_word : word (book_bytes f b) 4 ≡ length b.rules
  unfolding word book_bytes header_bytes
  rules_word = word_back (length b.rules)

  atoms_word : word (book_bytes f b) 6 ≡ length b.question.atoms
  unfolding word book_bytes header_bytes
  atoms_word = word_back (length b.question.atoms)

  allowed_word : word (book_bytes f b) 8 ≡ b.allowed
  unfolding word book_bytes header_bytes
  allowed_word = word_back b.allowed

  relations_at_word : word (book_bytes f b) 10 ≡ f.header
  unfolding word book_bytes header_bytes
  relations_at_word = word_back f.header

  rules_at_word : word (book_bytes f b) 12 ≡ rules_offset f b
  unfolding word book_bytes header_bytes
  rules_at_word = word_back (rules_offset f b)

  question_at_word : word (book_bytes f b) 14 ≡ question_offset f b
  unfolding word book_bytes header_bytes
  question_at_word = word_back (question_offset f b)

  total_word_lem : word (book_bytes f b) 16 ≡ total_length f b
  unfolding word book_bytes header_bytes
  total_word_lem = word_back (total_length f b)

-- the tenth word of the new form
tenth_word_lem : (b : Book) → word (book_bytes new b) 18 ≡ new.places
unfolding word book_bytes header_bytes
tenth_word_lem b = refl

-- "The relations' offset, 18 or 20, tells the forms apart."
form_for_lem : (f : BookForm) → OneForm f → form_for f.header ≡ f
unfolding form_for
form_for_lem f (inl e) = subst (λ (g : BookForm). form_for g.header ≡ g) (sym e) refl
form_for_lem f (inr e) = subst (λ (g : BookForm). form_for g.header ≡ g) (sym e) refl

pub written_form : (f : BookForm) (b : Book) → OneForm f → form_of (book_bytes f b) ≡ f
written_form f b o = ap form_for (relations_at_word f b) ∙ form_for_lem f o

-- "The header has nine" words, of the new form ten
words_are : (f : BookForm) (b : Book) → OneForm f → 2 * length (header_words f b) ≡ f.header
words_are f b (inl e) = subst (λ (g : BookForm). 2 * length (header_words g b) ≡ g.header) (sym e) refl
words_are f b (inr e) = subst (λ (g : BookForm). 2 * length (header_words g b) ≡ g.header) (sym e) refl

header_long : (f : BookForm) (b : Book) → OneForm f → length (header_bytes f b) ≡ f.header
unfolding header_bytes
header_long f b o = words_long (header_words f b) ∙ words_are f b o

contents_there : (f : BookForm) (b : Book) → OneForm f → drop f.header (book_bytes f b) ≡ contents_bytes f b
unfolding book_bytes
contents_there f b o = drop_at (header_bytes f b) (contents_bytes f b) f.header (header_long f b o)

pub bytes_long : (f : BookForm) (b : Book) → OneForm f → length (book_bytes f b) ≡ total_length f b
unfolding book_bytes
bytes_long f b o =
    length-append (header_bytes f b) (contents_bytes f b)
    ∙ omega (
      arith,
      header_long f b o,
      length-append b.places (rules_bytes f b.rules ++ question_bytes f b.question),
      length-append (rules_bytes f b.rules) (question_bytes f b.question),
    )

-- a list that is a book written in the form that it tells: what its header says, and where the rest stands
pub record IsWritten (B : List ℕ) (b : Book) : Type 0 where
  pub relations_are : relations B ≡ length b.places
  pub constants_are : constants B ≡ b.constants
  pub rules_are : rules B ≡ length b.rules
  pub atoms_are : atoms B ≡ length b.question.atoms
  pub allowed_is : allowed B ≡ b.allowed
  pub table_is : (header_of B).table ≡ header_size B
  pub start_is : rules_at B ≡ rules_offset (form_of B) b
  pub question_is : question_at B ≡ question_offset (form_of B) b
  pub total_is : total_word B ≡ total_length (form_of B) b
  pub places_are : (header_of B).places ≡ atom_places B
  pub contents_are : drop (header_size B) B ≡ contents_bytes (form_of B) b
  pub length_is : length B ≡ total_length (form_of B) b

module _ (B : List ℕ) (b : Book) (is : B ≡ book_bytes (form_of B) b) where
  said : (i : ℕ) {n : ℕ} → word (book_bytes (form_of B) b) i ≡ n → word B i ≡ n
  said i e = ap (λ (l : List ℕ). word l i) is ∙ e

  cases : OneForm (form_of B)
  cases = for_cases _

  -- the places that the header tells: those of the tenth word, or four
  told : OneForm (form_of B) → (header_of B).places ≡ atom_places B
  told (inl e) =
      let at : relations_at B ≡ 18 = said 10 (relations_at_word (form_of B) b) ∙ ap (λ (f : BookForm). f.header) e in
      ap (λ (t : ℕ). cond (says_new t) (tenth_word B) old_places) at ∙ sym (ap (λ (f : BookForm). f.places) e)
  told (inr e) =
      let at : relations_at B ≡ 20 = said 10 (relations_at_word (form_of B) b) ∙ ap (λ (f : BookForm). f.header) e in
      ap (λ (t : ℕ). cond (says_new t) (tenth_word B) old_places) at
      ∙ said 18 (ap (λ (f : BookForm). word (book_bytes f b) 18) e ∙ tenth_word_lem b)
      ∙ sym (ap (λ (f : BookForm). f.places) e)

  pub is_written : IsWritten B b
  is_written =
      let f = form_of B in
      record {
        relations_are = said 0 (relations_word f b);
        constants_are = said 2 (constants_word f b);
        rules_are = said 4 (rules_word f b);
        atoms_are = said 6 (atoms_word f b);
        allowed_is = said 8 (allowed_word f b);
        table_is = said 10 (relations_at_word f b);
        start_is = said 12 (rules_at_word f b);
        question_is = said 14 (question_at_word f b);
        total_is = said 16 (total_word_lem f b);
        places_are = told cases;
        contents_are = ap (drop f.header) is ∙ contents_there f b cases;
        length_is = ap length is ∙ bytes_long f b cases;
      }

-- where the rules and the question stand
module _ (B : List ℕ) (b : Book) (w : IsWritten B b) where
  pub rules_stand : drop (rules_start B) B
      ≡ rules_bytes (form_of B) b.rules ++ question_bytes (form_of B) b.question
  rules_stand =
      past B (header_size B) (rules_start B) b.places _ (omega (arith, w.relations_are)) w.contents_are

  pub question_stands : drop (question_at B) B ≡ question_bytes (form_of B) b.question
  question_stands =
      past B (rules_start B) (question_at B) (rules_bytes (form_of B) b.rules) _
      (omega (arith, w.relations_are, w.question_is)) rules_stand
