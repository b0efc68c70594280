-- A book that keeps to what its form allows is sound as it is written, tells its form, and is read again as the same
-- book. Assumes nothing.
use mathlib.Core.Path.{◌≡◌, refl, sym, ◌∙◌, ap, subst}
use mathlib.Core.Bool.{Bool}
use mathlib.Core.List.{List, [], ◌∷◌, ◌++◌}
use mathlib.Core.Option.{none, some}
use Prim.Native.Nat.{ℕ, suc, ◌+◌, ◌*◌, ◌<◌}
use native.Mathlib.Omega.{arith}
use borrow.Author.Tests.{eq-eqb}
use lib.Dec.{T, eqb, leb, le→leb}
use lib.ListN.{length, get_or, take, drop}
use lib.Seq.{take_at}
use Rattle.covering.specs.Term.{Term}
use Rattle.covering.specs.Asking.{with_answer}
use Rattle.covering.proofs.Tests.{both, or_left, or_right, true→T, cond_yes}
use Rattle.reading.specs.Word.{byte}
use Rattle.reading.specs.Header.{BookForm, form_of, header_size, relations, constants, rules, atoms, allowed}
use Rattle.reading.specs.Header.{rules_at}
use Rattle.reading.specs.Header.{question_at, total_word, header_of, inside, Range, atom_places, atom_size}
use Rattle.reading.specs.Header.{relations_range, constants_range, rules_range, atoms_range, allowed_range}
use Rattle.reading.specs.Header.{places_range}
use Rattle.reading.specs.Header.{end_without}
use Rattle.reading.specs.Book.{Book, rules_start, rules_from, book_of}
use Rattle.reading.specs.Verdict.{unless, in_table, total_right, offsets_right, wrong_places, wrong_rule, wrong_in_rules}
use Rattle.reading.specs.Verdict.{wrong_in_question, wrong_byte, loose_variable, contents, verdict, SoundBook}
use Rattle.reading.specs.Written.{question_bytes, atoms_bytes, book_bytes, Within, BookFits}
use Rattle.reading.proofs.AtPlace.{byte_here, byte_next}
use Rattle.reading.proofs.WrittenAtoms.{passes, atoms_size}
use Rattle.reading.proofs.WrittenRules.{inside_of, rules_read, rules_none, rules_right}
use Rattle.reading.proofs.WrittenQuestion.{question_there}
use Rattle.reading.proofs.WrittenHeader.{OneForm, written_form, IsWritten, is_written, rules_stand}

-- where every test is passed and every search finds nothing, the book is not refused
pub nothing_wrong : (B : List ℕ) → T (leb (header_size B) (length B)) → T (in_table (header_of B))
    → T (offsets_right (header_of B) (length B)) → wrong_places B (header_size B) (relations B) ≡ none
    → wrong_rule B (question_at B) (rules_start B) (rules B) ≡ none → wrong_in_rules B (rules_start B) (rules B) ≡ none
    → wrong_in_question B ≡ none → loose_variable B ≡ none → SoundBook B
unfolding verdict contents wrong_byte
nothing_wrong B long table offsets places rules_are in_rules_is in_question none_loose =
    rw (
      test (leb (header_size B) (length B)) long,
      test (in_table (header_of B)) table,
      test (offsets_right (header_of B) (length B)) offsets,
      places,
      rules_are,
      in_rules_is,
      in_question,
      none_loose,
    )
  where
    test : (b : Bool) → T b → unless b 0 ≡ none
    test b t = cond_yes b none (some 0) t

book_path : {b c : Book} → b.places ≡ c.places → b.constants ≡ c.constants → b.rules ≡ c.rules
    → b.question ≡ c.question → b.allowed ≡ c.allowed → b ≡ c
book_path p q r s t = λ i. record { places = p i; constants = q i; rules = r i; question = s i; allowed = t i }

-- places that are all within the range
places_right : (B : List ℕ) (i : ℕ) (ps R : List ℕ)
    → ((r : ℕ) → r < length ps → Within (places_range (form_of B)) (get_or ps r 0)) → drop i B ≡ ps ++ R
    → wrong_places B i (length ps) ≡ none
unfolding wrong_places
places_right B i [] R f e = refl
places_right B i (p ∷ ps) R f e =
    passes (inside (places_range (form_of B)) (byte B i)) i _
    (subst (λ (x : ℕ). T (inside (places_range (form_of B)) x)) (sym (byte_here B i p _ e))
    (inside_of (places_range (form_of B)) (f 0 (omega arith))))
    (places_right B (i + 1) ps R (λ r l. f (suc r) (omega arith)) (byte_next B i p _ e))

module _ (B : List ℕ) (b : Book) (fits : BookFits (form_of B) b) (is : IsWritten B b) where
  in_range : (r : Range) {m n : ℕ} → m ≡ n → Within r n → T (inside r m)
  in_range r e h = subst (λ (x : ℕ). T (inside r x)) (sym e) (inside_of r h)

  table_right : T (in_table (header_of B))
  unfolding in_table
  table_right =
      both (inside relations_range (relations B)) _ (in_range relations_range is.relations_are fits.relations)
      (both (inside constants_range (constants B)) _ (in_range constants_range is.constants_are fits.constants)
      (both (inside rules_range (rules B)) _ (in_range rules_range is.rules_are fits.rule_count)
      (both (inside atoms_range (atoms B)) _ (in_range atoms_range is.atoms_are fits.atom_count)
      (both (inside allowed_range (allowed B)) _ (in_range allowed_range is.allowed_is fits.allowed)
      (true→T _ (eq-eqb (header_of B).places (atom_places B) is.places_are))))))

  -- the total is one of the two
  one_total : (ts : List Term)
      → total_word B ≡ question_at B + length (atoms_bytes (form_of B) (with_answer ts b.question.atoms))
      → T (total_right (header_of B))
  one_total [] e =
      or_left (eqb (total_word B) (end_without (form_of B) (question_at B) (atoms B))) _
      (true→T _ (eq-eqb (total_word B) _ (e ∙ omega (arith, atoms_size B b.question.atoms, counted))))
    where
      counted : atom_size B * atoms B ≡ atom_size B * length b.question.atoms
      counted = ap (λ (n : ℕ). atom_size B * n) is.atoms_are
  one_total (t ∷ ts) e =
      or_right (eqb (total_word B) (end_without (form_of B) (question_at B) (atoms B))) _
      (true→T _
      (eq-eqb (total_word B) _
      (e ∙ omega (arith, atoms_size B (with_answer (t ∷ ts) b.question.atoms), counted))))
    where
      counted : atom_size B * atoms B ≡ atom_size B * length b.question.atoms
      counted = ap (λ (n : ℕ). atom_size B * n) is.atoms_are

  offsets_right_lem : T (offsets_right (header_of B) (length B))
  unfolding offsets_right
  offsets_right_lem =
      both (eqb (header_of B).table (header_size B)) _ (true→T _ (eq-eqb _ (header_size B) is.table_is))
      (both (eqb (rules_at B) (header_size B + relations B)) _
      (true→T _ (eq-eqb (rules_at B) _ (omega (arith, is.start_is, is.relations_are))))
      (both (leb (rules_at B) (question_at B)) _
      (le→leb (rules_at B) (question_at B) (omega (arith, is.start_is, is.question_is)))
      (both (total_right (header_of B)) _
      (one_total b.question.answer
      (is.total_is ∙ ap (λ (q : ℕ). q + length (question_bytes (form_of B) b.question)) (sym is.question_is)))
      (true→T _ (eq-eqb (total_word B) (length B) (is.total_is ∙ sym is.length_is))))))

  sound_written : SoundBook B
  sound_written =
      nothing_wrong B (le→leb (header_size B) (length B) (omega (arith, is.length_is))) table_right offsets_right_lem
      (ap (wrong_places B (header_size B)) is.relations_are
      ∙ places_right B (header_size B) b.places _ fits.places is.contents_are)
      (ap (wrong_rule B (question_at B) (rules_start B)) is.rules_are
      ∙ rules_right B b fits is (question_at B) (rules_start B) b.rules _ fits.rules (rules_stand B b is)
      (omega (arith, is.question_is, is.relations_are)))
      (ap (wrong_in_rules B (rules_start B)) is.rules_are
      ∙ rules_none B b fits is (rules_start B) b.rules _ fits.rules (rules_stand B b is))
      (question_there B b fits is).right
      (question_there B b fits is).tight

  read_written : book_of B ≡ b
  unfolding book_of
  read_written =
      book_path
      (ap (take (relations B)) is.contents_are ∙ take_at b.places _ (relations B) (sym is.relations_are))
      is.constants_are
      (ap (λ n. rules_from B (rules_start B) n) is.rules_are
      ∙ rules_read B b fits is (rules_start B) b.rules _ fits.rules (rules_stand B b is))
      (question_there B b fits is).read
      is.allowed_is

module _ (f : BookForm) (b : Book) (one : OneForm f) (fits : BookFits f b) where
  -- the form is the one that the bytes tell
  own_form : f ≡ form_of (book_bytes f b)
  own_form = sym (written_form f b one)

  own_fits : BookFits (form_of (book_bytes f b)) b
  own_fits = subst (λ (g : BookForm). BookFits g b) own_form fits

  own_written : IsWritten (book_bytes f b) b
  own_written = is_written (book_bytes f b) b (ap (λ (g : BookForm). book_bytes g b) own_form)

  pub written_sound : SoundBook (book_bytes f b)
  written_sound = sound_written (book_bytes f b) b own_fits own_written

  pub written_read : book_of (book_bytes f b) ≡ b
  written_read = read_written (book_bytes f b) b own_fits own_written
