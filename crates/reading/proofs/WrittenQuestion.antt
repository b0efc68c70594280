-- The question of a written book: it is read again, its answer record with it, and nothing in it is wrong. Assumes
-- nothing.
use mathlib.Core.Path.{◌≡◌, refl, sym, ◌∙◌, ap, ap₂, subst}
use mathlib.Core.Bool.{true, false, not}
use mathlib.Core.List.Memᴰ
use mathlib.Core.List.{List, [], ◌∷◌, ◌++◌, append-nil}
use mathlib.Core.Option.{none}
use Prim.Native.Nat.{ℕ, zero, suc, ◌+◌, ◌*◌, ◌-◌, ◌≤◌}
use native.Mathlib.Nat.{add-zero}
use native.Mathlib.Omega.{arith}
use borrow.Author.Tests.{le-ltb, eq-eqb, ne_eqb}
use lib.Dec.{T, eqb, ltb}
use lib.ListN.{length, drop}
use Rattle.covering.specs.Lists.{◌∈◌}
use Rattle.covering.specs.Term.{Term, var, con, Atom, Question, terms, eq_term}
use Rattle.covering.specs.Asking.{Asking, answer_relation, answer_most, answer_atom, with_answer}
use Rattle.covering.specs.Record.{holding, atoms_at, byte_of, places_bytes, atom_bytes}
use Rattle.covering.proofs.Tests.{or_left, or_right, true→T, false→T, cond_yes}
use Rattle.covering.proofs.Lists.{any_in}
use Rattle.covering.proofs.Terms.{eq_term_refl}
use Rattle.covering.proofs.Lengths.{atom_long}
use Rattle.covering.proofs.RoundTrip.{holding_apart, places_read}
use Rattle.reading.specs.Word.{byte}
use Rattle.reading.specs.Header.{form_of, atoms, question_at, total_word, variables, atom_places, atom_size, end_with}
use Rattle.reading.specs.Header.{announced}
use Rattle.reading.specs.Book.{Book, question_atoms, question_in}
use Rattle.reading.specs.Refusals.{used_places, answer_places}
use Rattle.reading.specs.Verdict.{stands_in, loose_from, loose_variable, wrong_answer, wrong_in_atoms, wrong_in_question}
use Rattle.reading.specs.Written.{atoms_bytes, question_bytes, BookTerm, BookAtom, BookFits}
use Rattle.reading.proofs.AtPlace.{byte_here, byte_next, past, at_place}
use Rattle.reading.proofs.Forms.{form_known}
use Rattle.reading.proofs.WrittenAtoms.{passes, both_none, some_used, atoms_none, atoms_there, atoms_size}
use Rattle.reading.proofs.WrittenAtoms.{atom_is, term_holds}
use Rattle.reading.proofs.WrittenHeader.{IsWritten, question_stands}

abbrev asked : List Term → Question → Asking
asked ts A = record { answer = ts; atoms = A }

-- the first place of some
first_place : (w : ℕ) (t : Term) (ts : List Term) → 1 ≤ w → places_bytes w (t ∷ ts) ≡ byte_of t ∷ places_bytes (w - 1) ts
first_place zero t ts h = absurd (omega arith)
first_place (suc w) t ts h = ap (λ (n : ℕ). byte_of t ∷ places_bytes n ts) less
  where
    less : w ≡ suc w - 1
    less = omega arith

-- what is read and judged of a question
pub record QuestionThere (B : List ℕ) (ts : List Term) (A : Question) : Type 0 where
  pub read : question_in B ≡ record { answer = ts; atoms = A }
  pub right : wrong_in_question B ≡ none
  pub tight : loose_variable B ≡ none

module _ (B : List ℕ) (b : Book) (fits : BookFits (form_of B) b) (is : IsWritten B b) where
  -- no term's byte is 255
  term_used : (t : Term) → BookTerm (form_of B) b t → byte_of t ≡ 255 → ⊥
  term_used (var n) h e = omega (arith, (form_known B).few_variables)
  term_used (con c) h e = omega (arith, fits.constants.1)

  -- "used places first": so many are found
  used_are : (n m i : ℕ) (ts : List Term) (R : List ℕ) → length ts ≤ n → n ≤ m
      → ((t : Term) → t ∈ ts → BookTerm (form_of B) b t) → drop i B ≡ places_bytes m ts ++ R
      → used_places B i n ≡ length ts
  unfolding used_places
  used_are zero m i [] R l h f e = refl
  used_are zero m i (t ∷ ts) R l h f e = absurd (omega arith)
  used_are (suc n) zero i ts R l h f e = absurd (omega arith)
  used_are (suc n) (suc m) i [] R l h f e = rw (eq-eqb (byte B i) 255 (byte_here B i 255 _ e))
  used_are (suc n) (suc m) i (t ∷ ts) R l h f e =
      rw (ne_eqb (byte B i) 255 (λ d. term_used t (f t (Memᴰ.head refl)) (sym (byte_here B i _ _ e) ∙ d)))
      (ap suc
      (used_are n m (i + 1) ts R (omega arith) (omega arith) (λ x m. f x (Memᴰ.tail m)) (byte_next B i _ _ e)))

  -- a byte that is no variable stands nowhere
  no_variable : (A : Question) (x : ℕ) → variables B ≤ x → T (stands_in (variables B) A x)
  no_variable A x h = or_left (not (ltb x (variables B))) _ (false→T _ (le-ltb x (variables B) h))

  term_stands : (A : Question) (t : Term) → BookTerm (form_of B) b t → ((n : ℕ) → t ≡ var n → var n ∈ terms A)
      → T (stands_in (variables B) A (byte_of t))
  term_stands A (var n) h f =
      or_right (not (ltb n (variables B))) _ (any_in (eq_term (var n)) (terms A) (f n refl) (eq_term_refl (var n)))
  term_stands A (con c) h f = no_variable A (128 + c) (omega (arith, (form_known B).few_variables))

  none_loose : (A : Question) (n i : ℕ) (ts : List Term) (R : List ℕ)
      → ((t : Term) → t ∈ ts → BookTerm (form_of B) b t) → ((n : ℕ) → var n ∈ ts → var n ∈ terms A)
      → drop i B ≡ places_bytes n ts ++ R → loose_from B A i n ≡ none
  unfolding loose_from
  none_loose A zero i ts R f g e = refl
  none_loose A (suc n) i [] R f g e =
      passes (stands_in (variables B) A (byte B i)) i _
      (subst (λ (x : ℕ). T (stands_in (variables B) A x)) (sym (byte_here B i _ _ e))
      (no_variable A 255 (omega (arith, (form_known B).few_variables))))
      (none_loose A n (i + 1) [] R f g (byte_next B i _ _ e))
  none_loose A (suc n) i (t ∷ ts) R f g e =
      passes (stands_in (variables B) A (byte B i)) i _
      (subst (λ (x : ℕ). T (stands_in (variables B) A x)) (sym (byte_here B i _ _ e))
      (term_stands A t (f t (Memᴰ.head refl)) (λ x d. g x (Memᴰ.head (sym d)))))
      (none_loose A n (i + 1) ts R (λ x m. f x (Memᴰ.tail m)) (λ x m. g x (Memᴰ.tail m))
      (byte_next B i _ _ e))

  module _ (A : Question) (count : atoms B ≡ length A) (each : (a : Atom) → a ∈ A → BookAtom (form_of B) b a) where
    counted : atom_size B * atoms B ≡ atom_size B * length A
    counted = ap (λ (n : ℕ). atom_size B * n) count

    -- the atoms, where they start
    module _ (at : ℕ) (there : drop at B ≡ atoms_bytes (form_of B) A) where
      ended : drop at B ≡ atoms_bytes (form_of B) A ++ []
      ended = there ∙ sym (append-nil (atoms_bytes (form_of B) A))

      atoms_are : atoms_at (holding (atom_places B)) B at (atoms B) ≡ A
      atoms_are =
          ap (atoms_at (holding (atom_places B)) B at) count ∙ atoms_there B b fits is at A [] each ended

      atoms_right : wrong_in_atoms B at (atoms B) ≡ none
      atoms_right = ap (wrong_in_atoms B at) count ∙ atoms_none B b fits is at A [] each ended

    -- without an answer record
    unsaid : total_word B ≡ question_at B + length (atoms_bytes (form_of B) A) → announced B ≡ false
    unfolding announced
    unsaid total =
        ne_eqb (total_word B) (end_with (form_of B) (question_at B) (atoms B))
        (λ e. omega (arith, total, atoms_size B A, counted))

    plain : total_word B ≡ question_at B + length (atoms_bytes (form_of B) A)
        → drop (question_at B) B ≡ atoms_bytes (form_of B) A → QuestionThere B [] A
    unfolding question_in wrong_in_question loose_variable
    plain total there =
        record {
          read =
              rw (unsaid total)
              (ap (asked [])
              (ap (λ (i : ℕ). atoms_at (holding (atom_places B)) B i (atoms B)) start
              ∙ atoms_are (question_at B) there));
          right =
              rw (unsaid total)
              (ap (λ (i : ℕ). wrong_in_atoms B i (atoms B)) start ∙ atoms_right (question_at B) there);
          tight = rw (unsaid total);
        }
      where
        start : question_at B + atom_size B * 0 ≡ question_at B
        start = omega arith

    -- with one
    module _ (t : Term) (ts : List Term) (few : length (t ∷ ts) ≤ answer_most)
        (answer : (x : Term) → x ∈ t ∷ ts → BookTerm (form_of B) b x)
        (stands : (n : ℕ) → var n ∈ t ∷ ts → var n ∈ terms A)
        (total : total_word B ≡ question_at B + length (atoms_bytes (form_of B) (answer_atom (t ∷ ts) ∷ A)))
        (there : drop (question_at B) B ≡ atoms_bytes (form_of B) (answer_atom (t ∷ ts) ∷ A))
      where
        said : announced B ≡ true
        unfolding announced
        said =
            eq-eqb (total_word B) (end_with (form_of B) (question_at B) (atoms B))
            (total ∙ omega (arith, atoms_size B (answer_atom (t ∷ ts) ∷ A), counted))

        start : question_at B + atom_size B * 1 ≡ question_at B + atom_size B
        start = omega arith

        record_there : drop (question_at B) B
            ≡ answer_relation ∷ (places_bytes (atom_places B) (t ∷ ts) ++ atoms_bytes (form_of B) A)
        record_there =
            there ∙ ap (λ (l : List ℕ). l ++ atoms_bytes (form_of B) A) (atom_is (atom_places B) (answer_atom (t ∷ ts)))

        places_there : drop (question_at B + 1) B ≡ places_bytes (atom_places B) (t ∷ ts) ++ atoms_bytes (form_of B) A
        places_there = byte_next B (question_at B) _ _ record_there

        atoms_follow : drop (question_at B + atom_size B) B ≡ atoms_bytes (form_of B) A
        atoms_follow =
            past B (question_at B) (question_at B + atom_size B)
            (atom_bytes (holding (atom_places B)) (answer_atom (t ∷ ts))) _
            (omega (arith, atom_long (holding (atom_places B)) (answer_atom (t ∷ ts)))) there

        enough : length (t ∷ ts) ≤ atom_places B
        enough = omega (arith, few, (form_known B).some_places)

        -- after the first place
        rest_there : drop (question_at B + 2) B ≡ places_bytes (atom_places B - 1) ts ++ atoms_bytes (form_of B) A
        rest_there =
            at_place B two
            (byte_next B (question_at B + 1) (byte_of t) _
            (places_there
            ∙ ap (λ (l : List ℕ). l ++ atoms_bytes (form_of B) A)
            (first_place (atom_places B) t ts (omega (arith, enough)))))
          where
            two : question_at B + 2 ≡ question_at B + 1 + 1
            two = omega arith

        so_many : answer_places B (question_at B) ≡ length (t ∷ ts)
        so_many =
            ap suc
            (used_are (answer_most - 1) (atom_places B - 1) (question_at B + 2) ts _ (omega (arith, few))
            (omega (arith, (form_known B).some_places)) (λ x m. answer x (Memᴰ.tail m)) rest_there)

        answer_right : wrong_answer B (question_at B) ≡ none
        unfolding wrong_answer
        answer_right =
            passes (eqb (byte B (question_at B)) answer_relation) (question_at B) _
            (true→T _ (eq-eqb (byte B (question_at B)) answer_relation (byte_here B (question_at B) _ _ record_there)))
            (some_used B b fits is (atom_places B) (answer_places B (question_at B)) (question_at B + 1) 0 (t ∷ ts) _
            (so_many ∙ omega arith) enough answer (at_place B (add-zero (question_at B + 1)) places_there))

        atoms_are_these : question_atoms B ≡ A
        atoms_are_these =
            rw said
            (ap (λ (i : ℕ). atoms_at (holding (atom_places B)) B i (atoms B)) start
            ∙ atoms_are (question_at B + atom_size B) atoms_follow)

        answered : QuestionThere B (t ∷ ts) A
        unfolding question_in wrong_in_question loose_variable
        answered =
            record {
              read =
                  ap₂ asked
                  (rw said
                  (places_read (holding (atom_places B)) (holding_apart (atom_places B)) B (atom_places B)
                  (question_at B + 1) (t ∷ ts) _ enough
                  (λ x m. term_holds B b fits is x (answer x m)) places_there).terms)
                  atoms_are_these;
              right =
                  rw said
                  (both_none answer_right
                  (ap (λ (i : ℕ). wrong_in_atoms B i (atoms B)) start
                  ∙ atoms_right (question_at B + atom_size B) atoms_follow));
              tight =
                  cond_yes (announced B) _ none (true→T _ said)
                  ∙ ap (λ (X : Question). loose_from B X (question_at B + 1) (atom_places B)) atoms_are_these
                  ∙ none_loose A (atom_places B) (question_at B + 1) (t ∷ ts) _ answer stands places_there;
            }

  pub question_there : QuestionThere B b.question.answer b.question.atoms
  question_there =
      go b.question.answer fits.answer_count fits.answer fits.stands
      (is.total_is ∙ ap (λ (q : ℕ). q + length (question_bytes (form_of B) b.question)) (sym is.question_is))
      (question_stands B b is)
    where
      go : (ts : List Term) → length ts ≤ answer_most → ((x : Term) → x ∈ ts → BookTerm (form_of B) b x)
          → ((n : ℕ) → var n ∈ ts → var n ∈ terms b.question.atoms)
          → total_word B ≡ question_at B + length (atoms_bytes (form_of B) (with_answer ts b.question.atoms))
          → drop (question_at B) B ≡ atoms_bytes (form_of B) (with_answer ts b.question.atoms)
          → QuestionThere B ts b.question.atoms
      go [] l f g e d = plain b.question.atoms is.atoms_are fits.atoms e d
      go (t ∷ ts) l f g e d = answered b.question.atoms is.atoms_are fits.atoms t ts l f g e d
