-- The question of a sound book as it is read: one conjunction, its answer record the first atom where it has one; no
-- other atom of it is an answer record, and every answer variable stands in one of them. Assumes nothing.
use mathlib.Core.Path.{◌≡◌, refl, sym, ◌∙◌, ap, ap₂, subst}
use mathlib.Core.Bool.{not, ◌&&◌}
use mathlib.Core.Logic.{◌⊎◌, inl, inr}
use mathlib.Core.List.Memᴰ
use mathlib.Core.List.{List, [], ◌∷◌}
use Prim.Native.Nat.{ℕ, ◌+◌, ◌*◌, ◌-◌, ◌≤◌, ◌<◌}
use native.Mathlib.Omega.{arith}
use lib.Dec.{T, ltb, leb, ltb→lt, leb→le}
use lib.ListN.{length}
use Rattle.covering.specs.Lists.{◌∈◌}
use Rattle.covering.specs.Term.{Term, var, Atom, Question, terms}
use Rattle.covering.specs.Asking.{answer_relation, answer_most, answer_atom, with_answer, joined, records, NoRecord, Stands}
use Rattle.covering.specs.Record.{Layout, holding, stored, term_of, atom_at, atoms_at}
use Rattle.covering.proofs.Tests.{or_cases, fst_of, le_or_lt, cond_yes, cond_no}
use Rattle.covering.proofs.Terms.{atom_path, var_inj, var≢con}
use Rattle.covering.proofs.Bytes.{term_var, term_con}
use Rattle.covering.proofs.Places.{atom_each, atoms_each, atoms_step, relation_at, args_at_lem}
use Rattle.reading.specs.Word.{byte}
use Rattle.reading.specs.Header.{new, form_of}
use Rattle.reading.specs.Header.{relations, constants, atoms, question_at, relations_range, atom_size, atom_places}
use Rattle.reading.specs.Header.{variables, announced, answer_records, question_atoms_at}
use Rattle.reading.specs.Book.{question_atoms, book_of}
use Rattle.reading.specs.Refusals.{answer_places}
use Rattle.reading.specs.Verdict.{SoundBook, stands_in}
use Rattle.reading.proofs.ByteConditions.{stands_in_lem}
use Rattle.reading.proofs.Forms.{form_known, new_held}
use Rattle.reading.proofs.SoundBook.{AtomRight, used_place, unused_place, used_places, sound_header}
use Rattle.reading.proofs.SoundQuestion.{sound_question, OneOrNone, one_or_none, used_few}
use Rattle.reading.proofs.FoundQuestion.{atoms_after}
use Rattle.reading.proofs.Reading.{book_answer, book_atoms}

-- an answer record with some term to answer with
records_some : (ts : List Term) → 1 ≤ length ts → records ts ≡ 1
records_some [] l = absurd (omega arith)
records_some (t ∷ ts) l = refl

after_some : (ts : List Term) (A : Question) → 1 ≤ length ts → with_answer ts A ≡ answer_atom ts ∷ A
after_some [] A l = absurd (omega arith)
after_some (t ∷ ts) A l = refl

-- the relation of an atom with no wrong byte is not the answer record's
pub right_free : (B : List ℕ) → relations B ≤ relations_range.most → (i : ℕ) → AtomRight B i
    → ¬ ((atom_at (holding (atom_places B)) B i).rel ≡ answer_relation)
right_free B few i a e = omega (arith, relation_at (holding (atom_places B)) B i, a.relation)

module _ (B : List ℕ) where
  answer_none : T (not (announced B)) → (book_of B).question.answer ≡ []
  answer_none t = book_answer B ∙ cond_no (announced B) _ _ t

  answer_terms : T (announced B) → (book_of B).question.answer ≡ (atom_at (holding (atom_places B)) B (question_at B)).args
  answer_terms t =
      book_answer B ∙ cond_yes (announced B) _ _ t ∙ sym (args_at_lem (holding (atom_places B)) B (question_at B))

  module _ (s : SoundBook B) where
    -- as many terms as the record has places used
    answer_count : T (announced B) → length (book_of B).question.answer ≡ answer_places B (question_at B)
    answer_count t =
        ap length (answer_terms t)
        ∙ used_places B ((sound_question B s).answer t).used (sound_header B s).few_constants

    -- "but still at most four answer places"
    pub answer_few : length (book_of B).question.answer ≤ answer_most
    answer_few = go (one_or_none B)
      where
        go : OneOrNone B → length (book_of B).question.answer ≤ answer_most
        go (inl h) = omega (arith, answer_count h.0, used_few B (question_at B + 2) (answer_most - 1))
        go (inr h) = rw (answer_none h.0) (omega arith)

    pub question_records : records (book_of B).question.answer ≡ answer_records B
    question_records = go (one_or_none B)
      where
        go : OneOrNone B → records (book_of B).question.answer ≡ answer_records B
        go (inl h) = records_some (book_of B).question.answer (omega (arith, answer_count h.0)) ∙ sym h.1
        go (inr h) = ap records (answer_none h.0) ∙ sym h.1

    -- the record and the atoms, as they stand in the book
    pub joined_question : joined (book_of B).question
        ≡ atoms_at (holding (atom_places B)) B (question_at B) (answer_records B + atoms B)
    joined_question = go (one_or_none B)
      where
        first : T (announced B)
            → answer_atom (book_of B).question.answer ≡ atom_at (holding (atom_places B)) B (question_at B)
        first t =
            atom_path
            (sym (relation_at (holding (atom_places B)) B (question_at B) ∙ ((sound_question B s).answer t).relation))
            (answer_terms t)

        go : OneOrNone B → joined (book_of B).question
            ≡ atoms_at (holding (atom_places B)) B (question_at B) (answer_records B + atoms B)
        go (inl h) =
            after_some _ _ (omega (arith, answer_count h.0))
            ∙ ap₂ ◌∷◌ (first h.0)
            (book_atoms B ∙ ap (λ (i : ℕ). atoms_at (holding (atom_places B)) B i (atoms B)) (atoms_after B h.0))
            ∙ sym (atoms_step (holding (atom_places B)) B (question_at B) (atoms B))
            ∙ ap (atoms_at (holding (atom_places B)) B (question_at B)) (omega (arith, h.1))
        go (inr h) =
            ap₂ with_answer (answer_none h.0) (book_atoms B)
            ∙ ap₂ (atoms_at (holding (atom_places B)) B) (omega (arith, ap (λ (n : ℕ). atom_size B * n) h.1))
            (omega (arith, h.1))

    pub joined_stored : form_of B ≡ new
        → joined (book_of B).question ≡ atoms_at stored B (question_at B) (answer_records B + atoms B)
    joined_stored e =
        joined_question
        ∙ ap (λ (L : Layout). atoms_at L B (question_at B) (answer_records B + atoms B)) (new_held B e)

    pub question_free : NoRecord (book_of B).question.atoms
    question_free a m =
        atoms_each (holding (atom_places B)) B (λ (x : Atom). ¬ (x.rel ≡ answer_relation)) (question_atoms_at B) (atoms B)
        (λ j l. right_free B (sound_header B s).few_relations _ ((sound_question B s).each j l))
        a (subst (λ (A : Question). a ∈ A) (book_atoms B) m)

    -- what refusal 11 is for
    pub question_stands : Stands (book_of B).question
    question_stands n m = go (one_or_none B)
      where
        Standing : Term → Type 0
        Standing t = (n : ℕ) → t ≡ var n → var n ∈ terms (book_of B).question.atoms

        used : T (announced B) → (w : ℕ) → w < atom_places B → (b : ℕ) → b ≡ byte B (question_at B + 1 + w)
            → T (ltb b (variables B)) ⊎ T (leb 128 b && ltb b (128 + constants B)) → Standing (term_of b)
        used t w l b d (inl h) n e =
            let small : b < variables B = ltb→lt b (variables B) h in
            let is : b ≡ n = var_inj (sym (term_var b (omega (arith, (form_known B).few_variables))) ∙ e) in
            subst (λ (A : Question). var n ∈ terms A) (sym (book_atoms B))
            (subst (λ (x : ℕ). var x ∈ terms (question_atoms B)) is
            (stands_in_lem (variables B) (question_atoms B) b
            (subst (λ (x : ℕ). T (stands_in (variables B) (question_atoms B) x)) (sym d)
            ((sound_question B s).stands t w l)) small))
        used t w l b d (inr h) n e =
            let large : 128 ≤ b = leb→le _ _ (fst_of (leb 128 b) _ h) in
            absurd (var≢con (sym e ∙ term_con b large))

        each : T (announced B) → (w : ℕ) → w < atom_places B → (byte B (question_at B + 1 + w) ≡ 255 → ⊥)
            → (answer_places B (question_at B) ≤ w) ⊎ (w < answer_places B (question_at B))
            → Standing (term_of (byte B (question_at B + 1 + w)))
        each t w l f (inl h) = absurd (f (unused_place B ((sound_question B s).answer t).used w h l))
        each t w l f (inr h) =
            used t w l _ refl
            (or_cases (ltb (byte B (question_at B + 1 + w)) (variables B)) _
            (used_place B ((sound_question B s).answer t).used w h))

        go : OneOrNone B → var n ∈ terms (book_of B).question.atoms
        go (inl h) =
            atom_each (holding (atom_places B)) B Standing (question_at B)
            (λ w l f. each h.0 w l f (le_or_lt (answer_places B (question_at B)) w))
            (var n) (subst (λ (ts : List Term). var n ∈ ts) (answer_terms h.0) m) n refl
        go (inr h) = absurd (Memᴰ.not-nil (subst (λ (ts : List Term). var n ∈ ts) (answer_none h.0) m))
