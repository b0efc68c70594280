-- 13 applies to a sound book exactly if the book that it means needs the new form. Assumes nothing.
use mathlib.Core.Path.{◌≡◌, refl, sym, ◌∙◌, ap, subst}
use mathlib.Core.List.{List}
use mathlib.Core.Option.{Option, none, some}
use Prim.Native.Nat.{ℕ, ◌+◌, ◌*◌, ◌≤◌, ◌<◌}
use native.Mathlib.Omega.{arith}
use Rattle.covering.specs.Lists.{◌∈◌}
use Rattle.covering.specs.Term.{Term, var, Atom, Question, terms}
use Rattle.covering.specs.Record.{holding, atoms_at}
use Rattle.covering.specs.Rule.{Rule}
use Rattle.covering.proofs.Places.{atoms_each}
use Rattle.covering.proofs.Terms.{terms_in, terms_out}
use Rattle.reading.specs.Word.{byte}
use Rattle.reading.specs.Header.{BookForm, old, form_of, header_size, relations, rules, atoms, question_at}
use Rattle.reading.specs.Header.{atom_places, atom_size}
use Rattle.reading.specs.Header.{answer_records, question_atoms_at}
use Rattle.reading.specs.Book.{body_count, head_count, body_at, head_at, rule_at, rule_start, rules_start, book_of}
use Rattle.reading.specs.Refusals.{AtomOf}
use Rattle.reading.specs.Verdict.{SoundBook}
use Rattle.reading.specs.Written.{BookFits}
use Rattle.reading.specs.Copy.{LateVariable, NeedsNew, NoOldForm, no_old_form}
use Rattle.reading.proofs.BookFit.{relation_count, places_same, sound_fits_form}
use Rattle.reading.proofs.Earliest.{Earliest, nowhere, first, holds_nowhere}
use Rattle.reading.proofs.Fits.{rule_at_lem}
use Rattle.reading.proofs.FoundQuestion.{records_one}
use Rattle.reading.proofs.NeedsNewForm.{old_suffices, no_need_fits}
use Rattle.reading.proofs.OldForm.{sound_earliest}
use Rattle.reading.proofs.PlacedTerms.{atom_in, variable_in, variable_out}
use Rattle.reading.proofs.QuestionRead.{joined_question}
use Rattle.reading.proofs.Reading.{book_rules, rule_body, rule_head, rule_member}
use Rattle.reading.proofs.SoundBook.{UsedRight, sound_header, sound_rule}
use Rattle.reading.proofs.SoundQuestion.{sound_question, each_standing}

-- a term of atoms that are said otherwise
among : {t : Term} {A C : Question} → A ≡ C → t ∈ terms C → t ∈ terms A
among {t} e m = subst (λ (X : Question). t ∈ terms X) (sym e) m

-- places at a place that is said otherwise
moved : {B : List ℕ} {i j u : ℕ} → i ≡ j → UsedRight B i u → UsedRight B j u
moved {B} {i} {j} {u} e a = subst (λ (x : ℕ). UsedRight B x u) e a

module _ (B : List ℕ) (s : SoundBook B) where
  -- a late variable in a place of the atom at i
  abbrev LateIn : ℕ → ℕ → Type 0
  LateIn w i = LateVariable (byte B (i + 1 + w))

  -- it is a term of the atoms among which that one is
  term_late : (i n j w : ℕ) {u : ℕ} → j < n → UsedRight B (i + atom_size B * j) u → w < atom_places B
      → LateIn w (i + atom_size B * j)
      → var (byte B (i + atom_size B * j + 1 + w)) ∈ terms (atoms_at (holding (atom_places B)) B i n)
  term_late i n j w l a m h =
      terms_in (atoms_at (holding (atom_places B)) B i n) (atom_in (holding (atom_places B)) B i n j l)
      (variable_in B (sound_header B s).few_constants a w m h.1)

  rule_there : (k : ℕ) → k < rules B → rule_at B (rule_start B k) ∈ (book_of B).rules
  rule_there k l =
      subst (λ (rs : List Rule). rule_at B (rule_start B k) ∈ rs) (sym (book_rules B))
      (rule_member B (rules_start B) (rules B) k l)

  question_needs : (j w : ℕ) {u : ℕ} → j < answer_records B + atoms B → UsedRight B (question_at B + atom_size B * j) u
      → w < atom_places B → LateIn w (question_at B + atom_size B * j) → NeedsNew (book_of B)
  question_needs j w l a m h =
      NeedsNew.in_question (byte B (question_at B + atom_size B * j + 1 + w))
      (among (joined_question B s)
      (term_late (question_at B) (answer_records B + atoms B) j w l a m h)) h.0

  atom_needs : (i w : ℕ) → AtomOf B i → w < atom_places B → LateIn w i → NeedsNew (book_of B)
  atom_needs i w (AtomOf.in_body k j l h e) m v =
      let late = subst (LateIn w) e v in
      NeedsNew.in_body (rule_at B (rule_start B k)) _ (rule_there k l)
      (among (rule_body B (rule_start B k))
      (term_late (body_at B (rule_start B k)) (body_count B (rule_start B k)) j w h ((sound_rule B s k l).body j h).used m
      late))
      late.0
  atom_needs i w (AtomOf.in_head k j l h e) m v =
      let late = subst (LateIn w) e v in
      NeedsNew.in_head (rule_at B (rule_start B k)) _ (rule_there k l)
      (among (rule_head B (rule_start B k))
      (term_late (head_at B (rule_start B k)) (head_count B (rule_start B k)) j w h ((sound_rule B s k l).head j h).used m
      late))
      late.0
  atom_needs i w (AtomOf.in_question j h e) m v =
      let d : question_atoms_at B + atom_size B * j ≡ question_at B + atom_size B * (answer_records B + j) = omega arith in
      question_needs (answer_records B + j) w (omega arith)
      (moved d ((sound_question B s).each j h).used) m (subst (LateIn w) (e ∙ d) v)

  -- a byte without an old form
  pub form_needed : (p : ℕ) → NoOldForm B p → NeedsNew (book_of B)
  form_needed p (NoOldForm.relation r l e h) =
      NeedsNew.relation r (omega (arith, relation_count B s)) (omega (arith, places_same B s r l))
  form_needed p (NoOldForm.in_atom i w a l e h) =
      atom_needs i w a l (subst (λ (q : ℕ). LateVariable (byte B q)) e h)
  form_needed p (NoOldForm.in_answer t w l e h) =
      let d : question_at B ≡ question_at B + atom_size B * 0 = omega arith in
      question_needs 0 w (omega (arith, records_one B t))
      (moved d ((sound_question B s).answer t).used) l
      (subst (LateIn w) d (subst (λ (q : ℕ). LateVariable (byte B q)) e h))

  -- where there is none, no term needs the new form
  module _ (none-late : (p : ℕ) → NoOldForm B p → ⊥) where
    -- no place of the atom at i has a late variable
    abbrev Clear : ℕ → Type 0
    Clear i = (w : ℕ) → w < atom_places B → LateIn w i → ⊥

    atoms_clear : (i n : ℕ) → ((j : ℕ) → j < n → Clear (i + atom_size B * j)) → (x : ℕ)
        → var x ∈ terms (atoms_at (holding (atom_places B)) B i n) → old.variables ≤ x → ⊥
    atoms_clear i n f x m h =
        let t = terms_out (atoms_at (holding (atom_places B)) B i n) m in
        atoms_each (holding (atom_places B)) B (λ (a : Atom). var x ∈ a.args → ⊥) i n
        (λ j l v. variable_out B (i + atom_size B * j) x v (λ w k e u. f j l w k (omega arith, u))) t.0 t.1 t.2

    atom_clear : (i : ℕ) → AtomOf B i → Clear i
    atom_clear i a w l h = none-late (i + 1 + w) (NoOldForm.in_atom i w a l refl h)

    pub form_not_needed : NeedsNew (book_of B) → ⊥
    form_not_needed (NeedsNew.relation r l h) =
        let b : r < relations B = omega (arith, relation_count B s) in
        none-late (header_size B + r) (NoOldForm.relation r b refl (omega (arith, places_same B s r b)))
    form_not_needed (NeedsNew.in_body r x m v h) =
        let k = rule_at_lem B r m in
        atoms_clear _ _ (λ j l. atom_clear _ (AtomOf.in_body k.0 j k.1 l refl)) x
        (among (sym (ap (λ (y : Rule). y.body) k.2 ∙ rule_body B (rule_start B k.0))) v) h
    form_not_needed (NeedsNew.in_head r x m v h) =
        let k = rule_at_lem B r m in
        atoms_clear _ _ (λ j l. atom_clear _ (AtomOf.in_head k.0 j k.1 l refl)) x
        (among (sym (ap (λ (y : Rule). y.head) k.2 ∙ rule_head B (rule_start B k.0))) v) h
    form_not_needed (NeedsNew.in_question x v h) =
        atoms_clear (question_at B) (answer_records B + atoms B)
        (each_standing B Clear (λ t w l u. none-late _ (NoOldForm.in_answer t w l refl u))
        (λ j l. atom_clear _ (AtomOf.in_question j l refl)))
        x (among (sym (joined_question B s)) v) h

  -- so the search finds nothing exactly if the book keeps to the old form
  pub none_fits : no_old_form B ≡ none → BookFits old (book_of B)
  none_fits e =
      no_need_fits (form_of B) (book_of B) (sound_fits_form B s)
      (form_not_needed (holds_nowhere (subst (Earliest (NoOldForm B)) e (sound_earliest B s))))

  pub fits_none : BookFits old (book_of B) → no_old_form B ≡ none
  fits_none f = go (no_old_form B) (sound_earliest B s)
    where
      go : (o : Option ℕ) → Earliest (NoOldForm B) o → o ≡ none
      go o (nowhere g) = refl
      go o (first {p} w g) = absurd (old_suffices (book_of B) f (form_needed p w))

  -- and a byte exactly if the book needs the new one
  pub some_needs : (p : ℕ) → no_old_form B ≡ some p → NeedsNew (book_of B)
  some_needs p e = go (subst (Earliest (NoOldForm B)) e (sound_earliest B s))
    where
      go : Earliest (NoOldForm B) (some p) → NeedsNew (book_of B)
      go (first w g) = form_needed p w

  pub needs_some : NeedsNew (book_of B) → (p : ℕ) × (no_old_form B ≡ some p)
  needs_some n = go (no_old_form B) refl
    where
      go : (o : Option ℕ) → no_old_form B ≡ o → (p : ℕ) × (no_old_form B ≡ some p)
      go none e = absurd (old_suffices (book_of B) (none_fits e) n)
      go (some p) e = (p, e)

  -- an old book has an old form
  pub old_none : form_of B ≡ old → no_old_form B ≡ none
  old_none e = fits_none (subst (λ (f : BookForm). BookFits f (book_of B)) e (sound_fits_form B s))
