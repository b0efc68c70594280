-- The copies (02, i): a copy is sound, in the wanted form and means the same book; one already in the wanted form is
-- copied; there and back gives the first bytes again; 13 exactly for what has no old form; and the contract leaves
-- nothing open. Assumes nothing.
use mathlib.Core.Path.{◌≡◌, refl, sym, ◌∙◌, ap, subst}
use mathlib.Core.Logic.{◌⊎◌, inl, inr}
use mathlib.Core.List.{List}
use mathlib.Core.Option.{some}
use Prim.Native.Nat.{ℕ, ◌≤◌}
use native.Mathlib.Omega.{arith}
use lib.ListN.{length, drop, length-append, length-drop}
use Rattle.reading.specs.Header.{BookForm, old, new, form_of}
use Rattle.reading.specs.Book.{book_of}
use Rattle.reading.specs.Verdict.{SoundBook}
use Rattle.reading.specs.Written.{book_bytes, AreBytes, BookFits}
use Rattle.reading.specs.Copy.{NeedsNew, NoOldForm, Copied, copied, refused, copy_room, to_new, to_old}
use Rattle.reading.specs.Copy.{copy_written, Copies}
use Rattle.reading.proofs.BookBack.{book_back}
use Rattle.reading.proofs.BookFit.{sound_fits_form, old_fits_new}
use Rattle.reading.proofs.CopyCases.{to_new_copied, to_old_copied, to_new_sound, to_old_sound, to_old_not}
use Rattle.reading.proofs.CopyCases.{thirteen_told}
use Rattle.reading.proofs.Earliest.{Earliest, first}
use Rattle.reading.proofs.Forms.{form_cases}
use Rattle.reading.proofs.OldForm.{sound_earliest}
use Rattle.reading.proofs.OldFormExact.{none_fits, fits_none, some_needs, needs_some, old_none}
use Rattle.reading.proofs.WrittenBytes.{written_bytes}
use Rattle.reading.proofs.WrittenHeader.{OneForm, written_form}
use Rattle.reading.proofs.WrittenRead.{written_sound, written_read}
use Rattle.reading.proofs.WrittenSize.{written_long}

-- what C is as a copy of B in the form f
pub record IsCopy (f : BookForm) (B C : List ℕ) : Type 0 where
  pub sound : SoundBook C
  pub form : form_of C ≡ f
  pub means : book_of C ≡ book_of B
  pub few : length C ≤ copy_room
  pub bytes : AreBytes C

-- a book that fits the form, written in it
fitting_copy : (f : BookForm) (B : List ℕ) → OneForm f → BookFits f (book_of B) → IsCopy f B (book_bytes f (book_of B))
fitting_copy f B one fits =
    record {
      sound = written_sound f (book_of B) one fits;
      form = written_form f (book_of B) one;
      means = written_read f (book_of B) one fits;
      few = (written_long f (book_of B) one fits).1;
      bytes = written_bytes f (book_of B) one fits;
    }

-- a sound book of either form fits the new one
pub sound_fits_new : (B : List ℕ) → SoundBook B → BookFits new (book_of B)
sound_fits_new B s = go (form_cases B)
  where
    go : (form_of B ≡ old) ⊎ (form_of B ≡ new) → BookFits new (book_of B)
    go (inl e) =
        old_fits_new (book_of B) (subst (λ (f : BookForm). BookFits f (book_of B)) e (sound_fits_form B s))
    go (inr e) = subst (λ (f : BookForm). BookFits f (book_of B)) e (sound_fits_form B s)

module _ (B : List ℕ) (room : ℕ) where
  -- the copy is sound, in the wanted form, and means the same book
  pub new_copy : {C : List ℕ} → to_new B room ≡ copied C → IsCopy new B C
  new_copy e =
      let k = to_new_copied B room e in
      subst (IsCopy new B) (sym k.2) (fitting_copy new B (inr refl) (sound_fits_new B k.1))

  pub old_copy : {C : List ℕ} → to_old B room ≡ copied C → IsCopy old B C
  old_copy e =
      let k = to_old_copied B room e in
      subst (IsCopy old B) (sym k.3) (fitting_copy old B (inl refl) (none_fits B k.1 k.2))

  -- 13 at the earliest byte that has no old form, of a book that needs the new one
  pub thirteen_right : {p : ℕ} → to_old B room ≡ refused 13 p
      → SoundBook B × NoOldForm B p × ((q : ℕ) → NoOldForm B q → p ≤ q) × NeedsNew (book_of B)
  thirteen_right {p} e =
      let k = thirteen_told B room e in
      let w = at (subst (Earliest (NoOldForm B)) k.2 (sound_earliest B k.1)) in
      (k.1, w.0, w.1, some_needs B k.1 p k.2)
    where
      at : Earliest (NoOldForm B) (some p) → NoOldForm B p × ((q : ℕ) → NoOldForm B q → p ≤ q)
      at (first v f) = (v, f)

  module _ (enough : copy_room ≤ room) (s : SoundBook B) where
    pub thirteen_needed : NeedsNew (book_of B) → (p : ℕ) × (to_old B room ≡ refused 13 p)
    thirteen_needed n = let k = needs_some B s n in (k.0, to_old_not B room enough s k.0 k.1)

    -- "one already in the wanted form copied"
    module _ (bytes : AreBytes B) where
      same_bytes : (f : BookForm) → form_of B ≡ f → book_bytes f (book_of B) ≡ B
      same_bytes f e = ap (λ (g : BookForm). book_bytes g (book_of B)) (sym e) ∙ book_back B s bytes

      pub new_as_it_is : form_of B ≡ new → to_new B room ≡ copied B
      new_as_it_is e = to_new_sound B room enough s ∙ ap copied (same_bytes new e)

      pub old_as_it_is : form_of B ≡ old → to_old B room ≡ copied B
      old_as_it_is e = to_old_sound B room enough s (old_none B s e) ∙ ap copied (same_bytes old e)

-- "there and back gives the first bytes again"
module _ (B : List ℕ) (room : ℕ) (bytes : AreBytes B) {C : List ℕ} (again : ℕ) (enough : copy_room ≤ again) where
  means_again : (f g : BookForm) → SoundBook B → form_of B ≡ f → IsCopy g B C → book_bytes f (book_of C) ≡ B
  means_again f g s e c =
      ap (book_bytes f) c.means ∙ ap (λ (h : BookForm). book_bytes h (book_of B)) (sym e) ∙ book_back B s bytes

  pub new_and_back : form_of B ≡ old → to_new B room ≡ copied C → to_old C again ≡ copied B
  new_and_back e h =
      to_old_sound C again enough c.sound (fits_none C c.sound fits) ∙ ap copied (means_again old new s e c)
    where
      s : SoundBook B
      s = (to_new_copied B room h).1

      c : IsCopy new B C
      c = new_copy B room h

      fits : BookFits old (book_of C)
      fits =
          subst (BookFits old) (sym (new_copy B room h).means)
          (subst (λ (f : BookForm). BookFits f (book_of B)) e (sound_fits_form B (to_new_copied B room h).1))

  pub old_and_back : form_of B ≡ new → to_old B room ≡ copied C → to_new C again ≡ copied B
  old_and_back e h =
      let c = old_copy B room h in
      to_new_sound C again enough c.sound ∙ ap copied (means_again new old (to_old_copied B room h).1 e c)

-- two answers that the contract allows are the same
pub copies_determined : {c : Copied} {out after other : List ℕ} {n m p q : ℕ} → Copies c out n p after
    → Copies c out m q other → (n ≡ m) × (p ≡ q) × (after ≡ other)
copies_determined k l =
    let e = k.answers ∙ sym l.answers in
    (ap (λ (x : ℕ × ℕ). x.0) e, ap (λ (x : ℕ × ℕ). x.1) e, k.writes ∙ sym l.writes)

-- a copy that is no longer than the output leaves it as long as it was
pub written_over : (c : Copied) (out : List ℕ) → ((C : List ℕ) → c ≡ copied C → length C ≤ length out)
    → length (copy_written c out) ≡ length out
written_over (copied C) out f =
    length-append C (drop (length C) out) ∙ omega (arith, length-drop (length C) out, f C refl)
written_over (refused n p) out f = refl

-- and so the two operations do
module _ (B out : List ℕ) where
  pub new_keeps : length (copy_written (to_new B (length out)) out) ≡ length out
  new_keeps =
      written_over (to_new B (length out)) out
      (λ C e. omega (arith, (new_copy B (length out) e).few, (to_new_copied B (length out) e).0))

  pub old_keeps : length (copy_written (to_old B (length out)) out) ≡ length out
  old_keeps =
      written_over (to_old B (length out)) out
      (λ C e. omega (arith, (old_copy B (length out) e).few, (to_old_copied B (length out) e).0))
