-- What becomes of a copy, case by case: too little room, a book that is refused, no old form, and the copy. Assumes
-- nothing.
use mathlib.Core.Path.{◌≡◌, refl, sym, ◌∙◌, ap}
use mathlib.Core.Bool.{not}
use mathlib.Core.Logic.{◌⊎◌, inl, inr}
use mathlib.Core.List.{List}
use mathlib.Core.Option.{Option, none, some}
use Prim.Native.Nat.{ℕ, ◌≤◌, ◌<◌}
use native.Mathlib.Omega.{arith}
use borrow.Author.Tests.{lt-ltb, le-ltb, eq-eqb, ne_eqb}
use lib.Dec.{T, eqb, eqb→eq}
use Rattle.covering.proofs.Tests.{decide, clash, le_or_lt}
use Rattle.reading.specs.Header.{old, new}
use Rattle.reading.specs.Book.{book_of}
use Rattle.reading.specs.Refusals.{ApplicableToBook, two, three, four, five, six, seven, eleven}
use Rattle.reading.specs.Verdict.{IsVerdict, verdict, SoundBook}
use Rattle.reading.specs.Written.{book_bytes}
use Rattle.reading.specs.Copy.{no_old_form, Copied, copied, refused, copy_room, old_copy, after_book, to_new, to_old}
use Rattle.reading.specs.Copy.{copy_answer}
use Rattle.reading.proofs.Exact.{verdict_exact}
use Rattle.reading.proofs.Ranges.{eq_not}

-- a copy is no refusal, and tells its bytes
pub copied≢refused : {l : List ℕ} {n p : ℕ} → copied l ≡ refused n p → ⊥
copied≢refused e = let z : ◌≡◌ {A = ℕ} 0 1 = cc in omega arith

pub copied_inj : {l k : List ℕ} → copied l ≡ copied k → l ≡ k
copied_inj e = cc

-- the book's own numbers are below 13
own_number : {B : List ℕ} {n p : ℕ} → ApplicableToBook B n p → n < 12
own_number (two s) = omega arith
own_number (three s) = omega arith
own_number (four s) = omega arith
own_number (five s) = omega arith
own_number (six s) = omega arith
own_number (seven s) = omega arith
own_number (eleven s) = omega arith

verdict_number : (B : List ℕ) → (verdict B).number < 12
verdict_number B = go (verdict_exact B)
  where
    go : IsVerdict B (verdict B) → (verdict B).number < 12
    go (IsVerdict.sound e f) = omega (arith, ap (λ r. r.number) e)
    go (IsVerdict.refused a f) = own_number a

module _ (B : List ℕ) (room : ℕ) (c : Copied) where
  -- "in copying, 1 for room under 2,003 bytes, the book's own 2 to 7 and 11, then"
  pub little_room : room < copy_room → after_book B room c ≡ refused 1 0
  unfolding after_book
  little_room l = rw (lt-ltb room copy_room l)

  pub book_refused : copy_room ≤ room → (SoundBook B → ⊥)
      → after_book B room c ≡ refused (verdict B).number (verdict B).place
  unfolding after_book
  book_refused l f = rw (le-ltb room copy_room l, ne_eqb (verdict B).number 0 f)

  pub book_passed : copy_room ≤ room → SoundBook B → after_book B room c ≡ c
  unfolding after_book
  book_passed l s = rw (le-ltb room copy_room l, eq-eqb (verdict B).number 0 s)

  -- the three cases, and what follows from each
  by_case : (W : Copied → Type 0) → (room < copy_room → W (refused 1 0))
      → (copy_room ≤ room → (SoundBook B → ⊥) → W (refused (verdict B).number (verdict B).place))
      → (copy_room ≤ room → SoundBook B → W c) → W (after_book B room c)
  by_case W f g h = go (le_or_lt copy_room room) (decide (eqb (verdict B).number 0))
    where
      go : (copy_room ≤ room) ⊎ (room < copy_room) → T (eqb (verdict B).number 0) ⊎ T (not (eqb (verdict B).number 0))
          → W (after_book B room c)
      go (inr l) d = rw (little_room l) (f l)
      go (inl l) (inl t) = let s : SoundBook B = eqb→eq _ _ t in rw (book_passed l s) (h l s)
      go (inl l) (inr t) =
          let s : SoundBook B → ⊥ = eq_not (λ u. clash (eqb (verdict B).number 0) u t) in
          rw (book_refused l s) (g l s)

  -- a copy is made only of a sound book, with room
  pub only_copied : {l : List ℕ} → after_book B room c ≡ copied l → (copy_room ≤ room) × SoundBook B × (c ≡ copied l)
  only_copied {l} =
      by_case (λ (x : Copied). x ≡ copied l → (copy_room ≤ room) × SoundBook B × (c ≡ copied l))
      (λ h e. absurd (copied≢refused (sym e))) (λ h s e. absurd (copied≢refused (sym e))) (λ h s e. (h, s, e))

  -- and so is 13 told
  pub only_thirteen : {p : ℕ} → after_book B room c ≡ refused 13 p
      → (copy_room ≤ room) × SoundBook B × (c ≡ refused 13 p)
  only_thirteen {p} =
      by_case (λ (x : Copied). x ≡ refused 13 p → (copy_room ≤ room) × SoundBook B × (c ≡ refused 13 p))
      (λ h e. let z : ◌≡◌ {A = ℕ} 1 13 = ap (λ (x : Copied). (copy_answer x).0) e in absurd (omega arith))
      (λ h s e.
      let z : (verdict B).number ≡ 13 = ap (λ (x : Copied). (copy_answer x).0) e in
      absurd (omega (arith, verdict_number B)))
      (λ h s e. (h, s, e))

-- what becomes of a sound book
old_copied : (B l : List ℕ) (o : Option ℕ) → old_copy B o ≡ copied l → (o ≡ none) × (l ≡ book_bytes old (book_of B))
old_copied B l none e = (refl, copied_inj (sym e))
old_copied B l (some p) e = absurd (copied≢refused (sym e))

old_refused : (B : List ℕ) (p : ℕ) (o : Option ℕ) → old_copy B o ≡ refused 13 p → o ≡ some p
old_refused B p none e = absurd (copied≢refused e)
old_refused B p (some q) e = ap (λ (x : Copied). some (copy_answer x).1) e

module _ (B : List ℕ) (room : ℕ) where
  pub to_new_room : room < copy_room → to_new B room ≡ refused 1 0
  unfolding to_new
  to_new_room = little_room B room (copied (book_bytes new (book_of B)))

  pub to_old_room : room < copy_room → to_old B room ≡ refused 1 0
  unfolding to_old
  to_old_room = little_room B room (old_copy B (no_old_form B))

  pub to_new_copied : {C : List ℕ} → to_new B room ≡ copied C
      → (copy_room ≤ room) × SoundBook B × (C ≡ book_bytes new (book_of B))
  unfolding to_new
  to_new_copied e =
      let k = only_copied B room (copied (book_bytes new (book_of B))) e in (k.0, k.1, copied_inj (sym k.2))

  pub to_old_copied : {C : List ℕ} → to_old B room ≡ copied C
      → (copy_room ≤ room) × SoundBook B × (no_old_form B ≡ none) × (C ≡ book_bytes old (book_of B))
  unfolding to_old
  to_old_copied {C} e =
      let k = only_copied B room (old_copy B (no_old_form B)) e in
      let o = old_copied B C (no_old_form B) k.2 in
      (k.0, k.1, o.0, o.1)

  -- 13 is told only of a sound book, at the byte that was found
  pub thirteen_told : {p : ℕ} → to_old B room ≡ refused 13 p
      → (copy_room ≤ room) × SoundBook B × (no_old_form B ≡ some p)
  unfolding to_old
  thirteen_told {p} e =
      let k = only_thirteen B room (old_copy B (no_old_form B)) e in (k.0, k.1, old_refused B p (no_old_form B) k.2)

  module _ (enough : copy_room ≤ room) where
    -- "the book's own"
    pub to_new_own : (SoundBook B → ⊥) → to_new B room ≡ refused (verdict B).number (verdict B).place
    unfolding to_new
    to_new_own = book_refused B room (copied (book_bytes new (book_of B))) enough

    pub to_old_own : (SoundBook B → ⊥) → to_old B room ≡ refused (verdict B).number (verdict B).place
    unfolding to_old
    to_old_own = book_refused B room (old_copy B (no_old_form B)) enough

    module _ (s : SoundBook B) where
      pub to_new_sound : to_new B room ≡ copied (book_bytes new (book_of B))
      unfolding to_new
      to_new_sound = book_passed B room (copied (book_bytes new (book_of B))) enough s

      pub to_old_sound : no_old_form B ≡ none → to_old B room ≡ copied (book_bytes old (book_of B))
      unfolding to_old
      to_old_sound e = book_passed B room (old_copy B (no_old_form B)) enough s ∙ ap (old_copy B) e

      pub to_old_not : (p : ℕ) → no_old_form B ≡ some p → to_old B room ≡ refused 13 p
      unfolding to_old
      to_old_not p e = book_passed B room (old_copy B (no_old_form B)) enough s ∙ ap (old_copy B) e
