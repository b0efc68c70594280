-- What became of a copy, from what was written: nothing where it is refused, else the bytes that were put at the front.
-- Assumes nothing.
use mathlib.Core.Path.{◌≡◌, refl, sym, ◌∙◌, ap}
use mathlib.Core.List.{List, ◌++◌}
use mathlib.Core.Bool.{not}
use mathlib.Core.Logic.{◌⊎◌, inl, inr}
use mathlib.Core.Option.{Option, none, some}
use Prim.Native.Nat.{ℕ, zero, suc, ◌≤◌, ◌<◌}
use native.Mathlib.Omega.{arith}
use borrow.Author.Tests.{eq-eqb, lt-ltb, le-ltb}
use lib.Dec.{T, eqb, eqb→eq}
use lib.ListN.{length, drop}
use Rattle.covering.specs.Put.{Puts}
use Rattle.covering.proofs.Tests.{decide, clash, le_or_lt, true→T}
use Rattle.std.proofs.Common.{Result, Ok, Err}
use Rattle.std.specs.Result.{IsErrAnd}
use Rattle.std.proofs.lemmas.Result.{err_from_is_err_and}
use Rattle.reading.specs.declared.Refused.{Refused}
use Rattle.reading.specs.Refusal.{Refusal}
use Rattle.reading.specs.Told.{number_of, judged, number_told, place_told}
use Rattle.reading.proofs.ToldOnce.{some_number}
use Rattle.reading.specs.Header.{old, new}
use Rattle.reading.specs.Book.{book_of}
use Rattle.reading.specs.Verdict.{told, verdict, SoundBook}
use Rattle.reading.specs.Written.{book_bytes}
use Rattle.reading.specs.Copy.{no_old_form, Copied, copied, refused, copy_room, copy_answer, copy_written, Copies, CopiesNew}
use Rattle.reading.specs.Copy.{CopiesOld, to_new, to_old, after_book}
use Rattle.reading.proofs.CopyCases.{to_new_sound, to_old_sound, to_old_not, to_new_room, to_old_room, to_new_own}
use Rattle.reading.proofs.CopyCases.{to_old_own, copied≢refused, little_room, book_refused}
use Rattle.reading.proofs.Copies.{sound_fits_new, new_copy, old_copy}
use Rattle.reading.proofs.OldFormExact.{none_fits}
use Rattle.forms.specs.Ready.{BookReady, first_refusal}

pub copies_none : {c : Copied} {n p : ℕ} (out : List ℕ) → c ≡ refused n p → Copies c out n p out
copies_none out e =
    record { answers = ap copy_answer (sym e); writes = ap (λ (x : Copied). copy_written x out) (sym e) }

pub copies_put : {c : Copied} {l out after : List ℕ} {end : ℕ} → c ≡ copied l → Puts l out 0 end after
    → Copies c out 0 end after
copies_put {c} {l} {out} {after} {end} e p =
    let long : end ≡ length l = omega (arith, p.ends) in
    record {
      answers = ap (λ (n : ℕ). (0, n)) long ∙ ap copy_answer (sym e);
      writes =
          p.puts
          ∙ ap (λ (n : ℕ). l ++ drop n out) long
          ∙ ap (λ (x : Copied). copy_written x out) (sym e);
    }

-- what a refusal says of a copy, and what a `?` hands on
abbrev RefusedAs : Copied → Refused → Type 0
RefusedAs c e = c ≡ refused (number_of e.reason) e.place

pub copies_refused : {c : Copied} (out : List ℕ) (r : Result ℕ Refused) (e : Refused) → IsErrAnd r (λ x. x ≡ e)
    → RefusedAs c e → Copies c out (number_told r) (place_told r) out
copies_refused out r e h d = let p = err_from_is_err_and r h in rw (p.1, p.2) (copies_none out d)

module _ (B : List ℕ) (room : ℕ) where
  -- it is refused before the copy is made
  pub first_refused : (c : Copied) (e : Refused) → judged (Err e) ≡ first_refusal B room → RefusedAs (after_book B room c) e
  first_refused c e h = go (le_or_lt copy_room room)
    where
      told_by : (r : Refusal) → judged (Err e) ≡ r → refused r.number r.place ≡ refused (number_of e.reason) e.place
      told_by r d = ap (λ (x : Refusal). refused x.number x.place) (sym d)

      own : copy_room ≤ room → judged (Err e) ≡ verdict B
      own l = h ∙ rw (le-ltb room copy_room l)

      go : (copy_room ≤ room) ⊎ (room < copy_room) → RefusedAs (after_book B room c) e
      go (inl l) =
          book_refused B room c l
          (λ s. omega (arith, some_number e.reason, ap (λ (x : Refusal). x.number) (own l), s))
          ∙ told_by (verdict B) (own l)
      go (inr l) = little_room B room c l ∙ told_by (record { number = 1; place = 0 }) (h ∙ rw (lt-ltb room copy_room l))

  -- or there is room, and the book is sound
  module _ (h : judged (Ok tt) ≡ first_refusal B room) where
    pub is_room : copy_room ≤ room
    is_room = go (le_or_lt copy_room room)
      where
        go : (copy_room ≤ room) ⊎ (room < copy_room) → copy_room ≤ room
        go (inl l) = l
        go (inr l) =
            let d : judged (Ok tt) ≡ (let x : Refusal = record { number = 1; place = 0 } in x) = h ∙ rw (lt-ltb room copy_room l) in
            absurd (omega (arith, ap (λ (x : Refusal). x.number) d))

    pub is_sound : SoundBook B
    is_sound =
        let d : judged (Ok tt) ≡ verdict B = h ∙ rw (le-ltb room copy_room is_room) in
        ap (λ (x : Refusal). x.number) (sym d)

module _ (B : List ℕ) (sound : SoundBook B) where
  pub new_ready : BookReady B new
  new_ready = record { sound = sound; fits = sound_fits_new B sound }

  pub old_ready : no_old_form B ≡ none → BookReady B old
  old_ready n = record { sound = sound; fits = none_fits B sound n }

  module _ {out after : List ℕ} {end : ℕ} (long : copy_room ≤ length out) where
    pub new_copied : Puts (book_bytes new (book_of B)) out 0 end after → CopiesNew B out 0 end after
    new_copied p = copies_put (to_new_sound B (length out) long sound) p

    pub old_copied : no_old_form B ≡ none → Puts (book_bytes old (book_of B)) out 0 end after → CopiesOld B out 0 end after
    old_copied n p = copies_put (to_old_sound B (length out) long sound n) p

  -- 13, where the search found a byte
  pub old_refused : (room : ℕ) → copy_room ≤ room → (e : Refused) → judged (Err e) ≡ told 13 (no_old_form B)
      → RefusedAs (to_old B room) e
  old_refused room long e h = go (no_old_form B) refl
    where
      go : (x : Option ℕ) → no_old_form B ≡ x → RefusedAs (to_old B room) e
      go none d =
          absurd (omega (arith, some_number e.reason, ap (λ (x : Refusal). x.number) (h ∙ ap (told 13) d)))
      go (some p) d =
          to_old_not B room long sound p d
          ∙ ap (λ (x : Refusal). refused x.number x.place) (sym (h ∙ ap (told 13) d))

-- where a copy is not refused, its length is within the room
zero_within : (c : Copied) → ((m q : ℕ) → c ≡ refused m q → 0 < m)
    → ((l : List ℕ) → c ≡ copied l → length l ≤ copy_room) → {n p : ℕ} → (n, p) ≡ copy_answer c → n ≡ 0 → p ≤ copy_room
zero_within (copied l) f g {n} {p} e z =
    let long : p ≡ length l = ap (λ (x : ℕ × ℕ). x.1) e in
    omega (arith, g l refl)
zero_within (refused m q) f g {n} {p} e z =
    let same : n ≡ m = ap (λ (x : ℕ × ℕ). x.0) e in
    absurd (omega (arith, f m q refl))

refused_number : {m q n p : ℕ} → refused m q ≡ refused n p → m ≡ n
refused_number e = ap (λ (x : Copied). (copy_answer x).0) e

module _ (B : List ℕ) (room : ℕ) where
  own_number : (SoundBook B → ⊥) → 0 < (verdict B).number
  own_number f = go (verdict B).number refl
    where
      go : (n : ℕ) → (verdict B).number ≡ n → 0 < (verdict B).number
      go zero e = absurd (f e)
      go (suc n) e = omega arith

  abbrev Cases : Type 0
  Cases = T (eqb (verdict B).number 0) ⊎ T (not (eqb (verdict B).number 0))

  not_sound : T (not (eqb (verdict B).number 0)) → SoundBook B → ⊥
  not_sound t s = clash (eqb (verdict B).number 0) (true→T _ (eq-eqb (verdict B).number 0 s)) t

  new_numbered : (m q : ℕ) → to_new B room ≡ refused m q → 0 < m
  new_numbered m q e = go (le_or_lt copy_room room) (decide (eqb (verdict B).number 0))
    where
      go : (copy_room ≤ room) ⊎ (room < copy_room) → Cases → 0 < m
      go (inr l) d = omega (arith, refused_number (sym (to_new_room B room l) ∙ e))
      go (inl l) (inl t) = absurd (copied≢refused (sym (to_new_sound B room l (eqb→eq _ _ t)) ∙ e))
      go (inl l) (inr t) =
          omega (arith, own_number (not_sound t), refused_number (sym (to_new_own B room l (not_sound t)) ∙ e))

  old_numbered : (m q : ℕ) → to_old B room ≡ refused m q → 0 < m
  old_numbered m q e = go (le_or_lt copy_room room) (decide (eqb (verdict B).number 0))
    where
      on : copy_room ≤ room → SoundBook B → (o : Option ℕ) → no_old_form B ≡ o → 0 < m
      on l s none d = absurd (copied≢refused (sym (to_old_sound B room l s d) ∙ e))
      on l s (some p) d = omega (arith, refused_number (sym (to_old_not B room l s p d) ∙ e))

      go : (copy_room ≤ room) ⊎ (room < copy_room) → Cases → 0 < m
      go (inr l) d = omega (arith, refused_number (sym (to_old_room B room l) ∙ e))
      go (inl l) (inl t) = on l (eqb→eq _ _ t) (no_old_form B) refl
      go (inl l) (inr t) =
          omega (arith, own_number (not_sound t), refused_number (sym (to_old_own B room l (not_sound t)) ∙ e))

pub new_within : (B : List ℕ) {out after : List ℕ} {n p : ℕ} → CopiesNew B out n p after → n ≡ 0 → p ≤ copy_room
new_within B {out} k z =
    zero_within (to_new B (length out)) (new_numbered B (length out)) (λ l e. (new_copy B (length out) e).few)
    k.answers z

pub old_within : (B : List ℕ) {out after : List ℕ} {n p : ℕ} → CopiesOld B out n p after → n ≡ 0 → p ≤ copy_room
old_within B {out} k z =
    zero_within (to_old B (length out)) (old_numbered B (length out)) (λ l e. (old_copy B (length out) e).few)
    k.answers z
