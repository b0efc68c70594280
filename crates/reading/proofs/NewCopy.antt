-- What a copy to the new form gives whoever asked for it: the book's own refusal, or a sound book in the new form that
-- means the same. Assumes nothing.
use mathlib.Core.Path.{◌≡◌, sym, ◌∙◌, ap, subst}
use mathlib.Core.Logic.{◌⊎◌, inl, inr}
use mathlib.Core.List.{List}
use Prim.Native.Nat.{ℕ, ◌≤◌, ◌<◌}
use native.Mathlib.Omega.{arith}
use lib.ListN.{length, take, drop, length-append}
use lib.Seq.{take_at}
use Rattle.covering.proofs.Tests.{le_or_lt}
use Rattle.reading.specs.Header.{new}
use Rattle.reading.specs.Book.{book_of}
use Rattle.reading.specs.Verdict.{verdict, SoundBook}
use Rattle.reading.specs.Written.{book_bytes}
use Rattle.reading.specs.Copy.{Copied, copied, copy_room, to_new, copy_answer, copy_written, CopiesNew}
use Rattle.reading.proofs.CopyCases.{to_new_own, to_new_sound}
use Rattle.reading.proofs.Copies.{IsCopy, new_copy}

module _ (book out : List ℕ) {number place : ℕ} {after : List ℕ} (given : CopiesNew book out number place after)
    (room : copy_room ≤ length out)
  where
    -- the number and the place by what becomes of the copy
    number_by : (c : Copied) → to_new book (length out) ≡ c → number ≡ (copy_answer c).0
    number_by c e = ap (λ (x : ℕ × ℕ). x.0) (given.answers ∙ ap copy_answer e)

    place_by : (c : Copied) → to_new book (length out) ≡ c → place ≡ (copy_answer c).1
    place_by c e = ap (λ (x : ℕ × ℕ). x.1) (given.answers ∙ ap copy_answer e)

    -- a sound book is copied
    pub record Given : Type 0 where
      pub sound : SoundBook book
      pub copy : IsCopy new book (take place after)
      pub within : place ≤ length after

    -- and another is refused for its own reason
    pub record Refused : Type 0 where
      pub unsound : SoundBook book → ⊥
      pub number_is : number ≡ (verdict book).number
      pub place_is : place ≡ (verdict book).place

    sound_given : SoundBook book → (number ≡ 0) × Given
    sound_given s =
        let C = book_bytes new (book_of book) in
        let e = to_new_sound book (length out) room s in
        let p = place_by (copied C) e in
        let w = given.writes ∙ ap (λ (c : Copied). copy_written c out) e in (
          number_by (copied C) e,
          record {
            sound = s;
            copy =
                subst (IsCopy new book) (sym (ap (take place) w ∙ take_at C (drop (length C) out) place (sym p)))
                (new_copy book (length out) e);
            within = omega (arith, p, ap length w, length-append C (drop (length C) out));
          },
        )

    unsound_refused : (SoundBook book → ⊥) → Refused
    unsound_refused f =
        let e = to_new_own book (length out) room f in
        record { unsound = f; number_is = number_by _ e; place_is = place_by _ e }

    -- whether it is sound
    by_verdict : SoundBook book ⊎ (SoundBook book → ⊥)
    by_verdict = go (le_or_lt 1 (verdict book).number)
      where
        go : (1 ≤ (verdict book).number) ⊎ ((verdict book).number < 1) → SoundBook book ⊎ (SoundBook book → ⊥)
        go (inl h) = inr (λ e. omega arith)
        go (inr h) = inl (omega arith)

    pub copy_given : number ≡ 0 → Given
    copy_given zero = go by_verdict
      where
        go : SoundBook book ⊎ (SoundBook book → ⊥) → Given
        go (inl s) = (sound_given s).1
        go (inr f) = absurd (f (sym (unsound_refused f).number_is ∙ zero))

    pub copy_refused : (number ≡ 0 → ⊥) → Refused
    copy_refused more = go by_verdict
      where
        go : SoundBook book ⊎ (SoundBook book → ⊥) → Refused
        go (inl s) = absurd (more (sound_given s).0)
        go (inr f) = unsound_refused f
