-- No refusal of a copy has the number 0. Assumes nothing.
use Rattle.std.proofs.Common.{◌≡◌, ℕ, zero, suc, List, ◌≤◌, ◌<◌, refl, sym, ap, ◌∙◌, arith, not}
use mathlib.Core.Logic.{◌⊎◌, inl, inr}
use Rattle.std.proofs.Math.Option.{Option, none, some}
use borrow.Author.Tests.{eq-eqb}
use lib.Dec.{T, eqb, eqb→eq}
use Rattle.covering.proofs.Tests.{decide, clash, le_or_lt, true→T}
use Rattle.reading.specs.Verdict.{verdict, SoundBook}
use Rattle.reading.specs.Copy.{no_old_form, Copied, refused, copy_room, copy_answer, to_new, to_old}
use Rattle.reading.proofs.CopyCases.{to_new_sound, to_old_sound, to_old_not, to_new_room, to_old_room, to_new_own, to_old_own, copied≢refused}

refused_number : {m q n p : ℕ} → refused m q ≡ refused n p → m ≡ n
refused_number e = ap (λ (x : Copied). (copy_answer x).0) e

module _ (B : List ℕ) (room : ℕ) where
  own_number : (SoundBook B → ⊥) → 0 < (verdict B).number
  own_number f = go (verdict B).number refl
    where
      go : (n : ℕ) → (verdict B).number ≡ n → 0 < (verdict B).number
      go zero e = absurd (f e)
      go (suc n) e = omega arith

  abbrev Cases : Type 0
  Cases = T (eqb (verdict B).number 0) ⊎ T (not (eqb (verdict B).number 0))

  not_sound : T (not (eqb (verdict B).number 0)) → SoundBook B → ⊥
  not_sound t s = clash (eqb (verdict B).number 0) (true→T _ (eq-eqb (verdict B).number 0 s)) t

  pub new_numbered : (m q : ℕ) → to_new B room ≡ refused m q → 0 < m
  new_numbered m q e = go (le_or_lt copy_room room) (decide (eqb (verdict B).number 0))
    where
      go : (copy_room ≤ room) ⊎ (room < copy_room) → Cases → 0 < m
      go (inr l) d = omega (arith, refused_number (sym (to_new_room B room l) ∙ e))
      go (inl l) (inl t) = absurd (copied≢refused (sym (to_new_sound B room l (eqb→eq _ _ t)) ∙ e))
      go (inl l) (inr t) =
          omega (arith, own_number (not_sound t), refused_number (sym (to_new_own B room l (not_sound t)) ∙ e))

  pub old_numbered : (m q : ℕ) → to_old B room ≡ refused m q → 0 < m
  old_numbered m q e = go (le_or_lt copy_room room) (decide (eqb (verdict B).number 0))
    where
      on : copy_room ≤ room → SoundBook B → (o : Option ℕ) → no_old_form B ≡ o → 0 < m
      on l s none d = absurd (copied≢refused (sym (to_old_sound B room l s d) ∙ e))
      on l s (some p) d = omega (arith, refused_number (sym (to_old_not B room l s p d) ∙ e))

      go : (copy_room ≤ room) ⊎ (room < copy_room) → Cases → 0 < m
      go (inr l) d = omega (arith, refused_number (sym (to_old_room B room l) ∙ e))
      go (inl l) (inl t) = on l (eqb→eq _ _ t) (no_old_form B) refl
      go (inl l) (inr t) =
          omega (arith, own_number (not_sound t), refused_number (sym (to_old_own B room l (not_sound t)) ∙ e))
