-- Where rules start and end. Assumes nothing.
use mathlib.Core.Path.{◌≡◌, refl, ◌∙◌, ap}
use mathlib.Core.List.{List}
use Prim.Native.Nat.{ℕ, zero, suc, ◌+◌, ◌≤◌}
use native.Mathlib.Omega.{arith}
use Rattle.reading.specs.Book.{rule_end, after}

module _ (B : List ℕ) where
  pub after_late : (s n : ℕ) → s ≤ after B s n
  unfolding after
  after_late s zero = omega arith
  after_late s (suc n) = let h = after_late (rule_end B s) n in omega arith

  -- one rule more
  pub after_more : (s n : ℕ) → after B s (suc n) ≡ rule_end B (after B s n)
  unfolding after
  after_more s zero = refl
  after_more s (suc n) = after_more (rule_end B s) n

  pub after_zero : (s : ℕ) → after B s 0 ≡ s
  unfolding after
  after_zero s = refl

  -- one rule more, as the code counts
  pub after_next : (s n : ℕ) → after B s (n + 1) ≡ rule_end B (after B s n)
  after_next s n = let e : n + 1 ≡ suc n = omega arith in ap (after B s) e ∙ after_more s n
