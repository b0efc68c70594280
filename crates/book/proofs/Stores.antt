-- Lists that are filled from the front, one store a turn. Assumes nothing.
use mathlib.Core.Path.{◌≡◌, ◌∙◌, subst}
use mathlib.Core.Logic.{◌⊎◌, inl, inr}
use mathlib.Core.List.{List, ◌∷◌}
use Prim.Native.Nat.{ℕ, zero, suc, ◌≤◌, ◌<◌}
use native.Mathlib.Omega.{arith}
use lib.ListN.{length, get_or, set, replicate, length-replicate, get_or-replicate, get_or-eq_default}
use lib.Seq.{get_or-set_same, get_or-set_other}
use Rattle.covering.proofs.Tests.{le_or_lt}

pub zeros : (n j : ℕ) → ◌≡◌ {A = ℕ} (get_or (replicate n 0) j 0) 0
zeros n j = go (le_or_lt n j)
  where
    go : (n ≤ j) ⊎ (j < n) → ◌≡◌ {A = ℕ} (get_or (replicate n 0) j 0) 0
    go (inl h) = get_or-eq_default (replicate n 0) 0 (omega (arith, length-replicate {A = ℕ} n 0))
    go (inr h) = get_or-replicate n j 0 0 h

module _ (l : List ℕ) (m v : ℕ) where
  -- at another place what stood there stands
  pub stored_other : (j : ℕ) → (j ≡ m → ⊥) → get_or (set l m v) j 0 ≡ get_or l j 0
  stored_other j f = get_or-set_other l m j v 0 f

  -- what holds below m, and of v at m, holds up to m
  pub stored_upto : (f : ℕ → ℕ) → m < length l → ((j : ℕ) → j < m → get_or l j 0 ≡ f j) → v ≡ f m
      → (j : ℕ) → j ≤ m → get_or (set l m v) j 0 ≡ f j
  stored_upto f h below e j i = go (le_or_lt m j)
    where
      go : (m ≤ j) ⊎ (j < m) → get_or (set l m v) j 0 ≡ f j
      go (inl g) =
          let d : m ≡ j = omega arith in
          subst (λ (x : ℕ). get_or (set l m v) x 0 ≡ f x) d (get_or-set_same l m v 0 h ∙ e)
      go (inr g) = stored_other j (λ d. omega arith) ∙ below j g

-- a first element before zeros
module _ (x n : ℕ) where
  pub first_only : (f : ℕ → ℕ) → x ≡ f 0 → (j : ℕ) → j ≤ 0 → get_or (x ∷ replicate n 0) j 0 ≡ f j
  first_only f e zero l = e
  first_only f e (suc j) l = absurd (omega arith)

  pub others_zero : (j : ℕ) → 0 < j → get_or (x ∷ replicate n 0) j 0 ≡ 0
  others_zero zero l = absurd (omega arith)
  others_zero (suc j) l = zeros n j
