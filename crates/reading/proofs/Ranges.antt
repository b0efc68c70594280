-- Laws of a range of numbers, and of a test of two parts. Assumes nothing.
use mathlib.Core.Path.{◌≡◌, subst}
use mathlib.Core.Bool.{Bool, true, false, ◌&&◌}
use mathlib.Core.Logic.{◌⊎◌, inl, inr}
use Prim.Native.Nat.{ℕ, ◌≤◌, ◌<◌}
use native.Mathlib.Omega.{arith}
use lib.Dec.{T, eqb, leb, eqb_refl, le→leb, leb→le}
use Rattle.covering.proofs.Tests.{both, fst_of, snd_of, le_or_lt}
use Rattle.reading.specs.Header.{Range, Outside, inside}

-- ranges
pub inside_in : (r : Range) {n : ℕ} → T (inside r n) → (r.least ≤ n) × (n ≤ r.most)
inside_in r {n} t =
    let low = leb r.least n in
    let high = leb n r.most in
    (leb→le _ _ (fst_of low high t), leb→le _ _ (snd_of low high t))

pub inside_not : (r : Range) {n : ℕ} → T (inside r n) → Outside r n → ⊥
inside_not r t (inl l) = let h = inside_in r t in omega arith
inside_not r t (inr l) = let h = inside_in r t in omega arith

pub outside : (r : Range) {n : ℕ} → (T (inside r n) → ⊥) → Outside r n
outside r {n} f = go (le_or_lt r.least n) (le_or_lt n r.most)
  where
    go : (r.least ≤ n) ⊎ (n < r.least) → (n ≤ r.most) ⊎ (r.most < n) → Outside r n
    go (inl a) (inl b) = absurd (f (both (leb r.least n) (leb n r.most) (le→leb _ _ a) (le→leb _ _ b)))
    go (inl a) (inr b) = inr b
    go (inr a) c = inl a

-- what follows where the first part of a test is not passed, and where the second is not
pub either : {W : Type 0} (a b : Bool) → ((T a → ⊥) → W) → ((T b → ⊥) → W) → (T (a && b) → ⊥) → W
either true b f g h = g h
either false b f g h = f (λ t. t)

pub eq_not : {m n : ℕ} → (T (eqb m n) → ⊥) → m ≡ n → ⊥
eq_not {m} f e = f (subst (λ (k : ℕ). T (eqb m k)) e (eqb_refl m))

pub le_not : {m n : ℕ} → (T (leb m n) → ⊥) → n < m
le_not {m} {n} f = go (le_or_lt m n)
  where
    go : (m ≤ n) ⊎ (n < m) → n < m
    go (inl l) = absurd (f (le→leb m n l))
    go (inr l) = l
