-- A search for the earliest place: what it means that it finds it, and how such searches are put together.
-- Assumes nothing.
use mathlib.Core.Path.{◌≡◌, refl, sym, subst}
use mathlib.Core.Bool.{Bool, true, false, cond}
use mathlib.Core.Logic.{◌⊎◌, inl, inr}
use mathlib.Core.Option.{Option, none, some}
use Prim.Native.Nat.{ℕ, zero, suc, ◌+◌, ◌≤◌, ◌<◌}
use native.Mathlib.Omega.{arith}
use lib.Dec.{T}
use Rattle.covering.specs.Lists.{or_else}
use Rattle.covering.proofs.Tests.{le_or_lt}
use Rattle.reading.specs.Verdict.{unless}

-- nothing, where W holds nowhere; else the least place at which it holds
pub data Earliest (W : ℕ → Type 0) : Option ℕ → Type 0 where
  nowhere : ((p : ℕ) → W p → ⊥) → Earliest W none
  first : {p : ℕ} → W p → ((q : ℕ) → W q → p ≤ q) → Earliest W (some p)

pub holds_nowhere : {W : ℕ → Type 0} → Earliest W none → (p : ℕ) → W p → ⊥
holds_nowhere (nowhere f) = f

pub earliest_same : {U W : ℕ → Type 0} {o : Option ℕ} → ((p : ℕ) → U p → W p) → ((p : ℕ) → W p → U p)
    → Earliest U o → Earliest W o
earliest_same to from (nowhere f) = nowhere (λ p w. f p (from p w))
earliest_same to from (first {p} v f) = first (to p v) (λ q w. f q (from q w))

-- one place is tested
pub earliest_test : (t : ℕ → Bool) (i : ℕ) → Earliest (λ p. (p ≡ i) × (T (t p) → ⊥)) (unless (t i) i)
earliest_test t i = go (t i) refl
  where
    go : (b : Bool) → t i ≡ b → Earliest (λ p. (p ≡ i) × (T (t p) → ⊥)) (unless b i)
    go true e = nowhere (λ p w. w.1 (subst (λ q. T (t q)) (sym w.0) (subst T (sym e) tt)))
    go false e = first (refl, (λ u. subst T e u)) (λ q w. omega arith)

-- one search after another, whose places all come later
pub earliest_else : {U W : ℕ → Type 0} {a b : Option ℕ} → Earliest U a → Earliest W b
    → ((p q : ℕ) → U p → W q → p ≤ q) → Earliest (λ p. U p ⊎ W p) (or_else a b)
earliest_else {U} {W} (nowhere f) e later = earliest_same (λ p w. inr w) from e
  where
    from : (p : ℕ) → U p ⊎ W p → W p
    from p (inl v) = absurd (f p v)
    from p (inr w) = w
earliest_else {U} {W} (first {p} v f) e later = first (inl v) least
  where
    least : (q : ℕ) → U q ⊎ W q → p ≤ q
    least q (inl u) = f q u
    least q (inr w) = later p q v w

-- the first of the numbers from w on, or one after it
pub here_or_later : (w v : ℕ) → w ≤ v → (v ≡ w) ⊎ (w + 1 ≤ v)
here_or_later w v h = go (le_or_lt v w)
  where
    go : (v ≤ w) ⊎ (w < v) → (v ≡ w) ⊎ (w + 1 ≤ v)
    go (inl l) = inl (omega arith)
    go (inr l) = inr (omega arith)

-- a search that is made only where a test is passed
pub earliest_where : (b : Bool) {W : ℕ → Type 0} {o : Option ℕ} → Earliest W o
    → Earliest (λ p. T b × W p) (cond b o none)
earliest_where true e = earliest_same (λ p w. (tt, w)) (λ p w. w.1) e
earliest_where false e = nowhere (λ p w. w.0)

-- n places from i on are tested, one after the other: the search is given by its two lines
abbrev pub Failing : (ℕ → Bool) → ℕ → ℕ → ℕ → Type 0
Failing t i n p = (i ≤ p) × (p < i + n) × (T (t p) → ⊥)

pub earliest_each : (t : ℕ → Bool) (search : ℕ → ℕ → Option ℕ) → ((i : ℕ) → search i 0 ≡ none)
    → ((i n : ℕ) → search i (suc n) ≡ or_else (unless (t i) i) (search (i + 1) n))
    → (i n : ℕ) → Earliest (Failing t i n) (search i n)
earliest_each t search last more i zero =
    subst (Earliest (Failing t i 0)) (sym (last i)) (nowhere (λ p w. omega arith))
earliest_each t search last more i (suc n) =
    subst (Earliest (Failing t i (suc n))) (sym (more i n))
    (earliest_same join (λ p w. part p w (here_or_later i p w.0))
    (earliest_else (earliest_test t i) (earliest_each t search last more (i + 1) n) (λ p q v w. omega arith)))
  where
    join : (p : ℕ) → ((p ≡ i) × (T (t p) → ⊥)) ⊎ Failing t (i + 1) n p → Failing t i (suc n) p
    join p (inl v) = (omega arith, omega arith, v.1)
    join p (inr w) = (omega arith, omega arith, w.2)

    part : (p : ℕ) → Failing t i (suc n) p → (p ≡ i) ⊎ (i + 1 ≤ p)
        → ((p ≡ i) × (T (t p) → ⊥)) ⊎ Failing t (i + 1) n p
    part p w (inl e) = inl (e, w.2)
    part p w (inr l) = inr (l, omega arith, w.2)
