-- A search through blocks that follow one another, each searched in turn: it finds the earliest place, if the blocks'
-- searches do. Assumes nothing.
use mathlib.Core.Path.{◌≡◌, sym, subst}
use mathlib.Core.Logic.{◌⊎◌, inl, inr}
use mathlib.Core.Option.{Option, none}
use Prim.Native.Nat.{ℕ, zero, suc, ◌≤◌, ◌<◌}
use native.Mathlib.Omega.{arith}
use Rattle.covering.specs.Lists.{or_else}
use Rattle.reading.proofs.Earliest.{Earliest, nowhere, earliest_same, earliest_else}

-- where the k-th block starts, if the first does at i
abbrev pub block_at : (ℕ → ℕ) → ℕ → ℕ → ℕ
block_at next i zero = i
block_at next i (suc k) = block_at next (next i) k

module _ (W : ℕ → ℕ → Type 0) (next : ℕ → ℕ) where
  -- at p in one of the n blocks from i on
  abbrev pub InBlocks : ℕ → ℕ → ℕ → Type 0
  InBlocks i n p = (k : ℕ) × (k < n) × W (block_at next i k) p

  module _ (from : (i p : ℕ) → W i p → i ≤ p) (to : (i p : ℕ) → W i p → p < next i) (on : (i : ℕ) → i ≤ next i) where
    late : (i n : ℕ) → i ≤ block_at next i n
    late i zero = omega arith
    late i (suc n) = let h = late (next i) n in omega (arith, on i)

    pub blocks_from : (i n p : ℕ) → InBlocks i n p → i ≤ p
    blocks_from i n p w = omega (arith, late i w.0, from (block_at next i w.0) p w.2)

    pub blocks_to : (i n p : ℕ) → InBlocks i n p → p < block_at next i n
    blocks_to i zero p w = let l = w.1 in absurd (omega arith)
    blocks_to i (suc n) p w = go w.0 w.1 w.2 (blocks_to (next i) n p)
      where
        go : (k : ℕ) → k < suc n → W (block_at next i k) p
            → (InBlocks (next i) n p → p < block_at next (next i) n) → p < block_at next (next i) n
        go zero l v below = omega (arith, to i p v, late (next i) n)
        go (suc k) l v below = below (k, omega arith, v)

    pub blocks_earliest : (one : ℕ → Option ℕ) (search : ℕ → ℕ → Option ℕ) → ((i : ℕ) → Earliest (W i) (one i))
        → ((i : ℕ) → search i 0 ≡ none)
        → ((i n : ℕ) → search i (suc n) ≡ or_else (one i) (search (next i) n))
        → (i n : ℕ) → Earliest (InBlocks i n) (search i n)
    blocks_earliest one search found last more i zero =
        subst (Earliest (InBlocks i 0)) (sym (last i)) (nowhere (λ p w. let l = w.1 in omega arith))
    blocks_earliest one search found last more i (suc n) =
        subst (Earliest (InBlocks i (suc n))) (sym (more i n))
        (earliest_same join (λ p w. part p w.0 w.1 w.2)
        (earliest_else (found i) (blocks_earliest one search found last more (next i) n) later))
      where
        later : (p q : ℕ) → W i p → InBlocks (next i) n q → p ≤ q
        later p q v w = omega (arith, to i p v, blocks_from (next i) n q w)

        join : (p : ℕ) → W i p ⊎ InBlocks (next i) n p → InBlocks i (suc n) p
        join p (inl v) = (0, omega arith, v)
        join p (inr w) = (suc w.0, omega (arith, w.1), w.2)

        part : (p k : ℕ) → k < suc n → W (block_at next i k) p → W i p ⊎ InBlocks (next i) n p
        part p zero l v = inl v
        part p (suc k) l v = inr (k, omega arith, v)
