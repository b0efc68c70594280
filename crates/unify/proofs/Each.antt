-- Two ways of a loop: one that puts f of each element in its place, and a test that is computed at every number below
-- n. Assumes nothing.
use mathlib.Core.Path.{◌≡◌, refl, sym, ap, subst}
use mathlib.Core.Bool.{Bool, true, ◌&&◌}
use mathlib.Core.Logic.{⊎_elim}
use mathlib.Core.List.{List, [], ◌∷◌, map}
use Prim.Native.Nat.{ℕ, zero, suc, ◌+◌, ◌<◌, ◌≤◌}
use native.Mathlib.Nat.{le_of_suc-le-suc, eq-or-lt_of_le, not-suc-le-zero}
use native.Mathlib.Numerals.{add-one}
use lib.Dec.{T}
use lib.ListN.{length, get_or, set}
use Rattle.covering.proofs.Tests.{fst_of, snd_of}

-- the list after i turns
unfoldable pub done : (ℕ → ℕ) → List ℕ → ℕ → List ℕ
done f [] i = []
done f (x ∷ xs) zero = x ∷ xs
done f (x ∷ xs) (suc i) = f x ∷ done f xs i

pub done_none : (f : ℕ → ℕ) (m : List ℕ) → done f m 0 ≡ m
unfolding done
done_none f [] = refl
done_none f (x ∷ xs) = refl

done_next : (f : ℕ → ℕ) (m : List ℕ) (i : ℕ) → get_or (done f m i) i 0 ≡ get_or m i 0
unfolding done
done_next f [] i = refl
done_next f (x ∷ xs) zero = refl
done_next f (x ∷ xs) (suc i) = done_next f xs i

done_set : (f : ℕ → ℕ) (m : List ℕ) (i : ℕ) → set (done f m i) i (f (get_or m i 0)) ≡ done f m (suc i)
unfolding done
done_set f [] i = refl
done_set f (x ∷ xs) zero = ap (λ (l : List ℕ). f x ∷ l) (sym (done_none f xs))
done_set f (x ∷ xs) (suc i) = ap (λ (l : List ℕ). f x ∷ l) (done_set f xs i)

pub done_more : (f : ℕ → ℕ) (m : List ℕ) (i : ℕ) → set (done f m i) i (f (get_or (done f m i) i 0)) ≡ done f m (i + 1)
done_more f m i = rw (done_next, add-one) (done_set f m i)

pub done_all : (f : ℕ → ℕ) (m : List ℕ) (i : ℕ) → length m ≤ i → done f m i ≡ map f m
unfolding done
done_all f [] i h = refl
done_all f (x ∷ xs) zero h = absurd (not-suc-le-zero h)
done_all f (x ∷ xs) (suc i) h = ap (λ (l : List ℕ). f x ∷ l) (done_all f xs i (le_of_suc-le-suc h))

-- the test at every number below n
abbrev pub below : ℕ → (ℕ → Bool) → Bool
below zero f = true
below (suc n) f = f n && below n f

pub at : (n : ℕ) (f : ℕ → Bool) → T (below n f) → (k : ℕ) → k < n → T (f k)
at zero f t k h = absurd (not-suc-le-zero h)
at (suc n) f t k h =
    ⊎_elim
    (λ e. subst (λ (j : ℕ). T (f j)) (sym e) (fst_of (f n) (below n f) t))
    (λ l. at n f (snd_of (f n) (below n f) t) k l)
    (eq-or-lt_of_le (le_of_suc-le-suc h))
