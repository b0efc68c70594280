-- Laws of a number's decimal digits: what is printed of one, and how many there are. Assumes nothing.
use mathlib.Core.Path.{◌≡◌, refl, sym, ◌∙◌, ap, subst}
use mathlib.Core.Bool.{Bool, cond}
use mathlib.Core.Logic.{◌⊎◌, inl, inr}
use mathlib.Core.List.{List, [], ◌∷◌, ◌++◌}
use Prim.Native.Nat.{ℕ, zero, suc, ◌+◌, ◌*◌, ◌-◌, ◌^◌, ◌/◌, ◌%◌, ◌≤◌, ◌<◌}
use native.Mathlib.Nat.{div-lt_iff_lt-mul, pow-suc}
use native.Mathlib.Omega.{arith}
use borrow.Author.Tests.{lt-ltb, le-ltb}
use lib.Dec.{ltb}
use lib.ListN.{length, get_or, length-append, get_or-append}
use Rattle.covering.proofs.Tests.{le_or_lt}
use Rattle.printing.specs.Printed.{decimal, figure, figures}

abbrev more : ℕ → ℕ → List ℕ
more most n = figures most (n / 10) ++ figure (n % 10) ∷ []

digits_step : (most n : ℕ) → figures (suc most) n ≡ cond (ltb n 10) (figure n ∷ []) (more most n)
unfolding figures
digits_step most n = refl

digits_none : (n : ℕ) → figures zero n ≡ figure n ∷ []
unfolding figures
digits_none n = refl

digits_one : (most n : ℕ) → n < 10 → figures most n ≡ figure n ∷ []
digits_one zero n h = digits_none n
digits_one (suc most) n h =
    digits_step most n ∙ ap (λ (b : Bool). cond b (figure n ∷ []) (more most n)) (lt-ltb n 10 h)

digits_more : (most n : ℕ) → 10 ≤ n → figures (suc most) n ≡ more most n
digits_more most n h =
    digits_step most n ∙ ap (λ (b : Bool). cond b (figure n ∷ []) (more most n)) (le-ltb n 10 h)

-- the bound does not matter
digits_same : (f g n : ℕ) → n ≤ f → n ≤ g → figures f n ≡ figures g n
digits_same zero g n hf hg = digits_one zero n (omega arith) ∙ sym (digits_one g n (omega arith))
digits_same (suc f) zero n hf hg = digits_one (suc f) n (omega arith) ∙ sym (digits_one zero n (omega arith))
digits_same (suc f) (suc g) n hf hg = go (le_or_lt 10 n) (digits_same f g (n / 10))
  where
    go : (10 ≤ n) ⊎ (n < 10) → (n / 10 ≤ f → n / 10 ≤ g → figures f (n / 10) ≡ figures g (n / 10))
        → figures (suc f) n ≡ figures (suc g) n
    go (inr h) rest = digits_one (suc f) n h ∙ sym (digits_one (suc g) n h)
    go (inl h) rest =
        digits_more f n h
        ∙ ap (λ (l : List ℕ). l ++ figure (n % 10) ∷ []) (rest (omega arith) (omega arith))
        ∙ sym (digits_more g n h)

pub decimal_one : (n : ℕ) → n < 10 → decimal n ≡ figure n ∷ []
unfolding decimal
decimal_one n h = digits_one n n h

pub decimal_more : (n : ℕ) → 10 ≤ n → decimal n ≡ decimal (n / 10) ++ figure (n % 10) ∷ []
unfolding decimal
decimal_more zero h = absurd (omega arith)
decimal_more (suc n) h =
    digits_more n (suc n) h
    ∙ ap (λ (l : List ℕ). l ++ figure (suc n % 10) ∷ [])
    (digits_same n (suc n / 10) (suc n / 10) (omega arith) (omega arith))

-- What makes it the number's decimal: its digits' value is the number, and there is no zero in front but 0 itself.
abbrev pub value : ℕ → List ℕ → ℕ
value v [] = v
value v (d ∷ ds) = value (v * 10 + (d - 48)) ds

value_last : (v : ℕ) (ds : List ℕ) (d : ℕ) → value v (ds ++ d ∷ []) ≡ value v ds * 10 + (d - 48)
value_last v [] d = refl
value_last v (x ∷ ds) d = value_last (v * 10 + (x - 48)) ds d

value_one : (n : ℕ) → value 0 (figure n ∷ []) ≡ n
value_one n = omega arith

digits_value : (most n : ℕ) → n ≤ most → value 0 (figures most n) ≡ n
digits_value zero n h = ap (value 0) (digits_none n) ∙ value_one n
digits_value (suc most) n h = go (le_or_lt 10 n) (digits_value most (n / 10))
  where
    go : (10 ≤ n) ⊎ (n < 10) → (n / 10 ≤ most → value 0 (figures most (n / 10)) ≡ n / 10)
        → value 0 (figures (suc most) n) ≡ n
    go (inr l) rest = ap (value 0) (digits_one (suc most) n l) ∙ value_one n
    go (inl l) rest =
        let tenth = rest (omega arith) in
        ap (value 0) (digits_more most n l)
        ∙ value_last 0 (figures most (n / 10)) (figure (n % 10))
        ∙ omega arith

pub decimal_value : (n : ℕ) → value 0 (decimal n) ≡ n
unfolding decimal
decimal_value n = digits_value n n (omega arith)

digits_some : (most n : ℕ) → 1 ≤ length (figures most n)
digits_some zero n = omega (arith, ap length (digits_none n))
digits_some (suc most) n = go (le_or_lt 10 n)
  where
    go : (10 ≤ n) ⊎ (n < 10) → 1 ≤ length (figures (suc most) n)
    go (inr l) = omega (arith, ap length (digits_one (suc most) n l))
    go (inl l) =
        omega (
          arith,
          ap length (digits_more most n l),
          length-append (figures most (n / 10)) (figure (n % 10) ∷ []),
        )

digits_front : (most n : ℕ) → 1 ≤ n → n ≤ most → figure 1 ≤ get_or (figures most n) 0 0
digits_front zero n one h = absurd (omega arith)
digits_front (suc most) n one h = go (le_or_lt 10 n) (digits_front most (n / 10))
  where
    go : (10 ≤ n) ⊎ (n < 10) → (1 ≤ n / 10 → n / 10 ≤ most → figure 1 ≤ get_or (figures most (n / 10)) 0 0)
        → figure 1 ≤ get_or (figures (suc most) n) 0 0
    go (inr l) rest = omega (arith, ap (λ (ds : List ℕ). get_or ds 0 0) (digits_one (suc most) n l))
    go (inl l) rest =
        let front = rest (omega arith) (omega arith) in
        omega (
          arith,
          ap (λ (ds : List ℕ). get_or ds 0 0) (digits_more most n l),
          get_or-append (figures most (n / 10)) (figure (n % 10) ∷ []) 0 0 (digits_some most (n / 10)),
        )

pub decimal_front : (n : ℕ) → 1 ≤ n → figure 1 ≤ get_or (decimal n) 0 0
unfolding decimal
decimal_front n one = digits_front n n one (omega arith)

-- how many digits
pub one_length : (n : ℕ) → n < 10 → length (decimal n) ≡ 1
one_length n h = ap length (decimal_one n h)

pub more_length : (n : ℕ) → 10 ≤ n → length (decimal n) ≡ length (decimal (n / 10)) + 1
more_length n h = ap length (decimal_more n h) ∙ length-append (decimal (n / 10)) (figure (n % 10) ∷ [])

-- a number below 10 to the k has at most k digits
pub decimal_most : (k n : ℕ) → n < 10 ^ suc k → length (decimal n) ≤ suc k
decimal_most zero n h = omega (arith, one_length n (omega arith))
decimal_most (suc k) n h = go (le_or_lt 10 n) (decimal_most k (n / 10))
  where
    go : (10 ≤ n) ⊎ (n < 10) → (n / 10 < 10 ^ suc k → length (decimal (n / 10)) ≤ suc k)
        → length (decimal n) ≤ suc (suc k)
    go (inr l) rest = omega (arith, one_length n l)
    go (inl l) rest =
        let below = subst (λ (m : ℕ). n < m) (pow-suc 10 (suc k)) h in
        let fewer = rest ((div-lt_iff_lt-mul {k = 10} (omega arith)).1 below) in
        omega (arith, more_length n l)
