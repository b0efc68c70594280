-- The few operations on lists and options that the definitions are written with.
-- A `let` makes the rest of a list wait until it is asked for: a call's arguments are computed first.
use Rattle.std.specs.Prelude.{Bool, true, false, cond, ◌&&◌, ◌||◌, ℕ, zero, suc}
use mathlib.Core.List.{List, [], ◌∷◌, ◌++◌, Memᴰ}
use Rattle.std.proofs.Math.Option.{Option, none, some}

infix 5 ◌∈◌
abbrev pub ◌∈◌ {ℓ} : {A : Type ℓ} → A → List A → Type ℓ
a ∈ l = Memᴰ a l

-- no element stands twice
abbrev pub Distinct : {A : Type 0} → List A → Type 0
Distinct [] = Unit {0}
Distinct (x ∷ xs) = (¬ (x ∈ xs)) × Distinct xs

module _ {A : Type 0} where
  -- some element, each element passes the test
  abbrev pub any : (A → Bool) → List A → Bool
  any p [] = false
  any p (x ∷ xs) = let r = any p xs in p x || r

  abbrev pub all : (A → Bool) → List A → Bool
  all p [] = true
  all p (x ∷ xs) = let r = all p xs in p x && r

  -- the elements that pass the test, in order
  abbrev pub keep : (A → Bool) → List A → List A
  keep p [] = []
  keep p (x ∷ xs) = let r = keep p xs in cond (p x) (x ∷ r) r

  abbrev pub is_some : Option A → Bool
  is_some none = false
  is_some (some a) = true

  -- the first that there is
  abbrev pub or_else : Option A → Option A → Option A
  or_else none o = o
  or_else (some a) o = some a

  -- the first element of a list
  abbrev pub head : List A → Option A
  head [] = none
  head (x ∷ xs) = some x

  abbrev pub push : Option A → List A → List A
  push none ys = ys
  push (some y) ys = y ∷ ys

module _ {A B : Type 0} where
  abbrev pub bind : Option A → (A → Option B) → Option B
  bind none f = none
  bind (some a) f = f a

  -- what f yields at the first element at which it yields anything
  abbrev pub first_of : (A → Option B) → List A → Option B
  first_of f [] = none
  first_of f (x ∷ xs) = let r = first_of f xs in or_else (f x) r

  -- all that f yields, in order
  abbrev pub collect : (A → Option B) → List A → List B
  collect f [] = []
  collect f (x ∷ xs) = push (f x) (collect f xs)

  abbrev pub gather : (A → List B) → List A → List B
  gather f [] = []
  gather f (x ∷ xs) = f x ++ gather f xs

-- n numbers from i on
abbrev pub numbers : ℕ → ℕ → List ℕ
numbers i zero = []
numbers i (suc n) = i ∷ numbers (suc i) n
