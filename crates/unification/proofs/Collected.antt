-- Laws of lists that are collected and gathered. Assumes nothing.
use mathlib.Core.Path.{◌≡◌, refl, sym, ◌∙◌, ap, ap₂, subst}
use mathlib.Core.Bool.{Bool, true, false, cond, not}
use mathlib.Core.Logic.{◌⊎◌, inl, inr}
use mathlib.Core.List.Memᴰ
use mathlib.Core.List.{List, [], ◌∷◌, ◌++◌, map}
use mathlib.Core.Option.{Option, some, none}
use Prim.Native.Nat.{ℕ, zero, suc, ◌+◌, ◌<◌, ◌≤◌}
use native.Mathlib.Omega.{arith}
use lib.Dec.{T, eqb, eqb→eq, eqb_refl}
use Rattle.covering.specs.Lists.{◌∈◌, keep, or_else, head, push, first_of, collect, gather, numbers}
use Rattle.covering.proofs.Lists.{map_append}
use Rattle.covering.proofs.Tests.{decide, clash}

-- membership in what is collected
pub collect_in : {A B : Type 0} (f : A → Option B) {x : A} {y : B} (l : List A) → x ∈ l → f x ≡ some y
    → y ∈ collect f l
collect_in f {y = y} l (Memᴰ.head {x = z} {xs = zs} e) h = rw (ap f (sym e) ∙ h) (Memᴰ.head refl)
collect_in f {y = y} l (Memᴰ.tail {x = z} {xs = zs} m) h = go (f z) (collect_in f zs m h)
  where
    go : (o : Option _) → y ∈ collect f zs → y ∈ push o (collect f zs)
    go none n = n
    go (some w) n = Memᴰ.tail n

pub collect_out : {A B : Type 0} (f : A → Option B) {y : B} (l : List A) → y ∈ collect f l
    → (x : A) × (x ∈ l) × (f x ≡ some y)
collect_out f [] m = absurd (Memᴰ.not-nil m)
collect_out {A} {B} f {y} (z ∷ zs) m = go (f z) refl m (λ n. collect_out f zs n)
  where
    lift : (x : A) × (x ∈ zs) × (f x ≡ some y) → (x : A) × (x ∈ z ∷ zs) × (f x ≡ some y)
    lift h = (h.0, Memᴰ.tail h.1, h.2)

    go : (o : Option B) → f z ≡ o → y ∈ push o (collect f zs)
        → (y ∈ collect f zs → (x : A) × (x ∈ zs) × (f x ≡ some y)) → (x : A) × (x ∈ z ∷ zs) × (f x ≡ some y)
    go none e n below = lift (below n)
    go (some w) e (Memᴰ.head q) below = (z, Memᴰ.head refl, e ∙ ap some (sym q))
    go (some w) e (Memᴰ.tail n) below = lift (below n)

pub gather_in : {A B : Type 0} (f : A → List B) {x : A} {y : B} (l : List A) → x ∈ l → y ∈ f x → y ∈ gather f l
gather_in f {y = y} l (Memᴰ.head {x = z} {xs = zs} e) m =
    Memᴰ.append_left (gather f zs) (subst (λ w. y ∈ f w) e m)
gather_in f l (Memᴰ.tail {x = z} {xs = zs} n) m = Memᴰ.append_right (f z) (gather_in f zs n m)

pub numbers_in : (i n d : ℕ) → i ≤ d → d < i + n → d ∈ numbers i n
numbers_in i zero d h k = absurd (omega arith)
numbers_in i (suc n) d h k = go (decide (eqb d i)) (λ u v. numbers_in (suc i) n d u v)
  where
    go : T (eqb d i) ⊎ T (not (eqb d i)) → (suc i ≤ d → d < suc i + n → d ∈ numbers (suc i) n)
        → d ∈ i ∷ numbers (suc i) n
    go (inl t) below = Memᴰ.head (eqb→eq d i t)
    go (inr t) below =
        let ne : d ≡ i → ⊥ = λ e. clash (eqb d i) (subst (λ (x : ℕ). T (eqb d x)) e (eqb_refl d)) t in
        Memᴰ.tail (below (omega arith) (omega arith))

module _ {A B : Type 0} where
  pub gather_out : (f : A → List B) {y : B} (l : List A) → y ∈ gather f l → (x : A) × (x ∈ l) × (y ∈ f x)
  gather_out f [] m = absurd (Memᴰ.not-nil m)
  gather_out f {y} (z ∷ zs) m = go (Memᴰ.append_cases (f z) m) (λ n. gather_out f zs n)
    where
      go : (y ∈ f z) ⊎ (y ∈ gather f zs) → (y ∈ gather f zs → (x : A) × (x ∈ zs) × (y ∈ f x))
          → (x : A) × (x ∈ z ∷ zs) × (y ∈ f x)
      go (inl n) below = (z, Memᴰ.head refl, n)
      go (inr n) below = let r = below n in (r.0, Memᴰ.tail r.1, r.2)

  pub gather_same : (f g : A → List B) (xs : List A) → ((x : A) → f x ≡ g x) → gather f xs ≡ gather g xs
  gather_same f g [] h = refl
  gather_same f g (x ∷ xs) h = ap₂ ◌++◌ (h x) (gather_same f g xs h)

pub map_gather : {A B C : Type 0} (f : B → C) (g : A → List B) (l : List A)
    → map f (gather g l) ≡ gather (λ x. map f (g x)) l
map_gather f g [] = refl
map_gather {A} {B} {C} f g (x ∷ l) =
    map_append f (g x) (gather g l) ∙ ap (λ (r : List C). map f (g x) ++ r) (map_gather f g l)

-- what passes a test
abbrev pub passing : {B : Type 0} → (B → Bool) → Option B → Option B
passing p none = none
passing p (some b) = cond (p b) (some b) none

-- what is pushed, collected, kept and gathered
push_append : {B : Type 0} (o : Option B) (xs ys : List B) → push o xs ++ ys ≡ push o (xs ++ ys)
push_append none xs ys = refl
push_append (some b) xs ys = refl

module _ {A B : Type 0} where
  collect_append : (f : A → Option B) (xs ys : List A) → collect f (xs ++ ys) ≡ collect f xs ++ collect f ys
  collect_append f [] ys = refl
  collect_append f (x ∷ xs) ys =
      ap (push (f x)) (collect_append f xs ys) ∙ sym (push_append (f x) (collect f xs) (collect f ys))

  pub collect_same : (f g : A → Option B) (xs : List A) → ((x : A) → f x ≡ g x) → collect f xs ≡ collect g xs
  collect_same f g [] h = refl
  collect_same f g (x ∷ xs) h = ap₂ push (h x) (collect_same f g xs h)

  pub collect_none : (xs : List A) → ◌≡◌ {A = List B} (collect (λ x. none) xs) []
  collect_none [] = refl
  collect_none (x ∷ xs) = collect_none xs

  pub collect_keep : (f : A → Option B) (p : A → Bool) (xs : List A)
      → collect f (keep p xs) ≡ collect (λ x. cond (p x) (f x) none) xs
  collect_keep f p [] = refl
  collect_keep f p (x ∷ xs) = go (p x) (collect_keep f p xs)
    where
      go : (b : Bool) → collect f (keep p xs) ≡ collect (λ x. cond (p x) (f x) none) xs
          → collect f (cond b (x ∷ keep p xs) (keep p xs))
          ≡ push (cond b (f x) none) (collect (λ x. cond (p x) (f x) none) xs)
      go true h = ap (push (f x)) h
      go false h = h

  pub keep_collect : (p : B → Bool) (f : A → Option B) (xs : List A)
      → keep p (collect f xs) ≡ collect (λ x. passing p (f x)) xs
  keep_collect p f [] = refl
  keep_collect p f (x ∷ xs) = go (f x) (keep_collect p f xs)
    where
      at : (b : Bool) (y : B) (l : List B) → cond b (y ∷ l) l ≡ push (cond b (some y) none) l
      at true y l = refl
      at false y l = refl

      go : (o : Option B) → keep p (collect f xs) ≡ collect (λ x. passing p (f x)) xs
          → keep p (push o (collect f xs)) ≡ push (passing p o) (collect (λ x. passing p (f x)) xs)
      go none h = h
      go (some y) h = at (p y) y (keep p (collect f xs)) ∙ ap (push (cond (p y) (some y) none)) h

module _ {A B C : Type 0} where
  pub collect_gather : (f : B → Option C) (g : A → List B) (xs : List A)
      → collect f (gather g xs) ≡ gather (λ x. collect f (g x)) xs
  collect_gather f g [] = refl
  collect_gather f g (x ∷ xs) =
      collect_append f (g x) (gather g xs) ∙ ap (λ (l : List C). collect f (g x) ++ l) (collect_gather f g xs)

  pub collect_map : (f : B → Option C) (g : A → B) (xs : List A) → collect f (map g xs) ≡ collect (λ x. f (g x)) xs
  collect_map f g [] = refl
  collect_map f g (x ∷ xs) = ap (push (f (g x))) (collect_map f g xs)

-- the first of what is gathered
head_append : {B : Type 0} (l m : List B) → head (l ++ m) ≡ or_else (head l) (head m)
head_append [] m = refl
head_append (x ∷ l) m = refl

pub head_gather : {A B : Type 0} (f : A → List B) (l : List A) → head (gather f l) ≡ first_of (λ x. head (f x)) l
head_gather f [] = refl
head_gather f (x ∷ l) = head_append (f x) (gather f l) ∙ ap (or_else (head (f x))) (head_gather f l)

pub first_of_same : {A B : Type 0} (f g : A → Option B) (l : List A) → ((x : A) → x ∈ l → f x ≡ g x)
    → first_of f l ≡ first_of g l
first_of_same f g [] h = refl
first_of_same f g (x ∷ xs) h =
    ap₂ or_else (h x (Memᴰ.head refl)) (first_of_same f g xs (λ y m. h y (Memᴰ.tail m)))

pub first_of_none : {A B : Type 0} (l : List A) → first_of {B = B} (λ x. none) l ≡ none
first_of_none [] = refl
first_of_none (x ∷ xs) = first_of_none xs
