-- Laws of lists: membership, `any`, `all`, `keep`, `map`, `first_of`, `gather`. Assumes nothing.
use mathlib.Core.Path.{◌≡◌, refl, sym, ◌∙◌, ap, ap₂, subst}
use mathlib.Core.Bool.{Bool, true, false, cond, ◌&&◌, ◌||◌}
use mathlib.Core.Logic.{◌⊎◌, inl, inr}
use mathlib.Core.List.Memᴰ
use mathlib.Core.List.{List, [], ◌∷◌, ◌++◌, map}
use mathlib.Core.List.{append_assoc}
use mathlib.Core.Option.{Option, none, some}
use Prim.Native.Nat.{ℕ, zero, suc, ◌+◌, ◌≤◌, ◌<◌}
use native.Mathlib.Omega.{arith}
use lib.Dec.{T}
use lib.ListN.{length}
use Rattle.covering.specs.Lists.{◌∈◌, Distinct, any, all, keep, is_some, or_else, first_of, gather, numbers}
use Rattle.covering.proofs.Tests.{fst_of, snd_of, both, or_left, or_right, or_cases, none≢some, cond_yes}

-- what has a member is not empty, and what is not empty has one
pub in_some : {A : Type 0} {a : A} (l : List A) → a ∈ l → 1 ≤ length l
in_some [] m = absurd (Memᴰ.not-nil m)
in_some (x ∷ l) m = omega arith

pub first_in : {A : Type 0} (l : List A) → 1 ≤ length l → (a : A) × (a ∈ l)
first_in [] h = absurd (omega arith)
first_in (a ∷ l) h = (a, Memᴰ.head refl)

module _ {A : Type 0} where
  -- any and all
  pub any_in : (p : A → Bool) {x : A} (l : List A) → x ∈ l → T (p x) → T (any p l)
  any_in p l (Memᴰ.head {x = y} {xs = ys} e) t = or_left (p y) (any p ys) (subst (λ (z : A). T (p z)) e t)
  any_in p l (Memᴰ.tail {x = y} {xs = ys} m) t = or_right (p y) (any p ys) (any_in p ys m t)

  pub any_out : (p : A → Bool) (l : List A) → T (any p l) → (x : A) × (x ∈ l) × T (p x)
  any_out p [] t = absurd t
  any_out p (x ∷ xs) t = go (or_cases (p x) (any p xs) t) (λ u. any_out p xs u)
    where
      go : T (p x) ⊎ T (any p xs) → (T (any p xs) → (y : A) × (y ∈ xs) × T (p y)) → (y : A) × (y ∈ x ∷ xs) × T (p y)
      go (inl u) below = (x, Memᴰ.head refl, u)
      go (inr u) below = let r = below u in (r.0, Memᴰ.tail r.1, r.2)

  pub any_same : (p q : A → Bool) (l : List A) → ((x : A) → p x ≡ q x) → any p l ≡ any q l
  any_same p q [] h = refl
  any_same p q (x ∷ xs) h = ap₂ ◌||◌ (h x) (any_same p q xs h)

  pub all_out : (p : A → Bool) {x : A} (l : List A) → T (all p l) → x ∈ l → T (p x)
  all_out p l t (Memᴰ.head {x = y} {xs = ys} e) =
      subst (λ (z : A). T (p z)) (sym e) (fst_of (p y) (all p ys) t)
  all_out p l t (Memᴰ.tail {x = y} {xs = ys} m) = all_out p ys (snd_of (p y) (all p ys) t) m

  pub all_in : (p : A → Bool) (l : List A) → ((x : A) → x ∈ l → T (p x)) → T (all p l)
  all_in p [] f = tt
  all_in p (x ∷ xs) f =
      both (p x) (all p xs) (f x (Memᴰ.head refl)) (all_in p xs (λ y m. f y (Memᴰ.tail m)))

  pub all_same : (p q : A → Bool) (l : List A) → ((x : A) → x ∈ l → p x ≡ q x) → all p l ≡ all q l
  all_same p q [] h = refl
  all_same p q (x ∷ xs) h =
      ap₂ ◌&&◌ (h x (Memᴰ.head refl)) (all_same p q xs (λ y m. h y (Memᴰ.tail m)))

  -- keep
  kept_head : (b : Bool) (x y : A) (r : List A) → y ≡ x → T b → y ∈ cond b (x ∷ r) r
  kept_head true x y r e t = Memᴰ.head e
  kept_head false x y r e t = absurd t

  kept_tail : (b : Bool) (x y : A) (r : List A) → y ∈ r → y ∈ cond b (x ∷ r) r
  kept_tail true x y r m = Memᴰ.tail m
  kept_tail false x y r m = m

  kept_cases : (b : Bool) (x y : A) (r : List A) → y ∈ cond b (x ∷ r) r → ((y ≡ x) × T b) ⊎ (y ∈ r)
  kept_cases true x y r (Memᴰ.head e) = inl (e, tt)
  kept_cases true x y r (Memᴰ.tail m) = inr m
  kept_cases false x y r m = inr m

  pub keep_in : (p : A → Bool) {x : A} (l : List A) → x ∈ l → T (p x) → x ∈ keep p l
  keep_in p {x} l (Memᴰ.head {x = y} {xs = ys} e) t =
      kept_head (p y) y x (keep p ys) e (subst (λ (z : A). T (p z)) e t)
  keep_in p {x} l (Memᴰ.tail {x = y} {xs = ys} m) t = kept_tail (p y) y x (keep p ys) (keep_in p ys m t)

  pub keep_out : (p : A → Bool) {x : A} (l : List A) → x ∈ keep p l → (x ∈ l) × T (p x)
  keep_out p [] m = absurd (Memᴰ.not-nil m)
  keep_out p {x} (y ∷ ys) m = go (kept_cases (p y) y x (keep p ys) m) (λ u. keep_out p ys u)
    where
      go : ((x ≡ y) × T (p y)) ⊎ (x ∈ keep p ys) → (x ∈ keep p ys → (x ∈ ys) × T (p x)) → (x ∈ y ∷ ys) × T (p x)
      go (inl h) below = (Memᴰ.head h.0, subst (λ (z : A). T (p z)) (sym h.0) h.1)
      go (inr u) below = (Memᴰ.tail (below u).0, (below u).1)

  pub keep_all : (p : A → Bool) (l : List A) → ((x : A) → x ∈ l → T (p x)) → keep p l ≡ l
  keep_all p [] h = refl
  keep_all p (x ∷ xs) h =
      cond_yes (p x) (x ∷ keep p xs) (keep p xs) (h x (Memᴰ.head refl))
      ∙ ap (λ (r : List A). x ∷ r) (keep_all p xs (λ y m. h y (Memᴰ.tail m)))

  pub keep_same : (p q : A → Bool) (l : List A) → ((x : A) → x ∈ l → p x ≡ q x) → keep p l ≡ keep q l
  keep_same p q [] h = refl
  keep_same p q (x ∷ xs) h =
      ap₂
      (λ (b : Bool) (r : List A). cond b (x ∷ r) r)
      (h x (Memᴰ.head refl))
      (keep_same p q xs (λ y m. h y (Memᴰ.tail m)))

  pub keep_distinct : (p : A → Bool) (l : List A) → Distinct l → Distinct (keep p l)
  keep_distinct p [] d = d
  keep_distinct p (x ∷ xs) d = go (p x) (keep_distinct p xs d.1)
    where
      go : (b : Bool) → Distinct (keep p xs) → Distinct (cond b (x ∷ keep p xs) (keep p xs))
      go true k = ((λ m. d.0 (keep_out p xs m).0), k)
      go false k = k

module _ {A B : Type 0} where
  pub map_same : (f g : A → B) (l : List A) → ((x : A) → x ∈ l → f x ≡ g x) → map f l ≡ map g l
  map_same f g [] h = refl
  map_same f g (x ∷ xs) h = ap₂ ◌∷◌ (h x (Memᴰ.head refl)) (map_same f g xs (λ y m. h y (Memᴰ.tail m)))

  pub map_append : (f : A → B) (s t : List A) → map f (s ++ t) ≡ map f s ++ map f t
  map_append f [] t = refl
  map_append f (x ∷ xs) t = ap (λ (l : List B). f x ∷ l) (map_append f xs t)

  pub map_distinct : (f : A → B) (l : List A) → ((x y : A) → x ∈ l → y ∈ l → f x ≡ f y → x ≡ y)
      → Distinct l → Distinct (map f l)
  map_distinct f [] h d = d
  map_distinct f (x ∷ xs) h d = (
    (λ m. go (Memᴰ.of_map f xs m)),
    map_distinct f xs (λ a b m n. h a b (Memᴰ.tail m) (Memᴰ.tail n)) d.1,
  )
    where
      go : (y : A) × (y ∈ xs) × (f y ≡ f x) → ⊥
      go r =
          d.0
          (Memᴰ.cast (h x r.0 (Memᴰ.head refl) (Memᴰ.tail r.1) (sym r.2)) r.1)

  pub keep_map : (p : B → Bool) (f : A → B) (l : List A) → keep p (map f l) ≡ map f (keep (λ x. p (f x)) l)
  keep_map p f [] = refl
  keep_map p f (x ∷ xs) = go (p (f x)) (keep_map p f xs)
    where
      rest : List A
      rest = keep (λ y. p (f y)) xs

      go : (b : Bool) → keep p (map f xs) ≡ map f rest
          → cond b (f x ∷ keep p (map f xs)) (keep p (map f xs)) ≡ map f (cond b (x ∷ rest) rest)
      go true e = ap (λ (r : List B). f x ∷ r) e
      go false e = e

pub map_none : {A : Type 0} (f : A → A) (l : List A) → ((x : A) → x ∈ l → f x ≡ x) → map f l ≡ l
map_none f [] h = refl
map_none f (x ∷ xs) h = ap₂ ◌∷◌ (h x (Memᴰ.head refl)) (map_none f xs (λ y m. h y (Memᴰ.tail m)))

-- the first that there is
or_else_left : {B : Type 0} (o r : Option B) → T (is_some o) → T (is_some (or_else o r))
or_else_left none r t = absurd t
or_else_left (some a) r t = tt

or_else_right : {B : Type 0} (o r : Option B) → T (is_some r) → T (is_some (or_else o r))
or_else_right none r t = t
or_else_right (some a) r t = tt

module _ {A B : Type 0} where
  -- a search that yields something yields it at some element
  pub first_of_out : (f : A → Option B) (l : List A) {b : B} → first_of f l ≡ some b → (x : A) × (x ∈ l) × (f x ≡ some b)
  first_of_out f [] e = absurd (none≢some e)
  first_of_out f (x ∷ xs) {b} e = go (f x) refl e (λ u. first_of_out f xs u)
    where
      go : (o : Option B) → f x ≡ o → or_else o (first_of f xs) ≡ some b
          → (first_of f xs ≡ some b → (y : A) × (y ∈ xs) × (f y ≡ some b))
          → (y : A) × (y ∈ x ∷ xs) × (f y ≡ some b)
      go none q u below = let r = below u in (r.0, Memᴰ.tail r.1, r.2)
      go (some c) q u below = (x, Memᴰ.head refl, q ∙ u)

  -- and one yields something where some element does
  pub first_of_in : {x : A} (f : A → Option B) (l : List A) → x ∈ l → T (is_some (f x)) → T (is_some (first_of f l))
  first_of_in f l (Memᴰ.head {x = y} {xs = ys} e) t =
      or_else_left (f y) (first_of f ys) (subst (λ (z : A). T (is_some (f z))) e t)
  first_of_in f l (Memᴰ.tail {x = y} {xs = ys} m) t =
      or_else_right (f y) (first_of f ys) (first_of_in f ys m t)

  pub first_of_any : (f : A → Option B) (l : List A) → is_some (first_of f l) ≡ any (λ x. is_some (f x)) l
  first_of_any f [] = refl
  first_of_any f (x ∷ xs) = go (f x) (first_of_any f xs)
    where
      go : (o : Option B) → is_some (first_of f xs) ≡ any (λ y. is_some (f y)) xs
          → is_some (or_else o (first_of f xs)) ≡ is_some o || any (λ y. is_some (f y)) xs
      go none e = e
      go (some b) e = refl

pub some_of : {A : Type 0} (o : Option A) → T (is_some o) → (a : A) × (o ≡ some a)
some_of none t = absurd t
some_of (some a) t = (a, refl)

pub some_is : {A : Type 0} {o : Option A} {a : A} → o ≡ some a → T (is_some o)
some_is e = subst (λ o. T (is_some o)) (sym e) tt

pub none_of : {A : Type 0} (o : Option A) → (T (is_some o) → ⊥) → o ≡ none
none_of none f = refl
none_of (some a) f = absurd (f tt)

-- of two lists one after the other
module _ {A : Type 0} where
  pub keep_append : (p : A → Bool) (l k : List A) → keep p (l ++ k) ≡ keep p l ++ keep p k
  keep_append p [] k = refl
  keep_append p (x ∷ l) k = go (p x) (keep_append p l k)
    where
      go : (b : Bool) → keep p (l ++ k) ≡ keep p l ++ keep p k
          → cond b (x ∷ keep p (l ++ k)) (keep p (l ++ k)) ≡ cond b (x ∷ keep p l) (keep p l) ++ keep p k
      go true e = ap (λ (r : List A). x ∷ r) e
      go false e = e

  pub all_append : (p : A → Bool) (s t : List A) → all p (s ++ t) ≡ all p s && all p t
  all_append p [] t = refl
  all_append p (x ∷ s) t = go (p x) (all_append p s t)
    where
      go : (b : Bool) → all p (s ++ t) ≡ all p s && all p t → b && all p (s ++ t) ≡ (b && all p s) && all p t
      go true e = e
      go false e = refl

  pub any_append : (p : A → Bool) (s t : List A) → any p (s ++ t) ≡ any p s || any p t
  any_append p [] t = refl
  any_append p (x ∷ s) t = go (p x) (any_append p s t)
    where
      go : (b : Bool) → any p (s ++ t) ≡ any p s || any p t → b || any p (s ++ t) ≡ (b || any p s) || any p t
      go true e = refl
      go false e = e

pub gather_append : {A B : Type 0} (f : A → List B) (s t : List A) → gather f (s ++ t) ≡ gather f s ++ gather f t
gather_append f [] t = refl
gather_append {B = B} f (x ∷ s) t =
    ap (λ (l : List B). f x ++ l) (gather_append f s t) ∙ sym (append_assoc (f x) (gather f s) (gather f t))

-- no more are kept than there are
pub keep_few : {A : Type 0} (p : A → Bool) (l : List A) → length (keep p l) ≤ length l
keep_few p [] = omega arith
keep_few p (x ∷ l) = go (p x) (keep_few p l)
  where
    go : (b : Bool) → length (keep p l) ≤ length l → length (cond b (x ∷ keep p l) (keep p l)) ≤ suc (length l)
    go true h = omega arith
    go false h = omega arith

-- n numbers from i on
pub numbers_length : (i n : ℕ) → length (numbers i n) ≡ n
numbers_length i zero = refl
numbers_length i (suc n) = ap suc (numbers_length (suc i) n)

pub numbers_below : (i n x : ℕ) → x ∈ numbers i n → x < i + n
numbers_below i zero x m = absurd (Memᴰ.not-nil m)
numbers_below i (suc n) x m = go (Memᴰ.cases_cons m) (numbers_below (suc i) n x)
  where
    go : (x ≡ i) ⊎ (x ∈ numbers (suc i) n) → (x ∈ numbers (suc i) n → x < suc i + n) → x < i + suc n
    go (inl e) below = omega arith
    go (inr k) below = let h : x < suc i + n = below k in omega arith
