-- The choices' numbers, in order, are 0, 1, .. up to (h + 1)^n: "Choices go in ascending order as numbers in base h
-- + 1, the first atom being the most significant digit." So a choice's place in the list is its number
-- (`choice_number`), and the rewritings are listed with ascending numbers (`listed_ascending`). Assumes nothing.
use mathlib.Core.Path.{◌≡◌, refl, sym, ◌∙◌, ap, ap₂, subst}
use mathlib.Core.Bool.{Bool, true, false, cond}
use mathlib.Core.Logic.{◌⊎◌, inl, inr}
use mathlib.Core.List.Memᴰ
use mathlib.Core.List.{List, [], ◌∷◌, ◌++◌, map, map-map}
use mathlib.Core.Option.{Option, some, some-injective, none}
use Prim.Native.Nat.{ℕ, zero, suc, ◌+◌, ◌<◌, ◌≤◌, ◌*◌}
use native.Mathlib.Nat.{suc-mul, zero-mul, pow-succ', pow-zero}
use native.Mathlib.Omega.{arith}
use lib.ListN.{length, get_elem?}
use Rattle.covering.specs.Lists.{◌∈◌, keep, push, collect, gather, numbers}
use Rattle.covering.specs.Term.{Question}
use Rattle.covering.proofs.Lists.{keep_out, map_same, numbers_below}
use Rattle.covering.proofs.Tests.{none≢some}
use Rattle.covering.specs.Rule.{Rule}
use Rattle.unification.specs.Choice.{Choice, count, number, choices, Ascending, some_sent}
use Rattle.unification.specs.Step.{step, label, listed}
use Rattle.unification.proofs.Collected.{collect_out, gather_out, gather_same, map_gather}
use Rattle.unification.proofs.Listed.{label_out}

pub count_suc : (h n : ℕ) → count h (suc n) ≡ suc h * count h n
count_suc h n = pow-succ' (suc h) n

numbers_append : (i m n : ℕ) → numbers i (m + n) ≡ numbers i m ++ numbers (i + m) n
numbers_append i zero n =
    let none : 0 + n ≡ n = omega arith in
    let start : i ≡ i + 0 = omega arith in
    ap₂ numbers start none
numbers_append i (suc m) n =
    let more : suc m + n ≡ suc (m + n) = omega arith in
    let start : suc i + m ≡ i + suc m = omega arith in
    ap (numbers i) more
    ∙ ap (λ (l : List ℕ). i ∷ l) (numbers_append (suc i) m n)
    ∙ ap (λ (x : ℕ). i ∷ (numbers (suc i) m ++ numbers x n)) start

numbers_shift : (d i n : ℕ) → map (λ x. d + x) (numbers i n) ≡ numbers (d + i) n
numbers_shift d i zero = refl
numbers_shift d i (suc n) =
    let start : d + suc i ≡ suc (d + i) = omega arith in
    ap (λ (l : List ℕ). (d + i) ∷ l) (numbers_shift d (suc i) n ∙ ap (λ (x : ℕ). numbers x n) start)

-- blocks of c numbers, one after the other
numbers_blocks : (c i m : ℕ) → gather (λ d. numbers (d * c) c) (numbers i m) ≡ numbers (i * c) (m * c)
numbers_blocks c i zero = ap (numbers (i * c)) (sym (zero-mul c))
numbers_blocks c i (suc m) =
    let one : suc i * c ≡ i * c + c = suc-mul i c in
    let turned : m * c + c ≡ c + m * c = omega arith in
    let more : suc m * c ≡ c + m * c = suc-mul m c ∙ turned in
    ap (λ (l : List ℕ). numbers (i * c) c ++ l) (numbers_blocks c (suc i) m ∙ ap (λ (x : ℕ). numbers x (m * c)) one)
    ∙ sym (numbers_append (i * c) c (m * c))
    ∙ ap (numbers (i * c)) (sym more)

pub choice_length : (h n : ℕ) (ds : Choice) → ds ∈ choices h n → length ds ≡ n
choice_length h zero ds (Memᴰ.tail x5) = elim x5 [ ]
choice_length h zero ds (Memᴰ.head e) = ap length e
choice_length h (suc n) ds m =
    go (gather_out (λ d. map (λ es. d ∷ es) (choices h n)) (numbers 0 (suc h)) m) (choice_length h n)
  where
    at : (d : ℕ) → (es : Choice) × (es ∈ choices h n) × (d ∷ es ≡ ds)
        → ((es : Choice) → es ∈ choices h n → length es ≡ n) → length ds ≡ suc n
    at d x below = ap length (sym x.2) ∙ ap suc (below x.0 x.1)

    go : (d : ℕ) × (d ∈ numbers 0 (suc h)) × (ds ∈ map (λ es. d ∷ es) (choices h n))
        → ((es : Choice) → es ∈ choices h n → length es ≡ n) → length ds ≡ suc n
    go x below = at x.0 (Memᴰ.of_map (λ es. x.0 ∷ es) (choices h n) x.2) below

pub choices_numbers : (h n : ℕ) → map (number h) (choices h n) ≡ numbers 0 (count h n)
choices_numbers h zero = ap (numbers 0) (sym (pow-zero (suc h)))
choices_numbers h (suc n) =
    map_gather (number h) (λ d. map (λ es. d ∷ es) (choices h n)) (numbers 0 (suc h))
    ∙ gather_same _ _ (numbers 0 (suc h)) (one (choices_numbers h n))
    ∙ numbers_blocks (count h n) 0 (suc h)
    ∙ ap₂ numbers (zero-mul (count h n)) (sym (count_suc h n))
  where
    one : map (number h) (choices h n) ≡ numbers 0 (count h n) → (d : ℕ)
        → map (number h) (map (λ es. d ∷ es) (choices h n)) ≡ numbers (d * count h n) (count h n)
    one below d =
        let start : d * count h n + 0 ≡ d * count h n = omega arith in
        map-map (number h) (λ es. d ∷ es) (choices h n)
        ∙ map_same _ (λ es. d * count h n + number h es) (choices h n)
        (λ es m. ap (λ (x : ℕ). d * count h x + number h es) (choice_length h n es m))
        ∙ sym (map-map (λ x. d * count h n + x) (number h) (choices h n))
        ∙ ap (map (λ x. d * count h n + x)) below
        ∙ numbers_shift (d * count h n) 0 (count h n)
        ∙ ap (λ (x : ℕ). numbers x (count h n)) start

-- a choice stands at the place of its number
numbers_at : (i n j x : ℕ) → get_elem? (numbers i n) j ≡ some x → x ≡ i + j
numbers_at i zero j x e = absurd (none≢some e)
numbers_at i (suc n) zero x e = let q : i ≡ x = some-injective i x e in omega arith
numbers_at i (suc n) (suc j) x e = let q : x ≡ suc i + j = numbers_at (suc i) n j x e in omega arith

member_at : {A : Type 0} {x : A} (l : List A) → x ∈ l → (i : ℕ) × (get_elem? l i ≡ some x)
member_at l (Memᴰ.head {x = y} {xs = ys} e) = (0, ap some (sym e))
member_at l (Memᴰ.tail {x = y} {xs = ys} m) = let r = member_at ys m in (suc r.0, r.1)

mapped_at : {A B : Type 0} (f : A → B) (l : List A) (i : ℕ) (x : A) → get_elem? l i ≡ some x
    → get_elem? (map f l) i ≡ some (f x)
mapped_at f [] i x e = absurd (none≢some e)
mapped_at f (y ∷ l) zero x e = ap (λ z. some (f z)) (some-injective y x e)
mapped_at f (y ∷ l) (suc i) x e = mapped_at f l i x e

pub choice_number : (h n : ℕ) (ds : Choice) → ds ∈ choices h n → get_elem? (choices h n) (number h ds) ≡ some ds
choice_number h n ds m =
    let r = member_at (choices h n) m in
    let at : get_elem? (numbers 0 (count h n)) r.0 ≡ some (number h ds) =
    ap (λ (l : List ℕ). get_elem? l r.0) (sym (choices_numbers h n))
    ∙ mapped_at (number h) (choices h n) r.0 ds r.1 in
    let same : number h ds ≡ 0 + r.0 = numbers_at 0 (count h n) r.0 (number h ds) at in
    let place : number h ds ≡ r.0 = omega arith in
    ap (get_elem? (choices h n)) place ∙ r.1

pub number_below : (h n : ℕ) (ds : Choice) → ds ∈ choices h n → number h ds < count h n
number_below h n ds m =
    let k : number h ds < 0 + count h n =
    numbers_below 0 (count h n) (number h ds)
    (subst (λ (l : List ℕ). number h ds ∈ l) (choices_numbers h n) (Memᴰ.map (number h) m)) in
    omega arith

-- ascending lists
numbers_from : (i n x : ℕ) → x ∈ numbers i n → i ≤ x
numbers_from i zero x m = absurd (Memᴰ.not-nil m)
numbers_from i (suc n) x m = go (Memᴰ.cases_cons m) (numbers_from (suc i) n x)
  where
    go : (x ≡ i) ⊎ (x ∈ numbers (suc i) n) → (x ∈ numbers (suc i) n → suc i ≤ x) → i ≤ x
    go (inl e) below = omega arith
    go (inr k) below = let h : suc i ≤ x = below k in omega arith

numbers_ascending : (i n : ℕ) → Ascending (numbers i n)
numbers_ascending i zero = tt
numbers_ascending i (suc n) = ((λ m k. numbers_from (suc i) n m k), numbers_ascending (suc i) n)

module _ {A : Type 0} (num : A → ℕ) where
  keep_ascending : (p : A → Bool) (l : List A) → Ascending (map num l) → Ascending (map num (keep p l))
  keep_ascending p [] h = h
  keep_ascending p (x ∷ xs) h = go (p x) (keep_ascending p xs h.1)
    where
      past : (m : ℕ) → (y : A) × (y ∈ keep p xs) × (num y ≡ m) → num x < m
      past m y = h.0 m (Memᴰ.cast (sym y.2) (Memᴰ.map num (keep_out p xs y.1).0))

      go : (b : Bool) → Ascending (map num (keep p xs)) → Ascending (map num (cond b (x ∷ keep p xs) (keep p xs)))
      go true below = ((λ m k. past m (Memᴰ.of_map num (keep p xs) k)), below)
      go false below = below

  module _ {X : Type 0} (f : A → Option X) where
    abbrev labelled : A → Option (ℕ × X)
    labelled a = label (num a) (f a)

    labelled_number : (l : List A) (e : ℕ × X) → e ∈ collect labelled l → e.0 ∈ map num l
    labelled_number l e m = go (collect_out labelled l m)
      where
        go : (a : A) × (a ∈ l) × (labelled a ≡ some e) → e.0 ∈ map num l
        go x = Memᴰ.cast (sym (label_out (f x.0) x.2).0) (Memᴰ.map num x.1)

    collect_ascending : (l : List A) → Ascending (map num l) → Ascending (map (λ e. e.0) (collect labelled l))
    collect_ascending [] h = h
    collect_ascending (x ∷ xs) h = go (f x) (collect_ascending xs h.1)
      where
        past : (m : ℕ) → (e : ℕ × X) × (e ∈ collect labelled xs) × (e.0 ≡ m) → num x < m
        past m e = h.0 m (Memᴰ.cast (sym e.2) (labelled_number xs e.0 e.1))

        go : (o : Option X) → Ascending (map (λ e. e.0) (collect labelled xs))
            → Ascending (map (λ e. e.0) (push (label (num x) o) (collect labelled xs)))
        go none below = below
        go (some y) below = ((λ m k. past m (Memᴰ.of_map (λ (e : ℕ × X). e.0) (collect labelled xs) k)), below)

-- the rewritings are listed with ascending numbers
pub listed_ascending : (k : ℕ) (r : Rule) (Q : Question) → Ascending (map (λ e. e.0) (listed k r Q))
unfolding listed
listed_ascending k r Q =
    collect_ascending (number h) (step k r Q) (keep some_sent C)
    (keep_ascending (number h) some_sent C
    (subst Ascending (sym (choices_numbers h (length Q))) (numbers_ascending 0 (count h (length Q)))))
  where
    h : ℕ
    h = length r.head

    C : List Choice
    C = choices h (length Q)

-- ascending lists with the same entries are one list
module _ {X : Type 0} where
  first_least : (e f : ℕ × X) (l : List (ℕ × X)) → Ascending (map (λ e. e.0) (e ∷ l)) → f ∈ e ∷ l
      → (f ≡ e) ⊎ (e.0 < f.0)
  first_least e f l a m = go (Memᴰ.cases_cons m)
    where
      go : (f ≡ e) ⊎ (f ∈ l) → (f ≡ e) ⊎ (e.0 < f.0)
      go (inl q) = inl q
      go (inr k) = inr (a.0 f.0 (Memᴰ.map (λ (x : ℕ × X). x.0) k))

  pub ascending_same : (l m : List (ℕ × X)) → Ascending (map (λ e. e.0) l) → Ascending (map (λ e. e.0) m)
      → ((e : ℕ × X) → e ∈ l → e ∈ m) → ((e : ℕ × X) → e ∈ m → e ∈ l) → l ≡ m
  ascending_same [] [] a b f g = refl
  ascending_same [] (y ∷ m) a b f g = absurd (Memᴰ.not-nil (g y (Memᴰ.head refl)))
  ascending_same (x ∷ l) [] a b f g = absurd (Memᴰ.not-nil (f x (Memᴰ.head refl)))
  ascending_same (x ∷ l) (y ∷ m) a b f g =
      ap₂ ◌∷◌ heads
      (ascending_same l m a.1 b.1
      (λ e k. rest x y l m heads a e k (f e (Memᴰ.tail k)))
      (λ e k. rest y x m l (sym heads) b e k (g e (Memᴰ.tail k))))
    where
      heads : x ≡ y
      heads = go (first_least y x m b (f x (Memᴰ.head refl))) (first_least x y l a (g y (Memᴰ.head refl)))
        where
          go : (x ≡ y) ⊎ (y.0 < x.0) → (y ≡ x) ⊎ (x.0 < y.0) → x ≡ y
          go (inl e) q = e
          go (inr h) (inl e) = sym e
          go (inr h) (inr k) = absurd (omega arith)

      rest : (x y : ℕ × X) (l m : List (ℕ × X)) → x ≡ y → Ascending (map (λ e. e.0) (x ∷ l)) → (e : ℕ × X)
          → e ∈ l → e ∈ y ∷ m → e ∈ m
      rest x y l m q a e k n = go (Memᴰ.cases_cons n)
        where
          go : (e ≡ y) ⊎ (e ∈ m) → e ∈ m
          go (inl h) =
              let less : x.0 < e.0 = a.0 e.0 (Memᴰ.map (λ (z : ℕ × X). z.0) k) in
              let same : e.0 ≡ x.0 = ap (λ (z : ℕ × X). z.0) (h ∙ sym q) in
              absurd (omega arith)
          go (inr h) = h

  -- and each number stands in one entry
  pub ascending_one : (l : List (ℕ × X)) → Ascending (map (λ e. e.0) l) → (e f : ℕ × X) → e ∈ l → f ∈ l
      → e.0 ≡ f.0 → e ≡ f
  ascending_one [] a e f m n q = absurd (Memᴰ.not-nil m)
  ascending_one (x ∷ l) a e f m n q =
      go (Memᴰ.cases_cons m) (Memᴰ.cases_cons n) (λ u v. ascending_one l a.1 e f u v q)
    where
      past : (g : ℕ × X) → g ∈ l → x.0 < g.0
      past g u = a.0 g.0 (Memᴰ.map (λ (z : ℕ × X). z.0) u)

      go : (e ≡ x) ⊎ (e ∈ l) → (f ≡ x) ⊎ (f ∈ l) → (e ∈ l → f ∈ l → e ≡ f) → e ≡ f
      go (inl h) (inl k) below = h ∙ sym k
      go (inl h) (inr v) below =
          let less : x.0 < f.0 = past f v in
          let same : e.0 ≡ x.0 = ap (λ (z : ℕ × X). z.0) h in absurd (omega arith)
      go (inr u) (inl k) below =
          let less : x.0 < e.0 = past e u in
          let same : f.0 ≡ x.0 = ap (λ (z : ℕ × X). z.0) k in absurd (omega arith)
      go (inr u) (inr v) below = below u v
