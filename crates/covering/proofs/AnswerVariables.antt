-- Answer places bring no variables: where every answer variable stands in an atom, a form has no more variables than
-- its atoms have places, and they are the numbers below. So eight atoms of four places with a record before them still
-- have their variables below 32. Assumes nothing.
use mathlib.Core.Path.{◌≡◌, refl, sym, ◌∙◌, ap, subst}
use mathlib.Core.Logic.{◌⊎◌, inl, inr}
use mathlib.Core.List.Memᴰ
use mathlib.Core.List.{List, [], ◌∷◌, map}
use Prim.Native.Nat.{ℕ, zero, suc, ◌+◌, ◌*◌, ◌≤◌, ◌<◌}
use native.Mathlib.Nat.{mul-le-mul_right}
use native.Mathlib.Omega.{arith}
use lib.ListN.{length, length-map}
use Rattle.covering.specs.Lists.{◌∈◌, Distinct, numbers}
use Rattle.covering.specs.Term.{Term, var, Atom, Question, Below, Sub, on_term, terms}
use Rattle.covering.specs.Form.{dedup, firsts, numbering, form}
use Rattle.covering.specs.Asking.{Asking, joined, asking, NoRecord, Stands, Shaped}
use Rattle.covering.proofs.Lists.{numbers_length, numbers_below}
use Rattle.covering.proofs.Form.{firsts_in, firsts_out, form_numbered}
use Rattle.covering.proofs.SameForm.{form_form}
use Rattle.covering.proofs.FormSizes.{firsts_few, terms_few}
use Rattle.covering.proofs.Asked.{after_terms}
use Rattle.covering.proofs.Shaped.{shaped_form, formed_few, formed_atom}

-- lists: a list without one of its elements
record Without {A : Type 0} (x : A) (l : List A) : Type 0 where
  others : List A
  fewer : length l ≡ suc (length others)
  stay : (y : A) → y ∈ l → (y ≡ x) ⊎ (y ∈ others)

without : {A : Type 0} (x : A) (l : List A) → x ∈ l → Without x l
without {A} x l (Memᴰ.head {x = z} {xs = zs} e) =
    record { others = zs; fewer = refl; stay = λ y m. at y (Memᴰ.cases_cons m) }
  where
    at : (y : A) → (y ≡ z) ⊎ (y ∈ zs) → (y ≡ x) ⊎ (y ∈ zs)
    at y (inl q) = inl (q ∙ sym e)
    at y (inr k) = inr k
without {A} x l (Memᴰ.tail {x = z} {xs = zs} m) =
    let w = without x zs m in
    record {
      others = z ∷ w.others;
      fewer = ap suc w.fewer;
      stay = λ y k. at y w.stay (Memᴰ.cases_cons k);
    }
  where
    at : (y : A) {os : List A} → ((y : A) → y ∈ zs → (y ≡ x) ⊎ (y ∈ os)) → (y ≡ z) ⊎ (y ∈ zs)
        → (y ≡ x) ⊎ (y ∈ z ∷ os)
    at y f (inl q) = inr (Memᴰ.head q)
    at y {os} f (inr k) = more (f y k)
      where
        more : (y ≡ x) ⊎ (y ∈ os) → (y ≡ x) ⊎ (y ∈ z ∷ os)
        more (inl q) = inl q
        more (inr n) = inr (Memᴰ.tail n)

-- lists: what stands once each in another list is no more than that has
pub distinct_few : {A : Type 0} (l m : List A) → Distinct l → ((x : A) → x ∈ l → x ∈ m) → length l ≤ length m
distinct_few [] m d h = omega arith
distinct_few {A} (x ∷ l) m d h =
    let w = without x m (h x (Memᴰ.head refl)) in
    let r : length l ≤ length w.others =
    distinct_few l w.others d.1 (λ y k. at y k (w.stay y (h y (Memᴰ.tail k)))) in
    omega (arith, w.fewer)
  where
    at : (y : A) {os : List A} → y ∈ l → (y ≡ x) ⊎ (y ∈ os) → y ∈ os
    at y k (inl e) = absurd (d.0 (Memᴰ.cast (sym e) k))
    at y k (inr n) = n

-- lists: numbers from i on are at least i, and none stands twice
numbers_from : (i n x : ℕ) → x ∈ numbers i n → i ≤ x
numbers_from i zero x m = absurd (Memᴰ.not-nil m)
numbers_from i (suc n) x m = at (Memᴰ.cases_cons m) (numbers_from (suc i) n x)
  where
    at : (x ≡ i) ⊎ (x ∈ numbers (suc i) n) → (x ∈ numbers (suc i) n → suc i ≤ x) → i ≤ x
    at (inl e) below = omega arith
    at (inr k) below = let h : suc i ≤ x = below k in omega arith

numbers_distinct : (i n : ℕ) → Distinct (numbers i n)
numbers_distinct i zero = tt
numbers_distinct i (suc n) = (
  (λ m. let h : suc i ≤ i = numbers_from (suc i) n i m in omega arith),
  numbers_distinct (suc i) n,
)

-- every variable of the question stands in an atom after the record
pub shaped_variable : {n : ℕ} {M : Question} → Shaped n M → (x : ℕ) → var x ∈ terms M → var x ∈ terms (asking M).atoms
shaped_variable {n} {M} s x m =
    at
    (Memᴰ.append_cases (asking M).answer
    (subst (λ (l : List Term). var x ∈ l)
    (ap terms (sym s.is) ∙ after_terms (asking M).answer (asking M).atoms)
    m))
  where
    at : (var x ∈ (asking M).answer) ⊎ (var x ∈ terms (asking M).atoms) → var x ∈ terms (asking M).atoms
    at (inl k) = s.stands x k
    at (inr k) = k

-- the variables of a form of such a shape are below the number of its atoms' places
pub shaped_below : {n : ℕ} {M : Question} → Shaped n M → form M ≡ M → Below (length (terms (asking M).atoms)) M
shaped_below {n} {M} s e x m =
    let here : x ∈ numbers 0 count = subst (λ (l : List ℕ). x ∈ l) numbered (firsts_in (terms M) x m) in
    let low : x < 0 + count = numbers_below 0 count x here in
    let long : length (firsts (terms M)) ≡ count = ap length numbered ∙ numbers_length 0 count in
    let fewer : length (firsts (terms M)) ≤ length (firsts inner) =
    distinct_few (firsts (terms M)) (firsts inner)
    (subst Distinct (sym numbered) (numbers_distinct 0 count))
    (λ y k. firsts_in inner y (shaped_variable s y (firsts_out (terms M) y k))) in
    let most : length (firsts inner) ≤ length inner = firsts_few inner in
    omega arith
  where
    inner : List Term
    inner = terms (asking M).atoms

    count : ℕ
    count = length (firsts (terms (dedup M)))

    numbered : firsts (terms M) ≡ numbers 0 count
    numbered = ap (λ (A : Question). firsts (terms A)) (sym e) ∙ form_numbered M

-- with a bound on the atoms after the record and on their places, as `in_form_below` has it for all of them
pub shaped_form_below : {n : ℕ} (m p : ℕ) {M : Question} → Shaped n M → form M ≡ M → length (asking M).atoms ≤ m
    → ((a : Atom) → a ∈ (asking M).atoms → length a.args ≤ p) → Below (m * p) M
shaped_form_below m p {M} s e short narrow x k =
    let low : x < length (terms (asking M).atoms) = shaped_below s e x k in
    let one : length (terms (asking M).atoms) ≤ length (asking M).atoms * p = terms_few p (asking M).atoms narrow in
    let two : length (asking M).atoms * p ≤ m * p = mul-le-mul_right p short in
    omega arith

-- so of the form of a question
pub form_joined_below : (m p : ℕ) (q : Asking) → NoRecord q.atoms → Stands q → length q.atoms ≤ m
    → ((a : Atom) → a ∈ q.atoms → length a.args ≤ p) → Below (m * p) (form (joined q))
form_joined_below m p q f s short narrow =
    shaped_form_below m p (shaped_form q f s) (form_form (joined q))
    (omega (arith, formed_few q f))
    (λ a k.
    let b = formed_atom q f a k in
    let same : length (map (on_term ν) b.0.args) ≡ length a.args =
    ap (λ (c : Atom). length c.args) b.2 in
    omega (arith, length-map b.0.args (on_term ν), narrow b.0 b.1))
  where
    ν : Sub
    ν = numbering (dedup (joined q))
