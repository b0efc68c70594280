-- How large a form is: it has no more atoms than the question and no more variables than places, and its variables are
-- the numbers below. Assumes nothing.
use mathlib.Core.Path.{◌≡◌, refl, sym, ◌∙◌, ap, subst}
use mathlib.Core.Bool.{not}
use mathlib.Core.List.Memᴰ
use mathlib.Core.List.{List, [], ◌∷◌}
use Prim.Native.Nat.{ℕ, ◌+◌, ◌*◌, ◌≤◌, ◌<◌}
use native.Mathlib.Nat.{mul-le-mul_right}
use native.Mathlib.Omega.{arith}
use lib.Dec.{eqb}
use lib.ListN.{length, length-append, length-map}
use Rattle.covering.specs.Lists.{◌∈◌, numbers}
use Rattle.covering.specs.Term.{Term, var, con, Atom, Question, Below, on_atom, terms, eq_atom}
use Rattle.covering.specs.Form.{dedup, firsts, numbering, form}
use Rattle.covering.proofs.Lists.{keep_few, numbers_length, numbers_below}
use Rattle.covering.proofs.Form.{dedup_out, firsts_in, form_numbered}

-- equal atoms dropped
pub dedup_few : (A : Question) → length (dedup A) ≤ length A
dedup_few [] = omega arith
dedup_few (a ∷ A) = let h = keep_few (λ b. not (eq_atom a b)) (dedup A) in omega (arith, dedup_few A)

pub dedup_some : (A : Question) → 1 ≤ length A → 1 ≤ length (dedup A)
dedup_some [] h = h
dedup_some (a ∷ A) h = omega arith

-- variables are no more than terms, and terms no more than places
pub firsts_few : (ts : List Term) → length (firsts ts) ≤ length ts
firsts_few [] = omega arith
firsts_few (var n ∷ ts) =
    let h = keep_few (λ m. not (eqb n m)) (firsts ts) in omega (arith, firsts_few ts)
firsts_few (con c ∷ ts) = omega (arith, firsts_few ts)

pub terms_few : (w : ℕ) (A : Question) → ((a : Atom) → a ∈ A → length a.args ≤ w) → length (terms A) ≤ length A * w
terms_few w [] h = omega arith
terms_few w (a ∷ A) h =
    rw (length-append a.args (terms A))
    (omega (arith, h a (Memᴰ.head refl), terms_few w A (λ b m. h b (Memᴰ.tail m))))

-- the form
pub form_length : (A : Question) → length (form A) ≤ length A
unfolding form
form_length A =
    subst (λ (n : ℕ). n ≤ length A)
    (sym (length-map (dedup A) (on_atom (numbering (dedup A))))) (dedup_few A)

pub form_atom : (A : Question) (a : Atom) → a ∈ form A → (b : Atom) × (b ∈ A) × (on_atom (numbering (dedup A)) b ≡ a)
unfolding form
form_atom A a m =
    let x = Memᴰ.of_map (on_atom (numbering (dedup A))) (dedup A) m in (x.0, dedup_out A x.0 x.1, x.2)

pub form_below : (A : Question) → Below (length (terms (form A))) (form A)
form_below A n m =
    let count : ℕ = length (firsts (terms (dedup A))) in
    let here : n ∈ numbers 0 count =
    subst (λ (l : List ℕ). n ∈ l) (form_numbered A) (firsts_in (terms (form A)) n m) in
    let low : n < 0 + count = numbers_below 0 count n here in
    let long : length (firsts (terms (form A))) ≡ count = ap length (form_numbered A) ∙ numbers_length 0 count in
    let most : length (firsts (terms (form A))) ≤ length (terms (form A)) = firsts_few (terms (form A)) in
    omega arith

-- a question in form of at most m atoms with at most p places has its variables below m x p
pub in_form_below : (m p : ℕ) (Q : Question) → form Q ≡ Q → length Q ≤ m
    → ((a : Atom) → a ∈ Q → length a.args ≤ p) → Below (m * p) Q
in_form_below m p Q e short narrow n h =
    let low : n < length (terms (form Q)) = form_below Q n (subst (λ (A : Question). var n ∈ terms A) (sym e) h) in
    let same : length (terms (form Q)) ≡ length (terms Q) = ap (λ (A : Question). length (terms A)) e in
    let one : length (terms Q) ≤ length Q * p = terms_few p Q narrow in
    let two : length Q * p ≤ m * p = mul-le-mul_right p short in
    omega arith
