-- A question and its form are equivalent. A form has no two equal atoms, and its variables are 0 .. n-1 in order of
-- first appearance. Assumes nothing.
use mathlib.Core.Path.{◌≡◌, refl, sym, ◌∙◌, ap, ap₂, subst}
use mathlib.Core.Bool.{not}
use mathlib.Core.Logic.{◌⊎◌, inl, inr}
use mathlib.Core.List.Memᴰ
use mathlib.Core.List.{List, [], ◌∷◌, map, map-map}
use Prim.Native.Nat.{ℕ, zero, suc}
use lib.Dec.{T, eqb, eqb→eq, eqb_refl}
use lib.ListN.{length, get_or}
use Rattle.covering.specs.Lists.{◌∈◌, Distinct, keep, numbers}
use Rattle.covering.specs.Term.{Term, var, con, Atom, Question, Sub, on_term, on_atom, comp, terms, eq_atom}
use Rattle.covering.specs.Covers.{Equivalent}
use Rattle.covering.specs.Form.{dedup, firsts, index, numbering, renumber, form}
use Rattle.covering.proofs.Lists.{keep_in, keep_out, keep_map, keep_same, keep_distinct, keep_all, map_same}
use Rattle.covering.proofs.Lists.{map_distinct}
use Rattle.covering.proofs.Tests.{decide, clash, cond_yes, cond_no, not_of, same_bool}
use Rattle.covering.proofs.Terms.{eq_atom→eq, eq_atom_refl, on_atom_comp, on_atom_fixed, terms_in, terms_on}
use Rattle.covering.proofs.Terms.{var_inj, var≢con}
use Rattle.covering.proofs.Preorder.{covers_part, equivalent_turn, equivalent_trans}

-- dropping equal atoms
pub dedup_out : (A : Question) (a : Atom) → a ∈ dedup A → a ∈ A
dedup_out [] a x' = elim x' [ ]
dedup_out (b ∷ B) a (Memᴰ.head e) = Memᴰ.head e
dedup_out (b ∷ B) a (Memᴰ.tail m) = Memᴰ.tail (dedup_out B a (keep_out _ (dedup B) m).0)

pub dedup_in : (A : Question) (a : Atom) → a ∈ A → a ∈ dedup A
dedup_in [] a x' = elim x' [ ]
dedup_in (b ∷ B) a (Memᴰ.head e) = Memᴰ.head e
dedup_in (b ∷ B) a (Memᴰ.tail m) = go (decide (eq_atom b a)) (dedup_in B a m)
  where
    go : T (eq_atom b a) ⊎ T (not (eq_atom b a)) → a ∈ dedup B → a ∈ dedup (b ∷ B)
    go (inl t) n = Memᴰ.head (sym (eq_atom→eq b a t))
    go (inr t) n = Memᴰ.tail (keep_in _ (dedup B) n t)

pub dedup_equivalent : (A : Question) → Equivalent (dedup A) A
dedup_equivalent A = (covers_part (dedup_out A), covers_part (dedup_in A))

pub dedup_distinct : (A : Question) → Distinct (dedup A)
dedup_distinct [] = tt
dedup_distinct (a ∷ A) = (
  (λ m. clash (eq_atom a a) (eq_atom_refl a) (keep_out (λ b. not (eq_atom a b)) (dedup A) m).1),
  keep_distinct (λ b. not (eq_atom a b)) (dedup A) (dedup_distinct A),
)

pub dedup_none : (A : Question) → Distinct A → dedup A ≡ A
dedup_none [] d = refl
dedup_none (a ∷ A) d =
    ap
    (λ (l : Question). a ∷ l)
    (ap (keep (λ b. not (eq_atom a b))) (dedup_none A d.1)
    ∙ keep_all (λ b. not (eq_atom a b)) A (λ b m. not_of (eq_atom a b) (λ t. d.0 (Memᴰ.cast (eq_atom→eq a b t) m))))

-- numbering by first appearance
pub firsts_in : (ts : List Term) (n : ℕ) → var n ∈ ts → n ∈ firsts ts
firsts_in [] n x' = elim x' [ ]
firsts_in (var k ∷ ts) n (Memᴰ.head e) = Memᴰ.head (var_inj e)
firsts_in (var k ∷ ts) n (Memᴰ.tail m) = go (decide (eqb k n)) (firsts_in ts n m)
  where
    go : T (eqb k n) ⊎ T (not (eqb k n)) → n ∈ firsts ts → n ∈ firsts (var k ∷ ts)
    go (inl t) h = Memᴰ.head (sym (eqb→eq k n t))
    go (inr t) h = Memᴰ.tail (keep_in _ (firsts ts) h t)
firsts_in (con c ∷ ts) n (Memᴰ.head e) = absurd (var≢con e)
firsts_in (con c ∷ ts) n (Memᴰ.tail m) = firsts_in ts n m

pub firsts_out : (ts : List Term) (n : ℕ) → n ∈ firsts ts → var n ∈ ts
firsts_out [] n m = elim m [ ]
firsts_out (var k ∷ ts) n (Memᴰ.head e) = Memᴰ.head (ap var e)
firsts_out (var k ∷ ts) n (Memᴰ.tail m) = Memᴰ.tail (firsts_out ts n (keep_out _ (firsts ts) m).0)
firsts_out (con c ∷ ts) n m = Memᴰ.tail (firsts_out ts n m)

firsts_distinct : (ts : List Term) → Distinct (firsts ts)
firsts_distinct [] = tt
firsts_distinct (var n ∷ ts) = (
  (λ m. clash (eqb n n) (eqb_refl n) (keep_out (λ k. not (eqb n k)) (firsts ts) m).1),
  keep_distinct (λ k. not (eqb n k)) (firsts ts) (firsts_distinct ts),
)
firsts_distinct (con c ∷ ts) = firsts_distinct ts

pub index_get : (ms : List ℕ) (n : ℕ) → n ∈ ms → get_or ms (index ms n) 0 ≡ n
index_get [] n h = elim h [ ]
index_get (m ∷ ms) n h = go (decide (eqb m n)) (Memᴰ.cases_cons h) (λ u. index_get ms n u)
  where
    go : T (eqb m n) ⊎ T (not (eqb m n)) → (n ≡ m) ⊎ (n ∈ ms) → (n ∈ ms → get_or ms (index ms n) 0 ≡ n)
        → get_or (m ∷ ms) (index (m ∷ ms) n) 0 ≡ n
    go (inl t) u below = rw (cond_yes (eqb m n) 0 (suc (index ms n)) t) (eqb→eq m n t)
    go (inr t) (inl e) below =
        absurd (clash (eqb m n) (subst (λ (x : ℕ). T (eqb m x)) (sym e) (eqb_refl m)) t)
    go (inr t) (inr u) below = rw (cond_no (eqb m n) 0 (suc (index ms n)) t) (below u)

-- the numbers of a list's elements, in order, are 0, 1, ..
index_numbers : (ms : List ℕ) → Distinct ms → map (index ms) ms ≡ numbers 0 (length ms)
index_numbers [] d = refl
index_numbers (m ∷ ms) d =
    ap₂
    ◌∷◌
    (cond_yes (eqb m m) 0 (suc (index ms m)) (eqb_refl m))
    (map_same (index (m ∷ ms)) (λ n. suc (index ms n)) ms (λ n k. cond_no (eqb m n) 0 (suc (index ms n)) (apart n k))
    ∙ sym (map-map suc (index ms) ms)
    ∙ ap (map suc) (index_numbers ms d.1)
    ∙ up 0 (length ms))
  where
    apart : (n : ℕ) → n ∈ ms → T (not (eqb m n))
    apart n k = not_of (eqb m n) (λ t. d.0 (Memᴰ.cast (eqb→eq m n t) k))

    up : (i n : ℕ) → map suc (numbers i n) ≡ numbers (suc i) n
    up i zero = refl
    up i (suc n) = ap (λ (l : List ℕ). suc i ∷ l) (up (suc i) n)

-- a renaming that keeps variables apart keeps their order of first appearance
firsts_renamed : (f : ℕ → ℕ) (ts : List Term) → ((m n : ℕ) → var m ∈ ts → var n ∈ ts → f m ≡ f n → m ≡ n)
    → firsts (map (on_term (λ n. var (f n))) ts) ≡ map f (firsts ts)
firsts_renamed f [] h = refl
firsts_renamed f (con c ∷ ts) h = firsts_renamed f ts (λ m n a b. h m n (Memᴰ.tail a) (Memᴰ.tail b))
firsts_renamed f (var k ∷ ts) h =
    ap
    (λ (l : List ℕ). f k ∷ l)
    (ap (keep (λ m. not (eqb (f k) m))) (firsts_renamed f ts (λ m n a b. h m n (Memᴰ.tail a) (Memᴰ.tail b)))
    ∙ keep_map (λ m. not (eqb (f k) m)) f (firsts ts)
    ∙ ap (map f) (keep_same _ _ (firsts ts) (λ n m. ap not (same n (firsts_out ts n m)))))
  where
    same : (n : ℕ) → var n ∈ ts → eqb (f k) (f n) ≡ eqb k n
    same n m =
        same_bool
        (eqb (f k) (f n))
        (eqb k n)
        (λ t. subst (λ (x : ℕ). T (eqb k x)) (back (eqb→eq (f k) (f n) t)) (eqb_refl k))
        (λ t. subst (λ (x : ℕ). T (eqb (f k) (f x))) (eqb→eq k n t) (eqb_refl (f k)))
      where
        back : f k ≡ f n → k ≡ n
        back = h k n (Memᴰ.head refl) (Memᴰ.tail m)

-- the numbers' names again
abbrev pub naming : Question → Sub
naming A n = var (get_or (firsts (terms A)) n 0)

pub named_back : (A : Question) (t : Term) → t ∈ terms A → on_term (comp (naming A) (numbering A)) t ≡ t
named_back A (var n) m = ap var (index_get (firsts (terms A)) n (firsts_in (terms A) n m))
named_back A (con c) m = refl

pub atom_back : (A : Question) (a : Atom) → a ∈ A → on_atom (naming A) (on_atom (numbering A) a) ≡ a
atom_back A a m =
    on_atom_comp (naming A) (numbering A) a
    ∙ on_atom_fixed (comp (naming A) (numbering A)) a (λ t n. named_back A t (terms_in A m n))

pub renumber_equivalent : (A : Question) → Equivalent A (renumber A)
renumber_equivalent A = (
  record { by = numbering A; sends = λ a m. Memᴰ.map (on_atom (numbering A)) m },
  record { by = naming A; sends = λ b m. down b (Memᴰ.of_map (on_atom (numbering A)) A m) },
)
  where
    down : (b : Atom) → (a : Atom) × (a ∈ A) × (on_atom (numbering A) a ≡ b) → on_atom (naming A) b ∈ A
    down b h = Memᴰ.cast (ap (on_atom (naming A)) (sym h.2) ∙ atom_back A h.0 h.1) h.1

pub form_equivalent : (A : Question) → Equivalent A (form A)
unfolding form
form_equivalent A = equivalent_trans (equivalent_turn (dedup_equivalent A)) (renumber_equivalent (dedup A))

pub form_distinct : (A : Question) → Distinct (form A)
unfolding form
form_distinct A = map_distinct (on_atom (numbering (dedup A))) (dedup A) apart (dedup_distinct A)
  where
    apart : (a b : Atom) → a ∈ dedup A → b ∈ dedup A
        → on_atom (numbering (dedup A)) a ≡ on_atom (numbering (dedup A)) b → a ≡ b
    apart a b m n e =
        sym (atom_back (dedup A) a m) ∙ ap (on_atom (naming (dedup A))) e ∙ atom_back (dedup A) b n

renumber_firsts : (A : Question) → firsts (terms (renumber A)) ≡ numbers 0 (length (firsts (terms A)))
renumber_firsts A =
    ap firsts (terms_on (numbering A) A)
    ∙ firsts_renamed (index (firsts (terms A))) (terms A) apart
    ∙ index_numbers (firsts (terms A)) (firsts_distinct (terms A))
  where
    apart : (m n : ℕ) → var m ∈ terms A → var n ∈ terms A
        → index (firsts (terms A)) m ≡ index (firsts (terms A)) n → m ≡ n
    apart m n p q e = var_inj (sym (named_back A (var m) p) ∙ ap (naming A) e ∙ named_back A (var n) q)

-- the variables of a form, in order of first appearance, are 0, 1, .. ; there are as many as the question has
pub form_numbered : (A : Question) → firsts (terms (form A)) ≡ numbers 0 (length (firsts (terms (dedup A))))
unfolding form
form_numbered A = renumber_firsts (dedup A)
