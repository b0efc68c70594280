-- Dropping atoms that a test calls equal, and the terms whose images are numbered. Assumes nothing.
use mathlib.Core.Path.{◌≡◌, refl, sym, ◌∙◌, ap, ap₂, subst}
use mathlib.Core.Bool.{Bool, true, false, cond, not}
use mathlib.Core.List.{List, [], ◌∷◌, map}
use mathlib.Core.List.Memᴰ
use Prim.Native.Nat.{ℕ, zero, suc}
use lib.Dec.{T, eqb}
use Rattle.covering.specs.Lists.{◌∈◌, keep}
use Rattle.covering.specs.Term.{Term, var, con, Atom, Question, Sub, on_term, on_atom, on_question, eq_term}
use Rattle.covering.specs.Term.{eq_atom, is_var}
use Rattle.covering.specs.Form.{dedup, firsts, index}
use Rattle.covering.proofs.Lists.{keep_out, keep_same, keep_map}

-- dropping atoms that a test calls equal
abbrev pub sift : (Atom → Atom → Bool) → Question → Question
sift e [] = []
sift e (a ∷ A) = a ∷ keep (λ b. not (e a b)) (sift e A)

pub sift_out : (e : Atom → Atom → Bool) (A : Question) (a : Atom) → a ∈ sift e A → a ∈ A
sift_out e [] a x' = elim x' [ ]
sift_out e (b ∷ B) a (Memᴰ.head q) = Memᴰ.head q
sift_out e (b ∷ B) a (Memᴰ.tail m) = Memᴰ.tail (sift_out e B a (keep_out _ (sift e B) m).0)

pub sift_same : (e f : Atom → Atom → Bool) (A : Question) → ((a b : Atom) → a ∈ A → b ∈ A → e a b ≡ f a b)
    → sift e A ≡ sift f A
sift_same e f [] h = refl
sift_same e f (a ∷ A) h = ap (λ (l : Question). a ∷ l) (here ∙ ap (keep (λ b. not (f a b))) (sift_same e f A below))
  where
    below : (x y : Atom) → x ∈ A → y ∈ A → e x y ≡ f x y
    below x y m n = h x y (Memᴰ.tail m) (Memᴰ.tail n)

    here : keep (λ b. not (e a b)) (sift e A) ≡ keep (λ b. not (f a b)) (sift e A)
    here =
        keep_same _ _ (sift e A)
        (λ b m. ap not (h a b (Memᴰ.head refl) (Memᴰ.tail (sift_out e A b m))))

-- the test for equal atoms after s
abbrev pub alike_atoms : Sub → Atom → Atom → Bool
alike_atoms s a b = eq_atom (on_atom s a) (on_atom s b)

pub dedup_on : (s : Sub) (A : Question) → dedup (on_question s A) ≡ on_question s (sift (alike_atoms s) A)
dedup_on s [] = refl
dedup_on s (a ∷ A) =
    ap
    (λ (l : Question). on_atom s a ∷ l)
    (ap (keep (λ b. not (eq_atom (on_atom s a) b))) (dedup_on s A)
    ∙ keep_map (λ b. not (eq_atom (on_atom s a) b)) (on_atom s) (sift (alike_atoms s) A))

abbrev pub num : Term → ℕ
num (var n) = n
num (con c) = 0

-- the terms whose images are numbered, each class where it first appears
abbrev pub reps : Sub → List Term → List Term
reps s [] = []
reps s (x ∷ us) =
    cond (is_var (on_term s x)) (x ∷ keep (λ y. not (eq_term (on_term s x) (on_term s y))) (reps s us)) (reps s us)

pub reps_out : (s : Sub) (us : List Term) {y : Term} → y ∈ reps s us → (y ∈ us) × T (is_var (on_term s y))
reps_out s [] m = absurd (Memᴰ.not-nil m)
reps_out s (x ∷ us) {y} m = go (is_var (on_term s x)) refl m (λ k. reps_out s us k)
  where
    Out : List Term → Type 0
    Out ts = (y ∈ ts) × T (is_var (on_term s y))

    go : (b : Bool) → is_var (on_term s x) ≡ b
        → y ∈ cond b (x ∷ keep (λ y. not (eq_term (on_term s x) (on_term s y))) (reps s us)) (reps s us)
        → (y ∈ reps s us → Out us) → Out (x ∷ us)
    go true e (Memᴰ.head q) below =
        (Memᴰ.head q, subst (λ (z : Term). T (is_var (on_term s z))) (sym q) (subst T (sym e) tt))
    go true e (Memᴰ.tail k) below =
        let r = below (keep_out _ (reps s us) k).0 in
        (Memᴰ.tail r.0, r.1)
    go false e k below = let r = below k in (Memᴰ.tail r.0, r.1)

pub firsts_reps : (s : Sub) (us : List Term) → firsts (map (on_term s) us) ≡ map (λ y. num (on_term s y)) (reps s us)
firsts_reps s [] = refl
firsts_reps s (x ∷ us) = go (on_term s x) refl (firsts_reps s us)
  where
    g : Term → ℕ
    g y = num (on_term s y)

    test : (n : ℕ) (t : Term) → T (is_var t) → not (eqb n (num t)) ≡ not (eq_term (var n) t)
    test n (var m) v = refl
    test n (con c) v = absurd v

    go : (t : Term) → on_term s x ≡ t → firsts (map (on_term s) us) ≡ map g (reps s us)
        → firsts (t ∷ map (on_term s) us)
        ≡ map g (cond (is_var t) (x ∷ keep (λ y. not (eq_term t (on_term s y))) (reps s us)) (reps s us))
    go (var n) q e =
        ap₂
        ◌∷◌
        (sym (ap num q))
        (ap (keep (λ m. not (eqb n m))) e
        ∙ keep_map (λ m. not (eqb n m)) g (reps s us)
        ∙ ap (map g) (keep_same _ _ (reps s us) (λ y m. test n (on_term s y) (reps_out s us m).1)))
    go (con c) q e = e

pub index_same : (f g : Term → ℕ) (x : Term) (l : List Term) → ((y : Term) → y ∈ l → eqb (f y) (f x) ≡ eqb (g y) (g x))
    → index (map f l) (f x) ≡ index (map g l) (g x)
index_same f g x [] h = refl
index_same f g x (y ∷ l) h =
    ap₂
    (λ (b : Bool) (r : ℕ). cond b zero (suc r))
    (h y (Memᴰ.head refl))
    (index_same f g x l (λ z m. h z (Memᴰ.tail m)))
