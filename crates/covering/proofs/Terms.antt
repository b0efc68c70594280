-- Laws of terms, atoms and substitutions, and of where a term stands. Assumes nothing.
use mathlib.Core.Path.{◌≡◌, refl, sym, ◌∙◌, ap, ap₂, subst}
use mathlib.Core.Logic.{◌⊎◌, inl, inr}
use mathlib.Core.List.Memᴰ
use mathlib.Core.List.{List, [], ◌∷◌, ◌++◌, map, map-map, append_assoc}
use Prim.Native.Nat.{ℕ}
use native.Mathlib.Omega.{arith}
use lib.Dec.{T, eqb, eqb→eq, eqb_refl}
use Rattle.covering.specs.Lists.{◌∈◌}
use Rattle.covering.specs.Term.{Term, var, con, Atom, Question, Sub, on_term, on_atom, on_question, comp, terms}
use Rattle.covering.specs.Term.{eq_term, eq_terms, eq_atom}
use Rattle.covering.proofs.Lists.{map_same, map_none, map_append}
use Rattle.covering.proofs.Tests.{both, fst_of, snd_of}

pub var_inj : {m n : ℕ} → var m ≡ var n → m ≡ n
var_inj e = cc

pub con_inj : {c d : ℕ} → con c ≡ con d → c ≡ d
con_inj e = cc

pub var≢con : {n c : ℕ} → var n ≡ con c → ⊥
var≢con e = let z : ◌≡◌ {A = ℕ} 0 1 = cc in omega arith

pub atom_path : {a b : Atom} → a.rel ≡ b.rel → a.args ≡ b.args → a ≡ b
atom_path p q = λ i. record { rel = p i; args = q i }

-- the equality tests are right
pub eq_term→eq : (t u : Term) → T (eq_term t u) → t ≡ u
eq_term→eq (var m) (var n) h = ap var (eqb→eq m n h)
eq_term→eq (var m) (con d) h = absurd h
eq_term→eq (con c) (var n) h = absurd h
eq_term→eq (con c) (con d) h = ap con (eqb→eq c d h)

pub eq_term_refl : (t : Term) → T (eq_term t t)
eq_term_refl (var n) = eqb_refl n
eq_term_refl (con c) = eqb_refl c

pub eq→eq_term : {t u : Term} → t ≡ u → T (eq_term t u)
eq→eq_term {t} e = subst (λ (v : Term). T (eq_term t v)) e (eq_term_refl t)

pub eq_terms→eq : (ts us : List Term) → T (eq_terms ts us) → ts ≡ us
eq_terms→eq [] [] h = refl
eq_terms→eq [] (u ∷ us) h = absurd h
eq_terms→eq (t ∷ ts) [] h = absurd h
eq_terms→eq (t ∷ ts) (u ∷ us) h =
    ap₂
    ◌∷◌
    (eq_term→eq t u (fst_of (eq_term t u) (eq_terms ts us) h))
    (eq_terms→eq ts us (snd_of (eq_term t u) (eq_terms ts us) h))

pub eq_terms_refl : (ts : List Term) → T (eq_terms ts ts)
eq_terms_refl [] = tt
eq_terms_refl (t ∷ ts) = both (eq_term t t) (eq_terms ts ts) (eq_term_refl t) (eq_terms_refl ts)

pub eq_atom→eq : (a b : Atom) → T (eq_atom a b) → a ≡ b
eq_atom→eq a b h =
    atom_path
    (eqb→eq a.rel b.rel (fst_of (eqb a.rel b.rel) _ h))
    (eq_terms→eq a.args b.args (snd_of (eqb a.rel b.rel) _ h))

pub eq_atom_refl : (a : Atom) → T (eq_atom a a)
eq_atom_refl a = both (eqb a.rel a.rel) _ (eqb_refl a.rel) (eq_terms_refl a.args)

-- substitutions
pub on_term_var : (t : Term) → on_term var t ≡ t
on_term_var (var n) = refl
on_term_var (con c) = refl

pub on_term_comp : (s r : Sub) (t : Term) → on_term s (on_term r t) ≡ on_term (comp s r) t
on_term_comp s r (var n) = refl
on_term_comp s r (con c) = refl

pub on_atom_same : (s r : Sub) (a : Atom) → ((t : Term) → t ∈ a.args → on_term s t ≡ on_term r t)
    → on_atom s a ≡ on_atom r a
on_atom_same s r a h = atom_path refl (map_same (on_term s) (on_term r) a.args h)

pub on_atom_fixed : (s : Sub) (a : Atom) → ((t : Term) → t ∈ a.args → on_term s t ≡ t) → on_atom s a ≡ a
on_atom_fixed s a h = atom_path refl (map_none (on_term s) a.args h)

pub on_atom_var : (a : Atom) → on_atom var a ≡ a
on_atom_var a = on_atom_fixed var a (λ t _. on_term_var t)

pub on_atom_comp : (s r : Sub) (a : Atom) → on_atom s (on_atom r a) ≡ on_atom (comp s r) a
on_atom_comp s r a =
    atom_path
    refl
    (map-map (on_term s) (on_term r) a.args ∙ map_same _ _ a.args (λ t m. on_term_comp s r t))

-- where terms stand
pub terms_in : {t : Term} {a : Atom} (A : Question) → a ∈ A → t ∈ a.args → t ∈ terms A
terms_in {t} {a} A (Memᴰ.head {x = b} {xs = B} e) m =
    Memᴰ.append_left (terms B) (subst (λ (c : Atom). t ∈ c.args) e m)
terms_in {t} {a} A (Memᴰ.tail {x = b} {xs = B} n) m = Memᴰ.append_right b.args (terms_in B n m)

pub terms_out : {t : Term} (A : Question) → t ∈ terms A → (a : Atom) × (a ∈ A) × (t ∈ a.args)
terms_out [] m = absurd (Memᴰ.not-nil m)
terms_out {t} (a ∷ A) m = go (Memᴰ.append_cases a.args m) (λ n. terms_out A n)
  where
    Out : Question → Type 0
    Out B = (b : Atom) × (b ∈ B) × (t ∈ b.args)

    go : (t ∈ a.args) ⊎ (t ∈ terms A) → (t ∈ terms A → Out A) → Out (a ∷ A)
    go (inl n) below = (a, Memᴰ.head refl, n)
    go (inr n) below = let r = below n in (r.0, Memᴰ.tail r.1, r.2)

pub terms_append : (A B : Question) → terms (A ++ B) ≡ terms A ++ terms B
terms_append [] B = refl
terms_append (a ∷ A) B =
    ap (λ (l : List Term). a.args ++ l) (terms_append A B) ∙ sym (append_assoc a.args (terms A) (terms B))

pub terms_on : (s : Sub) (A : Question) → terms (on_question s A) ≡ map (on_term s) (terms A)
terms_on s [] = refl
terms_on s (a ∷ A) =
    ap (λ (l : List Term). map (on_term s) a.args ++ l) (terms_on s A)
    ∙ sym (map_append (on_term s) a.args (terms A))
