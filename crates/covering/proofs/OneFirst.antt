-- There is one first map (`specs/FirstMap`). Assumes nothing.
use mathlib.Core.Path.{◌≡◌, refl, sym, ◌∙◌, ap, ap₂, subst, fun_ext}
use mathlib.Core.Bool.{not}
use mathlib.Core.Logic.{◌⊎◌, inl, inr}
use mathlib.Core.List.Memᴰ
use mathlib.Core.List.{List, [], ◌∷◌, map, head-eq_of_cons-eq, tail-eq_of_cons-eq}
use mathlib.Core.Option.{some, some-injective}
use Prim.Native.Nat.{ℕ, ◌<◌}
use native.Mathlib.Omega.{arith}
use lib.Dec.{T}
use Rattle.covering.specs.Lists.{◌∈◌, any}
use Rattle.covering.specs.Term.{Term, var, Atom, Question, Sub, on_term, terms, eq_term}
use Rattle.covering.specs.Search.{Part}
use Rattle.covering.specs.FirstMap.{Allows, NotAfter, FirstMap}
use Rattle.covering.proofs.Lists.{any_in, any_out}
use Rattle.covering.proofs.Tests.{decide, clash}
use Rattle.covering.proofs.Terms.{eq_term→eq, eq→eq_term}

-- neither of two sequences is after the other
same_candidates : (A B : Question) (c d : List ℕ) (s r : Sub) → Allows s A B c → Allows r A B d → NotAfter c d
    → NotAfter d c → c ≡ d
same_candidates [] B [] [] s r m k x y = refl
same_candidates [] B [] (n ∷ d) s r m k x y = absurd k
same_candidates [] B (n ∷ c) d s r m k x y = absurd m
same_candidates (a ∷ A) B [] d s r m k x y = absurd m
same_candidates (a ∷ A) B (n ∷ c) [] s r m k x y = absurd k
same_candidates (a ∷ A) B (n ∷ c) (e ∷ d) s r m k x y = go x y (same_candidates A B c d s r m.1 k.1)
  where
    go : (n < e) ⊎ ((n ≡ e) × NotAfter c d) → (e < n) ⊎ ((e ≡ n) × NotAfter d c)
        → (NotAfter c d → NotAfter d c → c ≡ d) → n ∷ c ≡ e ∷ d
    go (inl l) (inl g) below = absurd (omega arith)
    go (inl l) (inr g) below = let i = g.0 in absurd (omega arith)
    go (inr l) (inl g) below = let i = l.0 in absurd (omega arith)
    go (inr l) (inr g) below = ap₂ ◌∷◌ l.0 (below l.1 g.1)

-- two maps that send the terms alike send their variables alike
same_terms : (s r : Sub) (ts : List Term) (n : ℕ) → map (on_term s) ts ≡ map (on_term r) ts → var n ∈ ts → s n ≡ r n
same_terms s r [] n e m = absurd (Memᴰ.not-nil m)
same_terms s r (t ∷ ts) n e m = go (Memᴰ.cases_cons m) (same_terms s r ts n (tail-eq_of_cons-eq e))
  where
    go : (var n ≡ t) ⊎ (var n ∈ ts) → (var n ∈ ts → s n ≡ r n) → s n ≡ r n
    go (inl i) below = ap (on_term s) i ∙ head-eq_of_cons-eq e ∙ ap (on_term r) (sym i)
    go (inr i) below = below i

same_there : (A B : Question) (c : List ℕ) (s r : Sub) (n : ℕ) → Allows s A B c → Allows r A B c → var n ∈ terms A
    → s n ≡ r n
same_there [] B c s r n m k i = absurd (Memᴰ.not-nil i)
same_there (a ∷ A) B [] s r n m k i = absurd m
same_there (a ∷ A) B (x ∷ c) s r n m k i =
    go (Memᴰ.append_cases a.args i) (same_there A B c s r n m.1 k.1)
  where
    go : (var n ∈ a.args) ⊎ (var n ∈ terms A) → (var n ∈ terms A → s n ≡ r n) → s n ≡ r n
    go (inl j) below =
        same_terms s r a.args n (ap (λ (b : Atom). b.args) (some-injective _ _ (sym m.0 ∙ k.0))) j
    go (inr j) below = below j

pub first_only : (A B : Question) (p q : Part) → FirstMap A B p → FirstMap A B q → p ≡ q
first_only A B p q f g = fun_ext (λ n. go n (decide (any (eq_term (var n)) (terms A))))
  where
    same : f.candidates ≡ g.candidates
    same =
        same_candidates A B f.candidates g.candidates f.by g.by f.allows g.allows
        (f.first g.candidates g.by g.allows)
        (g.first f.candidates f.by f.allows)

    by_one : Allows f.by A B g.candidates
    by_one = subst (Allows f.by A B) same f.allows

    go : (n : ℕ) → T (any (eq_term (var n)) (terms A)) ⊎ T (not (any (eq_term (var n)) (terms A))) → p n ≡ q n
    go n (inl x) =
        let t = any_out (eq_term (var n)) (terms A) x in
        let i : var n ∈ terms A = Memᴰ.cast (eq_term→eq (var n) t.0 t.2) t.1 in
        f.there n i
        ∙ ap some (same_there A B g.candidates f.by g.by n by_one g.allows i)
        ∙ sym (g.there n i)
    go n (inr x) =
        let out : var n ∈ terms A → ⊥
        = λ i. clash (any (eq_term (var n)) (terms A)) (any_in (eq_term (var n)) (terms A) i (eq→eq_term {t = var n} refl)) x in
        f.nowhere_else n out ∙ sym (g.nowhere_else n out)
