-- Validity as a choice goes on: it leaves more atoms and puts more together, so what is not valid on the way is not valid
-- in the end (`still_invalid`). By a rule without existential variables every choice is valid (`always_valid`). Assumes
-- nothing.
use mathlib.Core.Path.{◌≡◌, refl, sym, ◌∙◌, ap, subst}
use mathlib.Core.Bool.{true, false, not, ◌||◌}
use mathlib.Core.Logic.{◌⊎◌, inl, inr}
use mathlib.Core.List.Memᴰ
use mathlib.Core.List.{List, [], ◌∷◌, ◌++◌}
use mathlib.Core.Option.{some}
use Prim.Native.Nat.{ℕ}
use lib.Dec.{T}
use Rattle.covering.specs.Lists.{◌∈◌, any}
use Rattle.covering.specs.Term.{Term, Atom, Question, terms, Sub, on_term, eq_term, var, con, is_var}
use Rattle.covering.specs.Rule.{Rule}
use Rattle.covering.proofs.Lists.{all_in, all_out, any_in}
use Rattle.covering.proofs.Terms.{eq_term→eq, eq→eq_term, terms_in, terms_out}
use Rattle.covering.proofs.Tests.{both, fst_of, snd_of, or_left, or_right, or_cases, not_of, clash}
use Rattle.covering.proofs.Tests.{T→true, no→false, false→no}
use Rattle.unification.specs.Classes.{Pair, unify}
use Rattle.unification.specs.Step.{is_unknown, guarded, safe, valid}
use Rattle.unification.proofs.Classes.{coarser_term, unify_sound}

-- τ is σ with more put together, by ρ; what is left of L stays left in L'
module _ (r : Rule) (σ τ ρ : Sub) (factors : (n : ℕ) → τ n ≡ on_term ρ (σ n)) (L L' : Question)
    (stays : (a : Atom) → a ∈ L → a ∈ L')
  where
    after : (t : Term) → on_term τ t ≡ on_term ρ (on_term σ t)
    after t = coarser_term σ τ ρ factors t

    variable : (z t : Term) → on_term σ z ≡ t → T (is_var (on_term τ z)) → T (is_var t)
    variable z (var n) e k = tt
    variable z (con d) e k = subst (λ (u : Term). T (is_var u)) (after z ∙ ap (on_term ρ) e) k

    guards : (t : Term) → t ∈ guarded L r → t ∈ guarded L' r
    guards t m = at (Memᴰ.append_cases (terms L) m)
      where
        at : (t ∈ terms L) ⊎ (t ∈ terms r.body ++ terms r.head) → t ∈ guarded L' r
        at (inl n) = let o = terms_out L n in Memᴰ.append_left _ (terms_in L' (stays o.0 o.1) o.2)
        at (inr n) = Memᴰ.append_right (terms L') n

    -- terms that are in one class on the way are in one class in the end
    together : (t z : Term) → on_term σ t ≡ on_term σ z → on_term τ t ≡ on_term τ z
    together t z e = after t ∙ ap (on_term ρ) e ∙ sym (after z)

    apart : (z t : Term) → T (eq_term t z) ⊎ T (not (eq_term (on_term τ t) (on_term τ z)))
        → T (eq_term t z || not (eq_term (on_term σ t) (on_term σ z)))
    apart z t (inl k) = or_left (eq_term t z) _ k
    apart z t (inr k) =
        or_right (eq_term t z) _
        (not_of (eq_term (on_term σ t) (on_term σ z)) (λ e.
        clash (eq_term (on_term τ t) (on_term τ z))
        (eq→eq_term (together t z (eq_term→eq (on_term σ t) (on_term σ z) e))) k))

    allowed : (z : Term) → T (not (is_unknown r z)) ⊎ T (safe τ (guarded L' r) z)
        → T (not (is_unknown r z) || safe σ (guarded L r) z)
    allowed z (inl k) = or_left (not (is_unknown r z)) _ k
    allowed z (inr k) =
        or_right (not (is_unknown r z)) _
        (both (is_var (on_term σ z)) _ (variable z (on_term σ z) refl (fst_of (is_var (on_term τ z)) _ k))
        (all_in _ (guarded L r) (λ t m.
        apart z t (or_cases (eq_term t z) _ (all_out _ _ (snd_of (is_var (on_term τ z)) _ k) (guards t m))))))

    -- what is valid in the end is valid on the way
    valid_before : T (valid τ L' r) → T (valid σ L r)
    valid_before ok = all_in _ (terms r.head) (λ z m. allowed z (or_cases (not (is_unknown r z)) _ (all_out _ _ ok m)))

    pub still_invalid : valid σ L r ≡ false → valid τ L' r ≡ false
    still_invalid e = no→false (valid τ L' r) (λ ok. false→no (valid σ L r) e (valid_before ok))

-- an atom is left
pub invalid_left : (r : Rule) (σ : Sub) (L : Question) (a : Atom) → valid σ L r ≡ false
    → valid σ (L ++ a ∷ []) r ≡ false
invalid_left r σ L a = still_invalid r σ σ var (λ n. sym (fixed (σ n))) L (L ++ a ∷ []) (λ b m. Memᴰ.append_left (a ∷ []) m)
  where
    fixed : (t : Term) → on_term var t ≡ t
    fixed (var n) = refl
    fixed (con d) = refl

-- pairs are put together
pub invalid_sent : (r : Rule) (ps : List Pair) (σ τ : Sub) (L : Question) → unify ps σ ≡ some τ → valid σ L r ≡ false
    → valid τ L r ≡ false
invalid_sent r ps σ τ L e =
    let s = unify_sound ps σ τ e in still_invalid r σ τ s.more s.factors L L (λ a m. m)

pub always_valid : (r : Rule) → any (is_unknown r) (terms r.head) ≡ false → (σ : Sub) (L : Question)
    → valid σ L r ≡ true
always_valid r e σ L =
    T→true (valid σ L r)
    (all_in _ (terms r.head) (λ z m.
    or_left (not (is_unknown r z)) _
    (not_of (is_unknown r z) (λ k. false→no _ e (any_in (is_unknown r) (terms r.head) m k)))))
