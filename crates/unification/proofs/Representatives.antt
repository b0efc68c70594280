-- Which term stands for a class does not matter: neither validity nor the rewriting's form depends on it. So the
-- code may pick representatives as it likes. Assumes nothing.
use mathlib.Core.Path.{◌≡◌, refl, sym, ◌∙◌, ap, ap₂, subst}
use mathlib.Core.Bool.{Bool, cond, not, ◌&&◌, ◌||◌}
use mathlib.Core.Logic.{◌⊎◌, inl, inr}
use mathlib.Core.List.Memᴰ
use mathlib.Core.List.{List, ◌++◌}
use mathlib.Core.Option.{some, none}
use Rattle.covering.proofs.SameForm.{Alike, eq_same, var_same, alike_part, form_same}
use Rattle.covering.specs.Lists.{◌∈◌}
use Rattle.covering.specs.Term.{Term, Question, terms, Sub, on_term, eq_term, var, con, is_var as is_var', is_var}
use Rattle.covering.proofs.Lists.{all_same}
use Rattle.covering.proofs.Terms.{terms_append}
use Rattle.covering.specs.Rule.{Rule}
use Rattle.unification.specs.Step.{is_unknown, guarded, safe, valid, judge}

is_var_is : (t : Term) → is_var t ≡ is_var' t
is_var_is (var n) = refl
is_var_is (con c) = refl

pub valid_same : (s t : Sub) (L : Question) (r : Rule) → Alike s t (guarded L r) → valid s L r ≡ valid t L r
valid_same s t L r al = all_same _ _ (terms r.head) each
  where
    inside : (z : Term) → z ∈ terms r.head → z ∈ guarded L r
    inside z m = Memᴰ.append_right (terms L) (Memᴰ.append_right (terms r.body) m)

    no_constant : (z : Term) → z ∈ guarded L r → is_var (on_term s z) ≡ is_var (on_term t z)
    no_constant z m = is_var_is (on_term s z) ∙ var_same s t (guarded L r) al z m ∙ sym (is_var_is (on_term t z))

    safely : (z : Term) → z ∈ guarded L r → safe s (guarded L r) z ≡ safe t (guarded L r) z
    safely z m =
        ap₂ ◌&&◌ (no_constant z m)
        (all_same _ _ (guarded L r)
        (λ x n. ap (λ (b : Bool). eq_term x z || not b) (eq_same s t (guarded L r) al x z n m)))

    each : (z : Term) → z ∈ terms r.head
        → (not (is_unknown r z) || safe s (guarded L r) z) ≡ (not (is_unknown r z) || safe t (guarded L r) z)
    each z m = ap (λ (b : Bool). not (is_unknown r z) || b) (safely z (inside z m))

pub judge_same : (s t : Sub) (L : Question) (r : Rule) → Alike s t (guarded L r) → judge L r s ≡ judge L r t
judge_same s t L r al =
    ap₂ (λ (b : Bool) (P : Question). cond b (some P) none) (valid_same s t L r al)
    (form_same s t (L ++ r.body) (alike_part inside al))
  where
    inside : (x : Term) → x ∈ terms (L ++ r.body) → x ∈ guarded L r
    inside x m =
        at (Memᴰ.append_cases (terms L) (subst (λ (l : List Term). x ∈ l) (terms_append L r.body) m))
      where
        at : (x ∈ terms L) ⊎ (x ∈ terms r.body) → x ∈ guarded L r
        at (inl k) = Memᴰ.append_left (terms r.body ++ terms r.head) k
        at (inr k) = Memᴰ.append_right (terms L) (Memᴰ.append_left (terms r.head) k)

-- maps that send these terms alike
pub alike_equal : (s t : Sub) (ts : List Term) → ((x : Term) → x ∈ ts → on_term s x ≡ on_term t x) → Alike s t ts
alike_equal s t ts h =
    record {
      meets = λ x y m n e. sym (h x m) ∙ e ∙ h y n;
      meets' = λ x y m n e. h x m ∙ e ∙ sym (h y n);
      const = λ x c m e. sym (h x m) ∙ e;
      const' = λ x c m e. h x m ∙ e;
    }

-- maps that each swallow the other
pub alike_absorbed : (s t : Sub) → ((x : Term) → on_term t (on_term s x) ≡ on_term t x)
    → ((x : Term) → on_term s (on_term t x) ≡ on_term s x) → (ts : List Term) → Alike s t ts
alike_absorbed s t f g ts =
    record {
      meets = λ x y m n e. sym (f x) ∙ ap (on_term t) e ∙ f y;
      meets' = λ x y m n e. sym (g x) ∙ ap (on_term s) e ∙ g y;
      const = λ x c m e. sym (f x) ∙ ap (on_term t) e;
      const' = λ x c m e. sym (g x) ∙ ap (on_term s) e;
    }
