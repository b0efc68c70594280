-- Validity: how it is shown, and what it says. Assumes nothing.
use mathlib.Core.Path.{◌≡◌, refl, sym, ◌∙◌, ap, subst}
use mathlib.Core.Bool.{not, ◌||◌}
use mathlib.Core.Logic.{◌⊎◌, inl, inr}
use mathlib.Core.List.Memᴰ
use mathlib.Core.List.{◌++◌}
use Prim.Native.Nat.{ℕ}
use lib.Dec.{T}
use Rattle.covering.specs.Covers.{Sends}
use Rattle.covering.specs.Lists.{◌∈◌}
use Rattle.covering.specs.Term.{Term, Atom, Question, terms, Sub, on_term, on_atom, comp, eq_term, var, con, is_var}
use Rattle.covering.proofs.Lists.{all_out, all_in}
use Rattle.covering.proofs.Tests.{decide, clash, both, fst_of, snd_of, or_left, or_right, or_cases, not_of}
use Rattle.covering.proofs.Terms.{var≢con, eq_term→eq, eq→eq_term, on_term_comp, on_atom_same, on_atom_comp}
use Rattle.covering.specs.Rule.{Rule, Unknown}
use Rattle.unification.specs.Classes.{Kernel}
use Rattle.unification.specs.Step.{mem_term, is_unknown, guarded, safe, valid, rewriting}
use Rattle.unification.specs.Apply.{Fresh}
use Rattle.unification.proofs.Pairs.{sends_term, mem→mem_term, mem_term→mem}

pub near_on : (s σ : Sub) → ((n : ℕ) → Kernel s (σ n) (var n)) → (t : Term) → on_term s (on_term σ t) ≡ on_term s t
near_on s σ near (var n) = near n
near_on s σ near (con c) = refl

-- a choice is valid if a substitution that factors through its classes keeps the unknowns apart
module _ (r : Rule) (L : Question) (s σ : Sub)
    (near : (n : ℕ) → Kernel s (σ n) (var n))
    (varlike : (n : ℕ) → Unknown r n → (c : ℕ) → s n ≡ con c → ⊥)
    (lonely : (n : ℕ) → Unknown r n → (t : Term) → t ∈ guarded L r → on_term s t ≡ s n → t ≡ var n)
  where
    safe_here : (n : ℕ) → Unknown r n → T (safe σ (guarded L r) (var n))
    safe_here n u = both (is_var (σ n)) _ (alone (σ n) refl) (all_in _ (guarded L r) other)
      where
        alone : (t : Term) → σ n ≡ t → T (is_var t)
        alone (var x) e = tt
        alone (con c) e = varlike n u c (sym (near n) ∙ ap (on_term s) e)

        other : (t : Term) → t ∈ guarded L r → T (eq_term t (var n) || not (eq_term (on_term σ t) (σ n)))
        other t m = go (decide (eq_term (on_term σ t) (σ n)))
          where
            go : T (eq_term (on_term σ t) (σ n)) ⊎ T (not (eq_term (on_term σ t) (σ n)))
                → T (eq_term t (var n) || not (eq_term (on_term σ t) (σ n)))
            go (inl k) =
                or_left (eq_term t (var n)) _
                (eq→eq_term
                (lonely n u t m
                (sym (near_on s σ near t) ∙ ap (on_term s) (eq_term→eq (on_term σ t) (σ n) k) ∙ near n)))
            go (inr k) = or_right (eq_term t (var n)) _ k

    unknown_of : (n : ℕ) → var n ∈ terms r.head → T (is_unknown r (var n)) → Unknown r n
    unknown_of n m t =
        record {
          in_head = m;
          not_body = λ b. clash (mem_term (var n) (terms r.body)) (mem→mem_term (terms r.body) b) t;
        }

    pub valid_here : T (valid σ L r)
    valid_here = all_in _ (terms r.head) each
      where
        each : (z : Term) → z ∈ terms r.head → T (not (is_unknown r z) || safe σ (guarded L r) z)
        each (con c) m = tt
        each (var n) m = go (decide (is_unknown r (var n)))
          where
            go : T (is_unknown r (var n)) ⊎ T (not (is_unknown r (var n)))
                → T (not (is_unknown r (var n)) || safe σ (guarded L r) (var n))
            go (inl t) = or_right (not (is_unknown r (var n))) _ (safe_here n (unknown_of n m t))
            go (inr t) = or_left (not (is_unknown r (var n))) _ t

-- the rewriting holds where the left atoms and the body hold
module _ (r : Rule) (F L : Question) (s σ : Sub)
    (near : (n : ℕ) → Kernel s (σ n) (var n)) (body_in : Sends s r.body F) (left_in : Sends s L F)
  where
    pub rewriting_holds : Sends s (rewriting σ L r) F
    rewriting_holds b m = go (Memᴰ.of_map (on_atom σ) (L ++ r.body) m)
      where
        in_f : (a : Atom) → (a ∈ L) ⊎ (a ∈ r.body) → on_atom s a ∈ F
        in_f a (inl k) = left_in a k
        in_f a (inr k) = body_in a k

        go : (a : Atom) × (a ∈ L ++ r.body) × (on_atom σ a ≡ b) → on_atom s b ∈ F
        go h =
            Memᴰ.cast
            (ap (on_atom s) (sym h.2)
            ∙ on_atom_comp s σ h.0
            ∙ on_atom_same (comp s σ) s h.0 (λ t _. sym (on_term_comp s σ t) ∙ near_on s σ near t))
            (in_f h.0 (Memᴰ.append_cases L h.1))

-- the map of a rule's application keeps the unknowns apart
module _ (r : Rule) (F L : Question) (s : Sub)
    (body_in : Sends s r.body F) (left_in : Sends s L F)
    (fresh : (z : ℕ) → Unknown r z → Fresh F (s z))
    (distinct : (y z : ℕ) → Unknown r y → Unknown r z → s y ≡ s z → y ≡ z)
  where
    pub fresh_varlike : (n : ℕ) → Unknown r n → (c : ℕ) → s n ≡ con c → ⊥
    fresh_varlike n u c e = var≢con (sym (fresh n u).is ∙ e)

    -- a term that shares the unknown's class is the unknown
    pub fresh_lonely : (n : ℕ) → Unknown r n → (t : Term) → t ∈ guarded L r → on_term s t ≡ s n → t ≡ var n
    fresh_lonely n u t m e = go (Memᴰ.append_cases (terms L) m)
      where
        f : Fresh F (s n)
        f = fresh n u

        outside : on_term s t ∈ terms F → t ≡ var n
        outside k = absurd (f.absent (Memᴰ.cast (sym f.is ∙ sym e) k))

        in_head : (t : Term) → t ∈ terms r.head → on_term s t ≡ s n → (on_term s t ∈ terms F → t ≡ var n)
            → t ≡ var n
        in_head (con c) k e out = absurd (var≢con (sym f.is ∙ sym e))
        in_head (var x) k e out = at (decide (mem_term (var x) (terms r.body)))
          where
            at : T (mem_term (var x) (terms r.body)) ⊎ T (not (mem_term (var x) (terms r.body))) → var x ≡ var n
            at (inl b) = out (sends_term s r.body F (var x) body_in (mem_term→mem (terms r.body) b))
            at (inr b) =
                ap var
                (distinct x n
                (record {
                  in_head = k;
                  not_body = λ b'.
                      clash (mem_term (var x) (terms r.body)) (mem→mem_term (terms r.body) b') b;
                })
                u e)

        in_rule : (t ∈ terms r.body) ⊎ (t ∈ terms r.head) → t ≡ var n
        in_rule (inl k) = outside (sends_term s r.body F t body_in k)
        in_rule (inr k) = in_head t k e outside

        go : (t ∈ terms L) ⊎ (t ∈ terms r.body ++ terms r.head) → t ≡ var n
        go (inl k) = outside (sends_term s L F t left_in k)
        go (inr k) = in_rule (Memᴰ.append_cases (terms r.body) k)

-- what validity says
module _ (r : Rule) (L : Question) (σ : Sub) (ok : T (valid σ L r)) where
  safe_of : (z : Term) → z ∈ terms r.head → T (is_unknown r z) → T (safe σ (guarded L r) z)
  safe_of z m t = go (or_cases (not (is_unknown r z)) _ (all_out _ (terms r.head) ok m))
    where
      go : T (not (is_unknown r z)) ⊎ T (safe σ (guarded L r) z) → T (safe σ (guarded L r) z)
      go (inl k) = absurd (clash (is_unknown r z) t k)
      go (inr k) = k

  -- what shares an unknown's class is that unknown, and it is no constant
  pub valid_alone : (z : Term) → z ∈ terms r.head → T (is_unknown r z) → (t : Term) → t ∈ guarded L r
      → on_term σ t ≡ on_term σ z → t ≡ z
  valid_alone z m k t n e =
      go (or_cases (eq_term t z) _ (all_out _ (guarded L r) (snd_of (is_var (on_term σ z)) _ (safe_of z m k)) n))
    where
      go : T (eq_term t z) ⊎ T (not (eq_term (on_term σ t) (on_term σ z))) → t ≡ z
      go (inl h) = eq_term→eq t z h
      go (inr h) = absurd (clash (eq_term (on_term σ t) (on_term σ z)) (eq→eq_term e) h)

  pub valid_varlike : (z : Term) → z ∈ terms r.head → T (is_unknown r z) → (c : ℕ) → on_term σ z ≡ con c → ⊥
  valid_varlike z m k c e = subst (λ (t : Term). T (is_var t)) e (fst_of (is_var (on_term σ z)) _ (safe_of z m k))

pub unknown_test : (r : Rule) (z : ℕ) → Unknown r z → T (is_unknown r (var z))
unknown_test r z u = not_of (mem_term (var z) (terms r.body)) (λ t. u.not_body (mem_term→mem (terms r.body) t))
