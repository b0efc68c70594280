-- If a rewriting of a question holds in the facts, an application of the rule makes the question hold. Assumes
-- nothing.
use mathlib.Core.Path.{◌≡◌, refl, sym, ◌∙◌, ap, subst}
use mathlib.Core.Bool.{Bool, cond, not, ◌&&◌}
use mathlib.Core.Logic.{◌⊎◌, inl, inr}
use mathlib.Core.List.Memᴰ
use mathlib.Core.List.{List, [], ◌∷◌, ◌++◌}
use Prim.Native.Nat.{ℕ, suc, ◌+◌, ◌<◌}
use native.Mathlib.Omega.{arith}
use lib.Dec.{T}
use Rattle.covering.specs.Covers.{Sends, Covers}
use Rattle.covering.specs.Lists.{◌∈◌}
use Rattle.covering.specs.Term.{Term, Atom, Question, terms, Sub, on_term, on_atom, on_question, comp, eq_term, var}
use Rattle.covering.specs.Term.{con, Below}
use Rattle.covering.proofs.Preorder.{covers_trans}
use Rattle.covering.proofs.Form.{form_equivalent}
use Rattle.covering.proofs.Tests.{decide, clash, both, fst_of, snd_of, not_of, cond_yes, cond_no}
use Rattle.covering.proofs.Terms.{var_inj, var≢con, eq_term→eq, eq→eq_term, on_term_comp, on_atom_same, on_atom_comp}
use Rattle.covering.proofs.Terms.{terms_in}
use Rattle.covering.specs.Rule.{Rule}
use Rattle.unification.specs.Classes.{Kernel, HoldsPairs}
use Rattle.unification.specs.Choice.{Choice, left, to_head, pairing}
use Rattle.unification.specs.Step.{move, mem_term, is_unknown, guarded, valid, rewriting, rewritings}
use Rattle.unification.specs.Apply.{Applies}
use Rattle.unification.proofs.Classes.{unify_sound}
use Rattle.unification.proofs.Choices.{split_choice}
use Rattle.unification.proofs.Listed.{Made, rewritings_out}
use Rattle.unification.proofs.Moved.{unmoved, moved_apart}
use Rattle.unification.proofs.Pairs.{mem→mem_term, head_of, atom_meet}
use Rattle.unification.proofs.Valid.{valid_alone, valid_varlike, unknown_test}

-- a number above every variable
pub bound : List Term → ℕ
bound [] = 0
bound (var n ∷ ts) = suc n + bound ts
bound (con c ∷ ts) = bound ts

pub bound_above : (ts : List Term) (n : ℕ) → var n ∈ ts → n < bound ts
unfolding bound
bound_above [] n x' = elim x' [ ]
bound_above (var k ∷ ts) n (Memᴰ.head e) = let q : n ≡ k = var_inj e in omega arith
bound_above (var k ∷ ts) n (Memᴰ.tail m) = let q : n < bound ts = bound_above ts n m in omega arith
bound_above (con c ∷ ts) n (Memᴰ.head e) = absurd (var≢con e)
bound_above (con c ∷ ts) n (Memᴰ.tail m) = bound_above ts n m

-- Facts F in which, by τ after the classes σ, the left atoms and the body hold; the rule's variables are apart from
-- the question's.
module _ (r : Rule) (Q F : Question) (ds : Choice) (σ τ : Sub)
    (apart : (n : ℕ) → var n ∈ terms Q → var n ∈ terms r.head → ⊥)
    (ok : T (valid σ (left ds Q) r))
    (left_holds : Sends (comp τ σ) (left ds Q) F)
    (body-holds : Sends (comp τ σ) r.body F)
  where
    -- unknowns from N on are fresh
    N : ℕ
    N = bound (terms F)

    -- the rule's map: each existential variable goes to a fresh unknown, every other variable by τ after σ
    s : Sub
    s x = cond (is_unknown r (var x)) (var (N + x)) (comp τ σ x)

    s_unknown : (x : ℕ) → T (is_unknown r (var x)) → s x ≡ var (N + x)
    unfolding s
    s_unknown x t = cond_yes (is_unknown r (var x)) (var (N + x)) (comp τ σ x) t

    s_known : (u : Term) → T (not (is_unknown r u)) → on_term s u ≡ on_term τ (on_term σ u)
    unfolding s
    s_known (var x) t = cond_no (is_unknown r (var x)) (var (N + x)) (comp τ σ x) t
    s_known (con c) t = refl

    -- the question's map: a variable in the class of an existential variable goes where that one goes, every other
    -- variable by τ after σ
    pick : ℕ → List Term → Term
    pick q [] = comp τ σ q
    pick q (z ∷ zs) = cond (is_unknown r z && eq_term (on_term σ z) (σ q)) (on_term s z) (pick q zs)

    -- q is in the class of an existential variable of zs, or of none
    record Shares (q : ℕ) (zs : List Term) (p : Term) : Type 0 where
      at : Term
      is_in : at ∈ zs
      unknown : T (is_unknown r at)
      shares : on_term σ at ≡ σ q
      value : p ≡ on_term s at

    record SharesNone (q : ℕ) (zs : List Term) (p : Term) : Type 0 where
      nowhere : (z : Term) → z ∈ zs → T (is_unknown r z) → on_term σ z ≡ σ q → ⊥
      value : p ≡ comp τ σ q

    pick_cases : (q : ℕ) (zs : List Term) → Shares q zs (pick q zs) ⊎ SharesNone q zs (pick q zs)
    unfolding pick
    pick_cases q [] = inr (record { nowhere = λ z m. absurd (Memᴰ.not-nil m); value = refl })
    pick_cases q (z ∷ zs) = go (decide test) (pick_cases q zs)
      where
        test : Bool
        test = is_unknown r z && eq_term (on_term σ z) (σ q)

        go : T test ⊎ T (not test) → Shares q zs (pick q zs) ⊎ SharesNone q zs (pick q zs)
            → Shares q (z ∷ zs) (pick q (z ∷ zs)) ⊎ SharesNone q (z ∷ zs) (pick q (z ∷ zs))
        go (inl t) rest =
            inl
            (record {
              at = z;
              is_in = Memᴰ.head refl;
              unknown = fst_of (is_unknown r z) _ t;
              shares = eq_term→eq (on_term σ z) (σ q) (snd_of (is_unknown r z) _ t);
              value = cond_yes test (on_term s z) (pick q zs) t;
            })
        go (inr t) (inl h) =
            inl
            (record {
              at = h.at;
              is_in = Memᴰ.tail h.is_in;
              unknown = h.unknown;
              shares = h.shares;
              value = cond_no test (on_term s z) (pick q zs) t ∙ h.value;
            })
        go (inr t) (inr h) =
            inr
            (record {
              nowhere = λ y m. here y (Memᴰ.cases_cons m);
              value = cond_no test (on_term s z) (pick q zs) t ∙ h.value;
            })
          where
            here : (y : Term) → (y ≡ z) ⊎ (y ∈ zs) → T (is_unknown r y) → on_term σ y ≡ σ q → ⊥
            here y (inl e) u k =
                clash test
                (subst (λ (x : Term). T (is_unknown r x && eq_term (on_term σ x) (σ q))) e
                (both (is_unknown r y) _ u (eq→eq_term k)))
                t
            here y (inr m) u k = h.nowhere y m u k

    ρ : Sub
    ρ q = pick q (terms r.head)

    in_head : {u : Term} → u ∈ terms r.head → u ∈ guarded (left ds Q) r
    in_head m = Memᴰ.append_right (terms (left ds Q)) (Memᴰ.append_right (terms r.body) m)

    -- a term in one class with a head term goes where that one goes
    meet : (t u : Term) → u ∈ terms r.head → Kernel σ t u → on_term ρ t ≡ on_term s u
    unfolding ρ
    meet t u m e = go t (decide (is_unknown r u)) e
      where
        go : (t : Term) → T (is_unknown r u) ⊎ T (not (is_unknown r u)) → Kernel σ t u → on_term ρ t ≡ on_term s u
        go (con c) (inl k) e = absurd (valid_varlike r (left ds Q) σ ok u m k c (sym e))
        go (con c) (inr k) e = sym (s_known u k ∙ ap (on_term τ) (sym e))
        go (var q) d e = at d (pick_cases q (terms r.head))
          where
            at : T (is_unknown r u) ⊎ T (not (is_unknown r u))
                → Shares q (terms r.head) (ρ q) ⊎ SharesNone q (terms r.head) (ρ q) → ρ q ≡ on_term s u
            at d (inl h) =
                h.value
                ∙ ap (on_term s)
                (sym
                (valid_alone r (left ds Q) σ ok h.at h.is_in h.unknown u
                (in_head m) (sym e ∙ sym h.shares)))
            at (inl k) (inr h) = absurd (h.nowhere u m k (sym e))
            at (inr k) (inr h) = h.value ∙ ap (on_term τ) e ∙ sym (s_known u k)

    -- the terms of the left atoms go by τ after σ: no existential variable is in their classes
    stays : (t : Term) → t ∈ terms (left ds Q) → t ∈ terms Q → on_term ρ t ≡ on_term (comp τ σ) t
    unfolding ρ
    stays (con c) m n = refl
    stays (var q) m n = go (pick_cases q (terms r.head))
      where
        go : Shares q (terms r.head) (ρ q) ⊎ SharesNone q (terms r.head) (ρ q) → ρ q ≡ comp τ σ q
        go (inl h) =
            absurd
            (apart q n
            (Memᴰ.cast
            (valid_alone r (left ds Q) σ ok h.at h.is_in h.unknown (var q)
            (Memᴰ.append_left _ m) (sym h.shares))
            h.is_in))
        go (inr h) = h.value

    -- the facts after the rule's application
    unfoldable G : Question
    G = F ++ on_question s r.head

    known_test : (t : Term) → t ∈ terms r.body → T (not (is_unknown r t))
    known_test (con c) m = tt
    known_test (var x) m =
        not_of (is_unknown r (var x))
        (λ k. clash (mem_term (var x) (terms r.body)) (mem→mem_term (terms r.body) m) k)

    applies_here : Applies r F G
    unfolding G N
    applies_here =
        record {
          by = s;
          sends = λ b m.
              Memᴰ.cast
              (on_atom_same s (comp τ σ) b
              (λ t n. s_known t (known_test t (terms_in r.body m n)) ∙ on_term_comp τ σ t))
              (body-holds b m);
          fresh = λ z u.
              record {
                number = N + z;
                is = s_unknown z (unknown_test r z u);
                absent = λ m. above z (bound_above (terms F) (N + z) m);
              };
          distinct = λ y z u v e.
              cancel y z
              (var_inj (sym (s_unknown y (unknown_test r y u)) ∙ e ∙ s_unknown z (unknown_test r z v)));
          result = refl;
        }
      where
        above : (z : ℕ) → N + z < N → ⊥
        above z h = omega arith

        cancel : (y z : ℕ) → N + y ≡ N + z → y ≡ z
        cancel y z e = omega arith

    -- an atom that is left holds in F, one that is sent goes to its head atom's image
    holds_here : HoldsPairs (Kernel σ) (pairing ds Q r.head) → Covers Q G
    unfolding G
    holds_here unified =
        record { by = ρ; sends = λ a m. go a m (split_choice (Kernel σ) ds Q r.head a unified m) }
      where
        go : (a : Atom) → a ∈ Q → (a ∈ left ds Q) ⊎ ((d : ℕ) × HoldsPairs (Kernel σ) (to_head r.head d a))
            → on_atom ρ a ∈ F ++ on_question s r.head
        go a m (inl k) =
            Memᴰ.append_left _
            (Memᴰ.cast
            (on_atom_same ρ (comp τ σ) a (λ t n. stays t (terms_in (left ds Q) k n) (terms_in Q m n)))
            (left_holds a k))
        go a m (inr h) =
            let b = head_of σ r.head h.0 a h.1 in
            Memᴰ.append_right F
            (Memᴰ.cast
            (atom_meet σ ρ s a b.0 b.2 (λ t u n e. meet t u (terms_in r.head b.1 n) e))
            (Memᴰ.map (on_atom s) b.1))

-- 01's rewritings are sound: facts in which one holds become facts in which the question holds by applying the rule
pub step_sound : (k : ℕ) (r : Rule) (Q P F : Question) → Below k Q → P ∈ rewritings k r Q → Covers P F
    → (G : Question) × Applies r F G × Covers Q G
step_sound k r Q P F below m cov = (
  G r' Q F ds σ τ apart ok lefts bodies,
  unmoved k r F _ (applies_here r' Q F ds σ τ apart ok lefts bodies),
  holds_here r' Q F ds σ τ apart ok lefts bodies solved,
)
  where
    found : (n : ℕ) × Made k r Q n P
    found = rewritings_out m

    w : Made k r Q found.0 P
    w = found.1

    r' : Rule
    r' = move k r

    ds : Choice
    ds = w.choice

    σ : Sub
    σ = w.classes

    ok : T (valid σ (left ds Q) r')
    ok = w.ok

    all : Covers (rewriting σ (left ds Q) r') F
    all =
        covers_trans (form_equivalent (rewriting σ (left ds Q) r')).0
        (subst (λ (A : Question). Covers A F) (sym w.is) cov)

    τ : Sub
    τ = all.by

    every : (a : Atom) → a ∈ left ds Q ++ r'.body → on_atom (comp τ σ) a ∈ F
    every a n = Memᴰ.cast (sym (on_atom_comp τ σ a)) (all.sends (on_atom σ a) (Memᴰ.map (on_atom σ) n))

    lefts : Sends (comp τ σ) (left ds Q) F
    lefts a n = every a (Memᴰ.append_left r'.body n)

    bodies : Sends (comp τ σ) r'.body F
    bodies a n = every a (Memᴰ.append_right (left ds Q) n)

    solved : HoldsPairs (Kernel σ) (pairing ds Q r'.head)
    solved = (unify_sound (pairing ds Q r'.head) var σ w.found).holds

    apart : (n : ℕ) → var n ∈ terms Q → var n ∈ terms r'.head → ⊥
    apart n q h = moved_apart k Q r.head below n q h
