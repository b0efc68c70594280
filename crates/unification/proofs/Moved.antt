-- Moved rules: their variables are no question variables, and a moved rule applies exactly as the rule does. Assumes
-- nothing.
use mathlib.Core.Path.{◌≡◌, refl, sym, ◌∙◌, ap, subst}
use mathlib.Core.Bool.{cond}
use mathlib.Core.List.Memᴰ
use mathlib.Core.List.{List, ◌++◌, map-map}
use Prim.Native.Nat.{ℕ, ◌+◌, ◌-◌, ◌<◌}
use native.Mathlib.Omega.{arith}
use lib.Dec.{ltb, lt→ltb, ltb→lt}
use Rattle.covering.specs.Lists.{◌∈◌}
use Rattle.covering.specs.Term.{Term, Atom, Question, terms, Sub, on_term, on_atom, on_question, comp, var, con, Below}
use Rattle.covering.proofs.Lists.{map_same}
use Rattle.covering.proofs.Tests.{not_of, cond_yes, cond_no}
use Rattle.covering.proofs.Terms.{var_inj, var≢con, on_term_comp, on_atom_same, on_atom_comp, terms_on}
use Rattle.covering.specs.Rule.{Rule, Unknown}
use Rattle.unification.specs.Step.{up, move}
use Rattle.unification.specs.Apply.{Fresh, Applies}

-- where the terms of what is moved come from
pub moved_term : (k : ℕ) (A : Question) {t : Term} → t ∈ terms (on_question (up k) A)
    → (x : Term) × (x ∈ terms A) × (on_term (up k) x ≡ t)
moved_term k A {t} m =
    Memᴰ.of_map (on_term (up k)) (terms A) (subst (λ (l : List Term). t ∈ l) (terms_on (up k) A) m)

pub term_moved : (k : ℕ) (A : Question) {t : Term} → t ∈ terms A → on_term (up k) t ∈ terms (on_question (up k) A)
term_moved k A {t} m =
    subst (λ (l : List Term). on_term (up k) t ∈ l) (sym (terms_on (up k) A)) (Memᴰ.map (on_term (up k)) m)

-- an application of the moved rule is one of the rule
unmoved_unknown : (k : ℕ) (r : Rule) (n : ℕ) → Unknown r n → Unknown (move k r) (k + n)
unmoved_unknown k r n u =
    record {
      in_head = term_moved k r.head u.in_head;
      not_body = λ b. u.not_body (down (moved_term k r.body b));
    }
  where
    at : (t : Term) → t ∈ terms r.body → on_term (up k) t ≡ var (k + n) → var n ∈ terms r.body
    at (var x) m e =
        let q : k + x ≡ k + n = var_inj e in
        let same : n ≡ x = omega arith in
        Memᴰ.cast (ap var same) m
    at (con c) m e = absurd (var≢con (sym e))

    down : (t : Term) × (t ∈ terms r.body) × (on_term (up k) t ≡ var (k + n)) → var n ∈ terms r.body
    down h = at h.0 h.1 h.2

pub unmoved : (k : ℕ) (r : Rule) (F G : Question) → Applies (move k r) F G → Applies r F G
unmoved k r F G a =
    record {
      by = comp a.by (up k);
      sends = λ b m.
          Memᴰ.cast (sym (on_atom_comp a.by (up k) b))
          (a.sends (on_atom (up k) b) (Memᴰ.map (on_atom (up k)) m));
      fresh = λ z u. a.fresh (k + z) (unmoved_unknown k r z u);
      distinct = λ y z u v e.
          cancel y z (a.distinct (k + y) (k + z) (unmoved_unknown k r y u) (unmoved_unknown k r z v) e);
      result =
          a.result
          ∙ ap (λ (A : Question). F ++ A)
          (map-map (on_atom a.by) (on_atom (up k)) r.head
          ∙ map_same _ _ r.head (λ b _. on_atom_comp a.by (up k) b));
    }
  where
    cancel : (y z : ℕ) → k + y ≡ k + z → y ≡ z
    cancel y z e = omega arith

-- moved variables are no question variables
pub moved_apart : (k : ℕ) (Q A : Question) → Below k Q → (n : ℕ) → var n ∈ terms Q
    → var n ∈ terms (on_question (up k) A) → ⊥
moved_apart k Q A below n q h = go (moved_term k A h)
  where
    at : (t : Term) → on_term (up k) t ≡ var n → ⊥
    at (var x) e = let same : k + x ≡ n = var_inj e in let low : n < k = below n q in omega arith
    at (con c) e = var≢con (sym e)

    go : (t : Term) × (t ∈ terms A) × (on_term (up k) t ≡ var n) → ⊥
    go t = at t.0 t.2

-- a map on the moved rule and the question at once
abbrev pub glue : ℕ → Sub → Sub → Sub
glue k q s n = cond (ltb n k) (q n) (s (n - k))

pub glue_below : (k : ℕ) (q s : Sub) (A : Question) → Below k A → (t : Term) → t ∈ terms A
    → on_term (glue k q s) t ≡ on_term q t
glue_below k q s A b (var n) m = cond_yes (ltb n k) (q n) (s (n - k)) (lt→ltb n k (b n m))
glue_below k q s A b (con c) m = refl

pub glue_rule : (k : ℕ) (q s : Sub) (t : Term) → on_term (glue k q s) (on_term (up k) t) ≡ on_term s t
glue_rule k q s (var n) =
    cond_no (ltb (k + n) k) (q (k + n)) (s (k + n - k))
    (not_of (ltb (k + n) k) (λ t. never (ltb→lt (k + n) k t)))
    ∙ ap s (back)
  where
    never : k + n < k → ⊥
    never h = omega arith

    back : k + n - k ≡ n
    back = omega arith
glue_rule k q s (con c) = refl

pub glue_atom : (k : ℕ) (q s : Sub) (a : Atom) → on_atom (glue k q s) (on_atom (up k) a) ≡ on_atom s a
glue_atom k q s a =
    on_atom_comp (glue k q s) (up k) a
    ∙ on_atom_same (comp (glue k q s) (up k)) s a (λ t _. sym (on_term_comp (glue k q s) (up k) t) ∙ glue_rule k q s t)

pub glue_moved : (k : ℕ) (q s : Sub) (A : Question)
    → on_question (glue k q s) (on_question (up k) A) ≡ on_question s A
glue_moved k q s A =
    map-map (on_atom (glue k q s)) (on_atom (up k)) A ∙ map_same _ (on_atom s) A (λ a _. glue_atom k q s a)

-- an unknown of the moved rule is a moved unknown
pub unmove : (k : ℕ) (r : Rule) (z : ℕ) → Unknown (move k r) z → (n : ℕ) × Unknown r n × (z ≡ k + n)
unmove k r z u =
    go (moved_term k r.head u.in_head)
  where
    at : (t : Term) → t ∈ terms r.head → on_term (up k) t ≡ var z → (n : ℕ) × Unknown r n × (z ≡ k + n)
    at (var n) m e = (
      n,
      record {
        in_head = m;
        not_body = λ b. u.not_body (Memᴰ.cast (sym e) (term_moved k r.body b));
      },
      sym (var_inj e),
    )
    at (con c) m e = absurd (var≢con (sym e))

    go : (t : Term) × (t ∈ terms r.head) × (on_term (up k) t ≡ var z) → (n : ℕ) × Unknown r n × (z ≡ k + n)
    go h = at h.0 h.1 h.2

-- the moved rule applies by the glued map
unfoldable pub moved : (k : ℕ) (r : Rule) (q : Sub) {F G : Question} → Applies r F G → Applies (move k r) F G
moved k r q {F} {G} ap' =
    record {
      by = θ;
      sends = λ b m. sent b (Memᴰ.of_map (on_atom (up k)) r.body m);
      fresh = λ z u. freshly z (unmove k r z u);
      distinct = λ y z u v e. apart y z (unmove k r y u) (unmove k r z v) e;
      result = ap'.result ∙ ap (λ (A : Question). F ++ A) (sym (glue_moved k q s r.head));
    }
  where
    s : Sub
    s = ap'.by

    θ : Sub
    θ = glue k q s

    sent : (b : Atom) → (a : Atom) × (a ∈ r.body) × (on_atom (up k) a ≡ b) → on_atom θ b ∈ F
    sent b h = Memᴰ.cast (ap (on_atom θ) (sym h.2) ∙ glue_atom k q s h.0) (ap'.sends h.0 h.1)

    at : (z n : ℕ) → z ≡ k + n → θ z ≡ s n
    at z n e = ap θ e ∙ glue_rule k q s (var n)

    freshly : (z : ℕ) → (n : ℕ) × Unknown r n × (z ≡ k + n) → Fresh F (θ z)
    freshly z h = subst (Fresh F) (sym (at z h.0 h.2)) (ap'.fresh h.0 h.1)

    apart : (y z : ℕ) → (n : ℕ) × Unknown r n × (y ≡ k + n) → (n : ℕ) × Unknown r n × (z ≡ k + n) → θ y ≡ θ z
        → y ≡ z
    apart y z g h e =
        g.2
        ∙ ap (λ (n : ℕ). k + n)
        (ap'.distinct g.0 h.0 g.1 h.1 (sym (at y g.0 g.2) ∙ e ∙ at z h.0 h.2))
        ∙ sym h.2

-- variables below j are moved below k + j
pub moved_below : (k j : ℕ) (A : Question) → Below j A → Below (k + j) (on_question (up k) A)
moved_below k j A low n m = go (moved_term k A m)
  where
    at : (t : Term) → t ∈ terms A → on_term (up k) t ≡ var n → n < k + j
    at (var x) h e =
        let same : k + x ≡ n = var_inj e in
        let less : x < j = low x h in
        omega arith
    at (con c) h e = absurd (var≢con (sym e))

    go : (t : Term) × (t ∈ terms A) × (on_term (up k) t ≡ var n) → n < k + j
    go x = at x.0 x.1 x.2
