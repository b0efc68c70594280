-- Each search of `Verdict` finds the earliest place at which its condition holds. Assumes nothing.
use mathlib.Core.Path.{◌≡◌, refl, sym, ◌∙◌, ap, subst}
use mathlib.Core.Bool.{Bool, true, false, cond, not}
use mathlib.Core.Logic.{◌⊎◌, inl, inr}
use mathlib.Core.List.{List}
use mathlib.Core.Option.{some}
use Prim.Native.Nat.{ℕ, zero, suc, ◌+◌, ◌*◌, ◌≤◌, ◌<◌}
use native.Mathlib.Omega.{arith}
use lib.Dec.{T, ltb, leb, ltb→lt, nltb→le}
use Rattle.reading.specs.Word.{byte}
use Rattle.reading.specs.Header.{form_of, variables}
use Rattle.reading.specs.Header.{relations, constants, inside, places_range, atom_size, atom_places}
use Rattle.reading.specs.Book.{body_count, head_count, body_at, rule_end, after, places_of}
use Rattle.reading.specs.Refusals.{place_allowed, AtomWrong, relation, place}
use Rattle.reading.specs.Verdict.{wrong_places, rule_right, wrong_rule, wrong_place, wrong_in_atom, wrong_in_atoms}
use Rattle.reading.specs.Verdict.{wrong_in_rules}
use Rattle.reading.proofs.Earliest.{Earliest, nowhere, first, earliest_same, earliest_test, earliest_else}
use Rattle.reading.proofs.Earliest.{here_or_later, Failing, earliest_each}
use Rattle.reading.proofs.After.{after_late}
use Rattle.reading.proofs.Forms.{atoms_within}

module _ (B : List ℕ) where
  -- 5: a byte among n from i on
  abbrev pub PlacesFrom : ℕ → ℕ → ℕ → Type 0
  PlacesFrom = Failing (λ p. inside (places_range (form_of B)) (byte B p))

  pub places_earliest : (i n : ℕ) → Earliest (PlacesFrom i n) (wrong_places B i n)
  unfolding wrong_places
  places_earliest =
      earliest_each (λ p. inside (places_range (form_of B)) (byte B p)) (wrong_places B) (λ i. refl) (λ i n. refl)

  -- 6: a rule among n from s on, or their end
  abbrev pub RulesFrom : ℕ → ℕ → ℕ → ℕ → Type 0
  RulesFrom e s n p =
      ((k : ℕ) × (k < n) × (p ≡ after B s k) × (T (rule_right B e p) → ⊥))
      ⊎ ((p ≡ after B s n) × (T (leb e p) → ⊥))

  pub rules_earliest : (e s n : ℕ) → Earliest (RulesFrom e s n) (wrong_rule B e s n)
  unfolding wrong_rule after
  rules_earliest e s zero = earliest_same (λ p w. inr w) out (earliest_test (leb e) s)
    where
      out : (p : ℕ) → RulesFrom e s zero p → (p ≡ s) × (T (leb e p) → ⊥)
      out p (inl w) = let l = w.1 in omega arith
      out p (inr w) = w
  rules_earliest e s (suc n) =
      earliest_same join part
      (earliest_else (earliest_test (rule_right B e) s) (rules_earliest e (rule_end B s) n) (λ p q v w. later p q v w))
    where
      later : (p q : ℕ) → (p ≡ s) × (T (rule_right B e p) → ⊥) → RulesFrom e (rule_end B s) n q → p ≤ q
      later p q v (inl w) = omega (arith, after_late B (rule_end B s) w.0)
      later p q v (inr w) = omega (arith, after_late B (rule_end B s) n)

      join : (p : ℕ) → ((p ≡ s) × (T (rule_right B e p) → ⊥)) ⊎ RulesFrom e (rule_end B s) n p → RulesFrom e s (suc n) p
      join p (inl v) = inl (0, omega arith, v.0, v.1)
      join p (inr (inl w)) = inl (suc w.0, omega arith, w.2, w.3)
      join p (inr (inr w)) = inr w

      at : (p k : ℕ) → k < suc n → p ≡ after B s k → (T (rule_right B e p) → ⊥)
          → ((p ≡ s) × (T (rule_right B e p) → ⊥)) ⊎ RulesFrom e (rule_end B s) n p
      at p zero l h f = inl (h, f)
      at p (suc k) l h f = inr (inl (k, omega arith, h, f))

      part : (p : ℕ) → RulesFrom e s (suc n) p → ((p ≡ s) × (T (rule_right B e p) → ⊥)) ⊎ RulesFrom e (rule_end B s) n p
      part p (inl w) = at p w.0 w.1 w.2 w.3
      part p (inr w) = inr (inr w)

  -- 7: one of n places, from place w on
  abbrev pub PlaceFrom : ℕ → ℕ → ℕ → ℕ → ℕ → Type 0
  PlaceFrom u i w n p =
      (v : ℕ) × (w ≤ v) × (v < w + n) × (p ≡ i + v)
      × (T (place_allowed (variables B) (constants B) (ltb v u) (byte B p)) → ⊥)

  pub place_earliest : (u i w n : ℕ) → Earliest (PlaceFrom u i w n) (wrong_place B u i w n)
  unfolding wrong_place
  place_earliest u i w zero = nowhere (λ p r. let l = r.1 in let m = r.2 in omega arith)
  place_earliest u i w (suc n) =
      earliest_same join (λ p r. part p r (here_or_later w r.0 r.1))
      (earliest_else (earliest_test right (i + w)) (place_earliest u i (w + 1) n) (λ p q v r. later p q v r))
    where
      right : ℕ → Bool
      right p = place_allowed (variables B) (constants B) (ltb w u) (byte B p)

      later : (p q : ℕ) → (p ≡ i + w) × (T (right p) → ⊥) → PlaceFrom u i (w + 1) n q → p ≤ q
      later p q v r = omega (arith, r.1, r.3)

      join : (p : ℕ) → ((p ≡ i + w) × (T (right p) → ⊥)) ⊎ PlaceFrom u i (w + 1) n p → PlaceFrom u i w (suc n) p
      join p (inl v) = (w, omega arith, omega arith, v.0, v.1)
      join p (inr r) = (r.0, omega (arith, r.1), omega (arith, r.2), r.3, r.4)

      part : (p : ℕ) (r : PlaceFrom u i w (suc n) p) → (r.0 ≡ w) ⊎ (w + 1 ≤ r.0)
          → ((p ≡ i + w) × (T (right p) → ⊥)) ⊎ PlaceFrom u i (w + 1) n p
      part p r (inl e) =
          inl (
            r.3 ∙ ap (λ (v : ℕ). i + v) e,
            subst (λ (v : ℕ). T (place_allowed (variables B) (constants B) (ltb v u) (byte B p)) → ⊥) e r.4,
          )
      part p r (inr l) = inr (r.0, l, omega (arith, r.2), r.3, r.4)

  -- a byte of the atom at i
  atom_earliest : (i : ℕ) → Earliest (AtomWrong B i) (wrong_in_atom B i)
  unfolding wrong_in_atom
  atom_earliest i = go (ltb (byte B i) (relations B)) (λ t. ltb→lt _ _ t) (λ t. nltb→le _ _ t)
    where
      join : byte B i < relations B → (p : ℕ) → PlaceFrom (places_of B (byte B i)) (i + 1) 0 (atom_places B) p
          → AtomWrong B i p
      join l p r = place l r.0 (omega (arith, r.2)) r.3 r.4

      part : byte B i < relations B → (p : ℕ) → AtomWrong B i p
          → PlaceFrom (places_of B (byte B i)) (i + 1) 0 (atom_places B) p
      part l p (relation h e) = absurd (omega arith)
      part l p (place h w m e f) = (w, omega arith, omega arith, e, f)

      least : relations B ≤ byte B i → (q : ℕ) → AtomWrong B i q → i ≤ q
      least l q (relation h e) = omega arith
      least l q (place h w m e f) = omega arith

      go : (b : Bool) → (T b → byte B i < relations B) → (T (not b) → relations B ≤ byte B i)
          → Earliest (AtomWrong B i) (cond b (wrong_place B (places_of B (byte B i)) (i + 1) 0 (atom_places B)) (some i))
      go true lo hi =
          earliest_same (join (lo tt)) (part (lo tt)) (place_earliest (places_of B (byte B i)) (i + 1) 0 (atom_places B))
      go false lo hi = first (relation (hi tt) refl) (least (hi tt))

  pub atom_from : (i p : ℕ) → AtomWrong B i p → i ≤ p
  atom_from i p (relation h e) = omega arith
  atom_from i p (place h w m e f) = omega arith

  pub atom_to : (i p : ℕ) → AtomWrong B i p → p < i + atom_size B
  atom_to i p (relation h e) = omega arith
  atom_to i p (place h w m e f) = omega arith

  -- a byte of n atoms from i on
  abbrev pub AtomsFrom : ℕ → ℕ → ℕ → Type 0
  AtomsFrom i n p = (j : ℕ) × (j < n) × AtomWrong B (i + atom_size B * j) p

  pub atoms_from : (i n p : ℕ) → AtomsFrom i n p → i ≤ p
  atoms_from i n p r = omega (arith, atom_from (i + atom_size B * r.0) p r.2)

  pub atoms_to : (i n p : ℕ) → AtomsFrom i n p → p < i + atom_size B * n
  atoms_to i n p r = omega (arith, atoms_within (atom_size B) r.1, atom_to (i + atom_size B * r.0) p r.2)

  first_atom : (i : ℕ) → i + atom_size B * 0 ≡ i
  first_atom i = omega arith

  next_atom : (i j : ℕ) → i + atom_size B * suc j ≡ i + atom_size B + atom_size B * j
  next_atom i j = omega arith

  pub atoms_earliest : (i n : ℕ) → Earliest (AtomsFrom i n) (wrong_in_atoms B i n)
  unfolding wrong_in_atoms
  atoms_earliest i zero = nowhere (λ p r. let l = r.1 in omega arith)
  atoms_earliest i (suc n) =
      earliest_same join (λ p r. part p r.0 r.1 r.2)
      (earliest_else (atom_earliest i) (atoms_earliest (i + atom_size B) n) later)
    where
      later : (p q : ℕ) → AtomWrong B i p → AtomsFrom (i + atom_size B) n q → p ≤ q
      later p q v r = omega (arith, atom_to i p v, atoms_from (i + atom_size B) n q r)

      join : (p : ℕ) → AtomWrong B i p ⊎ AtomsFrom (i + atom_size B) n p → AtomsFrom i (suc n) p
      join p (inl v) = (0, omega arith, subst (λ (k : ℕ). AtomWrong B k p) (sym (first_atom i)) v)
      join p (inr r) =
          (suc r.0, omega (arith, r.1), subst (λ (k : ℕ). AtomWrong B k p) (sym (next_atom i r.0)) r.2)

      part : (p j : ℕ) → j < suc n → AtomWrong B (i + atom_size B * j) p
          → AtomWrong B i p ⊎ AtomsFrom (i + atom_size B) n p
      part p zero l v = inl (subst (λ (k : ℕ). AtomWrong B k p) (first_atom i) v)
      part p (suc j) l v = inr (j, omega arith, subst (λ (k : ℕ). AtomWrong B k p) (next_atom i j) v)

  -- a byte of the atoms of n rules from s on
  abbrev pub AtRule : ℕ → ℕ → Type 0
  AtRule s p = AtomsFrom (body_at B s) (body_count B s + head_count B s) p

  abbrev pub RuleBytes : ℕ → ℕ → ℕ → Type 0
  RuleBytes s n p = (k : ℕ) × (k < n) × AtRule (after B s k) p

  at_rule_from : (s p : ℕ) → AtRule s p → s ≤ p
  at_rule_from s p r = omega (arith, atoms_from _ _ p r)

  at_rule_to : (s p : ℕ) → AtRule s p → p < rule_end B s
  at_rule_to s p r = omega (arith, atoms_to _ _ p r)

  pub bytes_to : (s n p : ℕ) → RuleBytes s n p → p < after B s n
  unfolding after
  bytes_to s zero p r = let l = r.1 in absurd (omega arith)
  bytes_to s (suc n) p r = go r.0 r.1 r.2 (λ t. bytes_to (rule_end B s) n p t)
    where
      go : (k : ℕ) → k < suc n → AtRule (after B s k) p → (RuleBytes (rule_end B s) n p → p < after B (rule_end B s) n)
          → p < after B (rule_end B s) n
      go zero l v below = omega (arith, at_rule_to s p v, after_late B (rule_end B s) n)
      go (suc k) l v below = below (k, omega arith, v)

  bytes_from : (s n p : ℕ) → RuleBytes s n p → s ≤ p
  bytes_from s n p r = omega (arith, at_rule_from _ p r.2, after_late B s r.0)

  pub bytes_earliest : (s n : ℕ) → Earliest (RuleBytes s n) (wrong_in_rules B s n)
  unfolding wrong_in_rules after
  bytes_earliest s zero = nowhere (λ p r. let l = r.1 in omega arith)
  bytes_earliest s (suc n) =
      earliest_same join (λ p r. part p r.0 r.1 r.2)
      (earliest_else
      (atoms_earliest (body_at B s) (body_count B s + head_count B s))
      (bytes_earliest (rule_end B s) n)
      later)
    where
      later : (p q : ℕ) → AtRule s p → RuleBytes (rule_end B s) n q → p ≤ q
      later p q v r = omega (arith, at_rule_to s p v, bytes_from (rule_end B s) n q r)

      join : (p : ℕ) → AtRule s p ⊎ RuleBytes (rule_end B s) n p → RuleBytes s (suc n) p
      join p (inl v) = (0, omega arith, v)
      join p (inr r) = (suc r.0, omega (arith, r.1), r.2)

      part : (p k : ℕ) → k < suc n → AtRule (after B s k) p → AtRule s p ⊎ RuleBytes (rule_end B s) n p
      part p zero l v = inl v
      part p (suc k) l v = inr (k, omega arith, v)
