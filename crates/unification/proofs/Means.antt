-- Validity is 01's sentence: "a class with an existential variable has otherwise only question variables that occur
-- in no left atom" (`valid_means`). Assumes nothing.
use mathlib.Core.Path.{◌≡◌, refl, sym, ◌∙◌, ap}
use mathlib.Core.Logic.{◌⊎◌, inl, inr, ◌↔◌}
use mathlib.Core.List.Memᴰ
use mathlib.Core.List.{List, [], ◌∷◌, ◌++◌}
use mathlib.Core.Option.{some}
use Prim.Native.Nat.{ℕ, zero, suc}
use lib.Dec.{T}
use Rattle.covering.specs.Lists.{◌∈◌}
use Rattle.covering.specs.Term.{Term, Atom, Question, terms, Sub, on_term, var, con, Below}
use Rattle.covering.proofs.Terms.{var≢con}
use Rattle.covering.specs.Rule.{Rule, Unknown}
use Rattle.unification.specs.Classes.{Pair, unify, Kernel, Equivalence, HoldsPairs}
use Rattle.unification.specs.Choice.{Choice, left, place_pairs, to_head, pairing}
use Rattle.unification.specs.Step.{move, guarded, valid}
use Rattle.unification.proofs.Classes.{unify_sound, least_equivalence, idempotent}
use Rattle.unification.proofs.Moved.{moved_apart}
use Rattle.unification.proofs.Pairs.{no_clash}
use Rattle.unification.proofs.Valid.{valid_here, valid_alone, valid_varlike, unknown_test}

-- a question variable that occurs in no left atom
pub record Free (Q L : Question) (t : Term) : Type 0 where
  pub number : ℕ
  pub is : t ≡ var number
  pub in_question : t ∈ terms Q
  pub not_left : ¬ (t ∈ terms L)

-- of each class with an existential variable, every other term is one
abbrev pub OnlyFree : Sub → Question → Question → Rule → Type 0
OnlyFree σ Q L r = (z : ℕ) → Unknown r z → (t : Term) → Kernel σ t (var z) → (t ≡ var z) ⊎ Free Q L t

-- the two sides of a pair that is held: the same, or a question term and a head term
abbrev Sides : Question → Question → Term → Term → Type 0
Sides Q H t v = (t ≡ v) ⊎ ((t ∈ terms Q) × (v ∈ terms H))

abbrev PlaceSides : List Term → List Term → Pair → Type 0
PlaceSides ts us p = (p.0 ∈ ts) × (p.1 ∈ us)

module _ (σ : Sub) where
  places_sides : (ts us : List Term) → HoldsPairs (Kernel σ) (place_pairs ts us) → (p : Pair) → p ∈ place_pairs ts us
      → PlaceSides ts us p
  places_sides [] [] h p m = absurd (Memᴰ.not-nil m)
  places_sides [] (u ∷ us) h p m = absurd (no_clash σ h)
  places_sides (t ∷ ts) [] h p m = absurd (no_clash σ h)
  places_sides (t ∷ ts) (u ∷ us) h p m =
      go (Memᴰ.cases_cons m) (places_sides ts us (λ q n. h q (Memᴰ.tail n)) p)
    where
      go : (p ≡ (t, u)) ⊎ (p ∈ place_pairs ts us) → (p ∈ place_pairs ts us → PlaceSides ts us p)
          → PlaceSides (t ∷ ts) (u ∷ us) p
      go (inl e) below = (Memᴰ.head (ap (λ (q : Pair). q.0) e), Memᴰ.head (ap (λ (q : Pair). q.1) e))
      go (inr n) below = let r = below n in (Memᴰ.tail r.0, Memᴰ.tail r.1)

  head_sides : (H : Question) (d : ℕ) (a : Atom) → HoldsPairs (Kernel σ) (to_head H d a) → (p : Pair)
      → p ∈ to_head H d a → (p.0 ≡ p.1) ⊎ PlaceSides a.args (terms H) p
  head_sides [] d a h p m = absurd (no_clash σ h)
  head_sides (b ∷ H) zero a h p m = go (Memᴰ.cases_cons m)
    where
      go : (p ≡ (con a.rel, con b.rel)) ⊎ (p ∈ place_pairs a.args b.args)
          → (p.0 ≡ p.1) ⊎ PlaceSides a.args (b.args ++ terms H) p
      go (inl e) =
          inl
          (ap (λ (q : Pair). q.0) e
          ∙ h (con a.rel, con b.rel) (Memᴰ.head refl)
          ∙ sym (ap (λ (q : Pair). q.1) e))
      go (inr n) =
          let r = places_sides a.args b.args (λ q k. h q (Memᴰ.tail k)) p n in
          inr (r.0, Memᴰ.append_left (terms H) r.1)
  head_sides (b ∷ H) (suc d) a h p m = go (head_sides H d a h p m)
    where
      go : (p.0 ≡ p.1) ⊎ PlaceSides a.args (terms H) p
          → (p.0 ≡ p.1) ⊎ PlaceSides a.args (b.args ++ terms H) p
      go (inl e) = inl e
      go (inr x) = inr (x.0, Memᴰ.append_right b.args x.1)

  pairing_sides : (ds : Choice) (Q H : Question) → HoldsPairs (Kernel σ) (pairing ds Q H) → (p : Pair)
      → p ∈ pairing ds Q H → Sides Q H p.0 p.1
  pairing_sides [] Q H h p m = absurd (Memᴰ.not-nil m)
  pairing_sides (d ∷ ds) [] H h p m = absurd (Memᴰ.not-nil m)
  pairing_sides (zero ∷ ds) (a ∷ Q) H h p m = go (pairing_sides ds Q H h p m)
    where
      go : Sides Q H p.0 p.1 → Sides (a ∷ Q) H p.0 p.1
      go (inl e) = inl e
      go (inr x) = inr (Memᴰ.append_right a.args x.0, x.1)
  pairing_sides (suc d ∷ ds) (a ∷ Q) H h p m =
      go (Memᴰ.append_cases (to_head H d a) m)
      (pairing_sides ds Q H (λ q n. h q (Memᴰ.append_right (to_head H d a) n)) p)
    where
      here : (p.0 ≡ p.1) ⊎ PlaceSides a.args (terms H) p → Sides (a ∷ Q) H p.0 p.1
      here (inl e) = inl e
      here (inr x) = inr (Memᴰ.append_left (terms Q) x.0, x.1)

      later : Sides Q H p.0 p.1 → Sides (a ∷ Q) H p.0 p.1
      later (inl e) = inl e
      later (inr x) = inr (Memᴰ.append_right a.args x.0, x.1)

      go : (p ∈ to_head H d a) ⊎ (p ∈ pairing ds Q H) → (p ∈ pairing ds Q H → Sides Q H p.0 p.1)
          → Sides (a ∷ Q) H p.0 p.1
      go (inl n) below = here (head_sides H d a (λ q k. h q (Memᴰ.append_left (pairing ds Q H) k)) p n)
      go (inr n) below = later (below n)

-- equal, or both in a list
Among : List Term → Term → Term → Type 0
Among S t v = (t ≡ v) ⊎ ((t ∈ S) × (v ∈ S))

among_equivalence : (S : List Term) → Equivalence (Among S)
unfolding Among
among_equivalence S = record { same = λ t. inl refl; turn = turn; chain = chain }
  where
    turn : (t v : Term) → Among S t v → Among S v t
    turn t v (inl e) = inl (sym e)
    turn t v (inr h) = inr (h.1, h.0)

    chain : (t v w : Term) → Among S t v → Among S v w → Among S t w
    chain t v w (inl e) (inl f) = inl (e ∙ f)
    chain t v w (inl e) (inr h) = inr (Memᴰ.cast e h.0, h.1)
    chain t v w (inr h) (inl f) = inr (h.0, Memᴰ.cast (sym f) h.1)
    chain t v w (inr h) (inr g) = inr (h.0, g.1)

module _ (k : ℕ) (r : Rule) (Q : Question) (below : Below k Q) (ds : Choice) (σ : Sub)
    (found : unify (pairing ds Q (move k r).head) var ≡ some σ)
  where
    abbrev r' : Rule
    r' = move k r

    abbrev L : Question
    L = left ds Q

    abbrev S : List Term
    S = terms Q ++ terms r'.head

    -- what is in one class with another term is a term of the question or of the head
    class_terms : (t v : Term) → Kernel σ t v → Among S t v
    unfolding Among
    class_terms t v e =
        (least_equivalence (pairing ds Q r'.head) σ found).1 (Among S) (among_equivalence S) pairs t v e
      where
        solved : HoldsPairs (Kernel σ) (pairing ds Q r'.head)
        solved = (unify_sound (pairing ds Q r'.head) var σ found).holds

        among : (p : Pair) → Sides Q r'.head p.0 p.1 → Among S p.0 p.1
        among p (inl x) = inl x
        among p (inr x) = inr (Memᴰ.append_left (terms r'.head) x.0, Memᴰ.append_right (terms Q) x.1)

        pairs : HoldsPairs (Among S) (pairing ds Q r'.head)
        pairs p m = among p (pairing_sides σ ds Q r'.head solved p m)

    -- a constant that stands for a variable is a term of the question or of the head
    pub class_constant : (n c : ℕ) → σ n ≡ con c → (con c ∈ terms Q) ⊎ (con c ∈ terms (move k r).head)
    unfolding Among
    class_constant n c e = go (class_terms (con c) (var n) (sym e))
      where
        go : (con c ≡ var n) ⊎ ((con c ∈ S) × (var n ∈ S)) → (con c ∈ terms Q) ⊎ (con c ∈ terms r'.head)
        go (inl q) = absurd (var≢con (sym q))
        go (inr m) = Memᴰ.append_cases (terms Q) m.0

    -- a valid choice's classes are as 01 says
    valid_free : T (valid σ L r') → OnlyFree σ Q L r'
    unfolding Among
    valid_free ok z u t e = go (class_terms t (var z) e)
      where
        alone : t ∈ guarded L r' → t ≡ var z
        alone m = valid_alone r' L σ ok (var z) u.in_head (unknown_test r' z u) t m e

        free : (v : Term) → t ≡ v → v ∈ terms Q → (t ≡ var z) ⊎ Free Q L t
        free (con c) q m =
            absurd
            (valid_varlike r' L σ ok (var z) u.in_head (unknown_test r' z u) c
            (sym (ap (on_term σ) (sym q) ∙ e)))
        free (var x) q m =
            inr (record {
              number = x;
              is = q;
              in_question = Memᴰ.cast q m;
              not_left = λ n.
                  moved_apart k Q r.head below z
                  (Memᴰ.cast (sym (alone (Memᴰ.append_left _ n)) ∙ q) m) u.in_head;
            })

        at : (t ∈ terms Q) ⊎ (t ∈ terms r'.head) → (t ≡ var z) ⊎ Free Q L t
        at (inl m) = free t refl m
        at (inr m) = inl (alone (Memᴰ.append_right (terms L) (Memᴰ.append_right (terms r'.body) m)))

        go : (t ≡ var z) ⊎ ((t ∈ S) × (var z ∈ S)) → (t ≡ var z) ⊎ Free Q L t
        go (inl q) = inl q
        go (inr m) = at (Memᴰ.append_cases (terms Q) m.0)

    -- and classes that are as 01 says make a valid choice
    free_valid : OnlyFree σ Q L r' → T (valid σ L r')
    free_valid h =
        valid_here r' L σ σ (λ n. idempotent (pairing ds Q r'.head) σ found (var n))
        (λ n u c e. constant n (h n u (con c) (sym e)))
        (λ n u t g e. lonely n t g (h n u t e))
      where
        constant : (n : ℕ) {c : ℕ} → (con c ≡ var n) ⊎ Free Q L (con c) → ⊥
        constant n (inl q) = var≢con (sym q)
        constant n (inr x) = var≢con (sym x.is)

        lonely : (n : ℕ) (t : Term) → t ∈ guarded L r' → (t ≡ var n) ⊎ Free Q L t → t ≡ var n
        lonely n t g (inl q) = q
        lonely n t g (inr x) = absurd (where_is (Memᴰ.append_cases (terms L) g))
          where
            in_q : var x.number ∈ terms Q
            in_q = Memᴰ.cast (sym x.is) x.in_question

            in_rule : (t ∈ terms r'.body) ⊎ (t ∈ terms r'.head) → ⊥
            in_rule (inl m) = moved_apart k Q r.body below x.number in_q (Memᴰ.cast (sym x.is) m)
            in_rule (inr m) = moved_apart k Q r.head below x.number in_q (Memᴰ.cast (sym x.is) m)

            where_is : (t ∈ terms L) ⊎ (t ∈ terms r'.body ++ terms r'.head) → ⊥
            where_is (inl m) = x.not_left m
            where_is (inr m) = in_rule (Memᴰ.append_cases (terms r'.body) m)

    pub valid_means : T (valid σ (left ds Q) (move k r)) ↔ OnlyFree σ Q (left ds Q) (move k r)
    valid_means = (valid_free, free_valid)
