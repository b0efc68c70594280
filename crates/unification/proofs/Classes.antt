-- The classes are the least equivalence that holds the pairs: 01's "as coarse as this requires and no coarser".
-- Assumes nothing.
use mathlib.Core.Path.{◌≡◌, refl, sym, ◌∙◌, ap, subst}
use mathlib.Core.Bool.{Bool, true, false, cond, not}
use mathlib.Core.Logic.{◌⊎◌, inl, inr}
use mathlib.Core.List.Memᴰ
use mathlib.Core.List.{List, [], ◌∷◌}
use mathlib.Core.Option.{Option, some, some-injective, none}
use Prim.Native.Nat.{ℕ}
use lib.Dec.{T, eqb, eqb→eq, eqb_refl}
use Rattle.covering.specs.Lists.{◌∈◌, bind}
use Rattle.covering.specs.Term.{Term, Sub, on_term, comp, var, con}
use Rattle.covering.proofs.Tests.{decide, none≢some, cond_yes, cond_no}
use Rattle.covering.proofs.Terms.{con_inj, on_term_var, on_term_comp}
use Rattle.unification.specs.Classes.{Pair, point, join, merge, unify, Kernel, Equivalence, Admissible}
use Rattle.unification.specs.Classes.{HoldsPairs}

point_cases : (v : ℕ) (b : Term) (n : ℕ) → ((n ≡ v) × (point v b (var n) ≡ b)) ⊎ (point v b (var n) ≡ var n)
point_cases v b n = go (decide (eqb n v))
  where
    go : T (eqb n v) ⊎ T (not (eqb n v)) → ((n ≡ v) × (point v b (var n) ≡ b)) ⊎ (point v b (var n) ≡ var n)
    go (inl t) = inl (eqb→eq n v t, cond_yes (eqb n v) b (var n) t)
    go (inr t) = inr (cond_no (eqb n v) b (var n) t)

-- whatever admissible equivalence holds the pairs, each variable is in its class with what stands for it
abbrev pub Near : (Term → Term → Type 0) → Sub → Type 0
Near E σ = (n : ℕ) → E (σ n) (var n)

pub record Least (E : Term → Term → Type 0) (o : Option Sub) : Type 0 where
  pub classes : Sub
  pub found : o ≡ some classes
  pub near : Near E classes

module _ (E : Term → Term → Type 0) (ad : Admissible E) where
  pub near_term : (σ : Sub) → Near E σ → (t : Term) → E (on_term σ t) t
  near_term σ h (var n) = h n
  near_term σ h (con c) = ad.eq.same (con c)

  near_point : (v : ℕ) (b x : Term) → E (var v) b → E (point v b x) x
  near_point v b (var n) e = go (point_cases v b n)
    where
      go : ((n ≡ v) × (point v b (var n) ≡ b)) ⊎ (point v b (var n) ≡ var n) → E (point v b (var n)) (var n)
      go (inl h) = rw (h.1, h.0) (ad.eq.turn (var v) b e)
      go (inr h) = rw h (ad.eq.same (var n))
  near_point v b (con c) e = ad.eq.same (con c)

  near_all : (σ : Sub) (v : ℕ) (b : Term) → Near E σ → E (var v) b → Near E (λ n. point v b (σ n))
  near_all σ v b h e n = ad.eq.chain _ (σ n) (var n) (near_point v b (σ n) e) (h n)

  join_least : (σ : Sub) (a b : Term) → Near E σ → E a b → Least E (join σ a b)
  join_least σ (var v) (var w) h e = record { classes = _; found = refl; near = near_all σ v (var w) h e }
  join_least σ (var v) (con d) h e = record { classes = _; found = refl; near = near_all σ v (con d) h e }
  join_least σ (con c) (var w) h e =
      record { classes = _; found = refl; near = near_all σ w (con c) h (ad.eq.turn (con c) (var w) e) }
  join_least σ (con c) (con d) h e =
      record {
        classes = σ;
        found =
            cond_yes (eqb c d) (some σ) none (subst (λ (x : ℕ). T (eqb c x)) (ad.apart c d e) (eqb_refl c));
        near = h;
      }

  pub unify_least : (ps : List Pair) (σ : Sub) → Near E σ → HoldsPairs E ps → Least E (unify ps σ)
  unify_least [] σ h k = record { classes = σ; found = refl; near = h }
  unify_least (p ∷ ps) σ h k =
      let one : Least E (merge σ p) =
      join_least σ _ _ h
      (ad.eq.chain _ p.0 _ (near_term σ h p.0)
      (ad.eq.chain p.0 p.1 _ (k p (Memᴰ.head refl))
      (ad.eq.turn _ p.1 (near_term σ h p.1)))) in
      let two = unify_least ps one.classes one.near (λ q m. k q (Memᴰ.tail m)) in
      record {
        classes = two.classes;
        found = ap (λ (o : Option Sub). bind o (λ τ. unify ps τ)) one.found ∙ two.found;
        near = two.near;
      }

-- what the classes say of the pairs
point_on : (v : ℕ) (b x : Term) → point v b x ≡ on_term (λ n. point v b (var n)) x
point_on v b (var n) = refl
point_on v b (con c) = refl

cond_same : {A : Type 0} (b : Bool) (x : A) → cond b x x ≡ x
cond_same true x = refl
cond_same false x = refl

point_self : (v : ℕ) (b : Term) → point v b (var v) ≡ b
point_self v b = cond_yes (eqb v v) b (var v) (eqb_refl v)

point_fix : (v : ℕ) (b : Term) → point v b b ≡ b
point_fix v (var w) = cond_same (eqb w v) (var w)
point_fix v (con d) = refl

pub coarser_term : (σ τ : Sub) (ρ : Sub) → ((n : ℕ) → τ n ≡ on_term ρ (σ n)) → (t : Term)
    → on_term τ t ≡ on_term ρ (on_term σ t)
coarser_term σ τ ρ h (var n) = h n
coarser_term σ τ ρ h (con c) = refl

-- τ is σ with a and b put together
record Joined (σ : Sub) (a b : Term) (τ : Sub) : Type 0 where
  more : Sub
  factors : (n : ℕ) → τ n ≡ on_term more (σ n)
  together : on_term more a ≡ on_term more b

joined_at : (σ τ : Sub) (v : ℕ) (b : Term) → some (λ n. point v b (σ n)) ≡ some τ → Joined σ (var v) b τ
joined_at σ τ v b e =
    record {
      more = λ n. point v b (var n);
      factors = λ n. ap (λ (f : Sub). f n) (sym (some-injective _ τ e)) ∙ point_on v b (σ n);
      together = point_self v b ∙ sym (point_fix v b) ∙ point_on v b b;
    }

join_sound : (σ τ : Sub) (a b : Term) → join σ a b ≡ some τ → Joined σ a b τ
join_sound σ τ (var v) (var w) e = joined_at σ τ v (var w) e
join_sound σ τ (var v) (con d) e = joined_at σ τ v (con d) e
join_sound σ τ (con c) (var w) e =
    let r = joined_at σ τ w (con c) e in
    record { more = r.more; factors = r.factors; together = sym r.together }
join_sound σ τ (con c) (con d) e = go (decide (eqb c d))
  where
    go : T (eqb c d) ⊎ T (not (eqb c d)) → Joined σ (con c) (con d) τ
    go (inl t) =
        record {
          more = var;
          factors = λ n.
              ap (λ (f : Sub). f n)
              (sym (some-injective σ τ (sym (cond_yes (eqb c d) (some σ) none t) ∙ e)))
              ∙ sym (on_term_var (σ n));
          together = ap con (eqb→eq c d t);
        }
    go (inr t) = absurd (none≢some (sym (cond_no (eqb c d) (some σ) none t) ∙ e))

-- τ is coarser than σ and holds the pairs
pub record Solved (ps : List Pair) (σ τ : Sub) : Type 0 where
  pub more : Sub
  pub factors : (n : ℕ) → τ n ≡ on_term more (σ n)
  pub holds : HoldsPairs (Kernel τ) ps

pub unify_sound : (ps : List Pair) (σ τ : Sub) → unify ps σ ≡ some τ → Solved ps σ τ
unify_sound [] σ τ e =
    record {
      more = var;
      factors = λ n. ap (λ (f : Sub). f n) (sym (some-injective σ τ e)) ∙ sym (on_term_var (σ n));
      holds = λ p m. absurd (Memᴰ.not-nil m);
    }
unify_sound (p ∷ ps) σ τ e = go (merge σ p) refl e (λ τ₁ h. unify_sound ps τ₁ τ h)
  where
    go : (o : Option Sub) → merge σ p ≡ o → bind o (λ τ₁. unify ps τ₁) ≡ some τ
        → ((τ₁ : Sub) → unify ps τ₁ ≡ some τ → Solved ps τ₁ τ) → Solved (p ∷ ps) σ τ
    go none e₁ e₂ below = absurd (none≢some e₂)
    go (some τ₁) e₁ e₂ below =
        let j = join_sound σ τ₁ (on_term σ p.0) (on_term σ p.1) e₁ in
        let s = below τ₁ e₂ in
        let merged : on_term τ₁ p.0 ≡ on_term τ₁ p.1 =
        coarser_term σ τ₁ j.more j.factors p.0
        ∙ j.together
        ∙ sym (coarser_term σ τ₁ j.more j.factors p.1) in
        let here : Kernel τ p.0 p.1 =
        coarser_term τ₁ τ s.more s.factors p.0
        ∙ ap (on_term s.more) merged
        ∙ sym (coarser_term τ₁ τ s.more s.factors p.1) in
        let at : (q : Pair) → (q ≡ p) ⊎ (q ∈ ps) → Kernel τ q.0 q.1 = λ q.
        elim [ inl e ↦ subst (λ (x : Pair). Kernel τ x.0 x.1) (sym e) here | inr m ↦ s.holds q m ] in
        record {
          more = comp s.more j.more;
          factors = λ n.
              s.factors n ∙ ap (on_term s.more) (j.factors n) ∙ on_term_comp s.more j.more (σ n);
          holds = λ q m. at q (Memᴰ.cases_cons m);
        }

-- the kernel of a substitution is admissible
pub kernel_admissible : (s : Sub) → Admissible (Kernel s)
kernel_admissible s =
    record {
      eq = record { same = λ t. refl; turn = λ t u e. sym e; chain = λ t u v e f. e ∙ f };
      apart = λ c d e. con_inj e;
    }

-- If classes are found, they hold the pairs, and whatever equivalence holds the pairs holds what is in one class
pub least_equivalence : (ps : List Pair) (σ : Sub) → unify ps var ≡ some σ
    → HoldsPairs (Kernel σ) ps
    × ((E : Term → Term → Type 0) → Equivalence E → HoldsPairs E ps → (t u : Term) → Kernel σ t u → E t u)
least_equivalence ps σ e = (h, λ E q k t u x. least E q k t u x)
  where
    h : HoldsPairs (Kernel σ) ps
    h = (unify_sound ps var σ e).holds

    least : (E : Term → Term → Type 0) → Equivalence E → HoldsPairs E ps → (t u : Term) → Kernel σ t u → E t u
    least E q k t u x =
        let B : Term → Term → Type 0 = λ t u. E t u × Kernel σ t u in
        let ad : Admissible B =
        record {
          eq = record {
            same = λ t. (q.same t, refl);
            turn = λ t u b. (q.turn t u b.0, sym b.1);
            chain = λ t u v b c. (q.chain t u v b.0 c.0, b.1 ∙ c.1);
          };
          apart = λ c d b. con_inj b.1;
        } in
        let r = unify_least B ad ps var (λ n. ad.eq.same (var n)) (λ p m. (k p m, h p m)) in
        let g : r.classes ≡ σ = some-injective _ σ (sym r.found ∙ e) in
        let near : (v : Term) → E (on_term σ v) v =
        λ v. subst (λ (s : Sub). E (on_term s v) v) g (near_term B ad r.classes r.near v).0 in
        q.chain t (on_term σ t) u (q.turn (on_term σ t) t (near t))
        (q.chain (on_term σ t) (on_term σ u) u
        (subst (λ (w : Term). E (on_term σ t) w) x (q.same (on_term σ t))) (near u))

pub idempotent : (ps : List Pair) (σ : Sub) → unify ps var ≡ some σ → (t : Term) → Kernel σ (on_term σ t) t
idempotent ps σ e t =
    let r = unify_least (Kernel σ) (kernel_admissible σ) ps var (λ n. refl) (unify_sound ps var σ e).holds in
    subst (λ (s : Sub). Kernel σ (on_term s t) t)
    (some-injective r.classes σ (sym r.found ∙ e))
    (near_term (Kernel σ) (kernel_admissible σ) r.classes r.near t)

-- If no classes are found, every equivalence that holds the pairs has two constants in one class
pub clash_means : (ps : List Pair) → unify ps var ≡ none → (E : Term → Term → Type 0) → Admissible E
    → HoldsPairs E ps → ⊥
clash_means ps e E ad h = none≢some (sym e ∙ (unify_least E ad ps var (λ n. ad.eq.same (var n)) h).found)
