-- How far a rule's variables are moved does not matter, as long as it is above the question's variables: the number
-- k that keeps them apart changes no rewriting (`listed_shift`). Assumes nothing.
use mathlib.Core.Path.{◌≡◌, refl, sym, ◌∙◌, ap, ap₂, subst}
use mathlib.Core.Bool.{Bool, cond, not, ◌&&◌, ◌||◌}
use mathlib.Core.Logic.{◌⊎◌, inl, inr}
use mathlib.Core.List.Memᴰ
use mathlib.Core.List.{List, ◌++◌, map, map-map}
use mathlib.Core.Option.{Option, some, some-injective, none}
use Prim.Native.Nat.{ℕ}
use lib.ListN.{length}
use Rattle.covering.specs.Form.{form}
use Rattle.covering.proofs.SameForm.{Alike}
use Rattle.covering.specs.Lists.{◌∈◌, all, keep, bind}
use Rattle.covering.specs.Term.{Term, Question, terms, Sub, on_term, on_atom, on_question, comp, eq_term, var}
use Rattle.covering.specs.Term.{Below, is_var}
use Rattle.covering.proofs.Lists.{all_same, map_same, map_append}
use Rattle.covering.proofs.Tests.{same_bool, none≢some}
use Rattle.covering.proofs.Terms.{eq_term→eq, eq→eq_term, on_term_comp, on_atom_comp, terms_in}
use Rattle.covering.proofs.Terms.{terms_out, terms_on}
use Rattle.covering.specs.Rule.{Rule}
use Rattle.unification.specs.Classes.{unify, Kernel, HoldsPairs}
use Rattle.unification.specs.Choice.{Choice, number, choices, some_sent, left, pairing}
use Rattle.unification.specs.Step.{up, move, mem_term, is_unknown, guarded, safe, valid, rewriting, judge, step}
use Rattle.unification.specs.Step.{label, listed}
use Rattle.unification.proofs.Classes.{Least, unify_least, unify_sound, kernel_admissible}
use Rattle.unification.proofs.Choices.{left_in}
use Rattle.unification.proofs.Collected.{collect_same}
use Rattle.unification.proofs.Moved.{moved_term, glue_rule, glue_moved}
use Rattle.unification.proofs.Pairs.{mem→mem_term, mem_term→mem}
use Rattle.unification.proofs.Representatives.{judge_same}
use Rattle.unification.proofs.Valid.{near_on}
use Rattle.unification.proofs.Renamed.{both_on, pairing_on, all_map, shift}
use Rattle.unification.proofs.Renamed.{shift_is_var, shift_keeps, shift_question}

-- a choice's classes with the rule moved by k, and what those with k' say of them
abbrev solved : ℕ → Rule → Question → Choice → Option Sub
solved k r Q ds = unify (pairing ds Q (move k r).head) var

transfer : (k k' : ℕ) (r : Rule) (Q : Question) (ds : Choice) → Below k Q → (σ' : Sub)
    → solved k' r Q ds ≡ some σ' → Least (Kernel (comp σ' (shift k k'))) (solved k r Q ds)
transfer k k' r Q ds b σ' e =
    unify_least (Kernel (comp σ' ρ)) (kernel_admissible (comp σ' ρ))
    (pairing ds Q (move k r).head) var (λ n. refl) holds
  where
    ρ : Sub
    ρ = shift k k'

    holds : HoldsPairs (Kernel (comp σ' ρ)) (pairing ds Q (move k r).head)
    holds p m =
        let k₁ =
        subst
        (λ (A : Question). both_on ρ p ∈ pairing ds A (on_question ρ (move k r).head))
        (shift_question k k' Q b) (pairing_on ρ ds Q (move k r).head p m) in
        let k₂ = subst (λ (A : Question). both_on ρ p ∈ pairing ds Q A) (glue_moved k var (up k') r.head) k₁ in
        sym (on_term_comp σ' ρ p.0)
        ∙ (unify_sound (pairing ds Q (move k' r).head) var σ' e).holds (both_on ρ p) k₂
        ∙ on_term_comp σ' ρ p.1

module _ (k k' : ℕ) (r : Rule) (Q : Question) (ds : Choice) (low : Below k Q) (low' : Below k' Q) where
  abbrev L : Question
  L = left ds Q

  low_L : Below k L
  low_L n m = let x = terms_out L m in low n (terms_in Q (left_in ds Q x.0 x.1) x.2)

  low_L' : Below k' L
  low_L' n m = let x = terms_out L m in low' n (terms_in Q (left_in ds Q x.0 x.1) x.2)

  -- renaming there and back
  back_rule : (A : Question) (t : Term) → t ∈ terms (on_question (up k) A)
      → on_term (shift k' k) (on_term (shift k k') t) ≡ t
  back_rule A t m = go (moved_term k A m)
    where
      go : (x : Term) × (x ∈ terms A) × (on_term (up k) x ≡ t) → on_term (shift k' k) (on_term (shift k k') t) ≡ t
      go x =
          ap (λ (y : Term). on_term (shift k' k) (on_term (shift k k') y)) (sym x.2)
          ∙ ap (on_term (shift k' k)) (glue_rule k var (up k') x.0)
          ∙ glue_rule k' var (up k) x.0
          ∙ x.2

  back : (t : Term) → t ∈ guarded L (move k r) → on_term (shift k' k) (on_term (shift k k') t) ≡ t
  back t m = go (Memᴰ.append_cases (terms L) m)
    where
      two : (t ∈ terms (move k r).body) ⊎ (t ∈ terms (move k r).head)
          → on_term (shift k' k) (on_term (shift k k') t) ≡ t
      two (inl n) = back_rule r.body t n
      two (inr n) = back_rule r.head t n

      go : (t ∈ terms L) ⊎ (t ∈ terms (move k r).body ++ terms (move k r).head)
          → on_term (shift k' k) (on_term (shift k k') t) ≡ t
      go (inl n) = ap (on_term (shift k' k)) (shift_keeps k k' L low_L t n) ∙ shift_keeps k' k L low_L' t n
      go (inr n) = two (Memᴰ.append_cases (terms (move k r).body) n)

  shift_eq : (t u : Term) → t ∈ guarded L (move k r) → u ∈ guarded L (move k r)
      → eq_term t u ≡ eq_term (on_term (shift k k') t) (on_term (shift k k') u)
  shift_eq t u m n =
      same_bool _ _ (λ h. eq→eq_term (ap (on_term (shift k k')) (eq_term→eq t u h)))
      (λ h.
      eq→eq_term
      (sym (back t m)
      ∙ ap (on_term (shift k' k)) (eq_term→eq (on_term (shift k k') t) (on_term (shift k k') u) h)
      ∙ back u n))

  shift_terms : (A : Question)
      → terms (on_question (up k') A) ≡ map (on_term (shift k k')) (terms (on_question (up k) A))
  shift_terms A = ap terms (sym (glue_moved k var (up k') A)) ∙ terms_on (shift k k') (on_question (up k) A)

  shift_guarded : guarded L (move k' r) ≡ map (on_term (shift k k')) (guarded L (move k r))
  shift_guarded =
      ap₂ (λ (a b : List Term). a ++ b)
      (ap terms (sym (shift_question k k' L low_L)) ∙ terms_on (shift k k') L)
      (ap₂ (λ (a b : List Term). a ++ b) (shift_terms r.body) (shift_terms r.head)
      ∙ sym (map_append (on_term (shift k k')) (terms (move k r).body) (terms (move k r).head)))
      ∙ sym (map_append (on_term (shift k k')) (terms L) (terms (move k r).body ++ terms (move k r).head))

  shift_mem : (z : Term) → z ∈ guarded L (move k r)
      → mem_term z (terms (move k r).body) ≡ mem_term (on_term (shift k k') z) (terms (move k' r).body)
  shift_mem z m = same_bool _ _
      (λ h.
      mem→mem_term {t = on_term (shift k k') z} (terms (move k' r).body)
      (subst (λ (l : List Term). on_term (shift k k') z ∈ l) (sym (shift_terms r.body))
      (Memᴰ.map (on_term (shift k k')) (mem_term→mem {t = z} (terms (move k r).body) h))))
      (λ h.
      mem→mem_term {t = z} (terms (move k r).body)
      (under
      (Memᴰ.of_map (on_term (shift k k')) (terms (move k r).body)
      (subst (λ (l : List Term). on_term (shift k k') z ∈ l) (shift_terms r.body)
      (mem_term→mem {t = on_term (shift k k') z} (terms (move k' r).body) h)))))
    where
      under : (x : Term) × (x ∈ terms (move k r).body) × (on_term (shift k k') x ≡ on_term (shift k k') z)
          → z ∈ terms (move k r).body
      under x =
          Memᴰ.cast
          (sym (back z m) ∙ ap (on_term (shift k' k)) (sym x.2) ∙ back_rule r.body x.0 x.1)
          x.1

  -- the verdict with k, by the classes with k'
  shift_valid : (σ' : Sub) → valid (comp σ' (shift k k')) L (move k r) ≡ valid σ' L (move k' r)
  shift_valid σ' =
      all_same _ _ (terms (move k r).head) each
      ∙ sym
      (all_map (λ z. not (is_unknown (move k' r) z) || safe σ' (guarded L (move k' r)) z)
      (on_term ρ) (terms (move k r).head))
      ∙ ap (all (λ z. not (is_unknown (move k' r) z) || safe σ' (guarded L (move k' r)) z))
      (sym (shift_terms r.head))
    where
      ρ : Sub
      ρ = shift k k'

      G : List Term
      G = guarded L (move k r)

      inside : (z : Term) → z ∈ terms (move k r).head → z ∈ G
      inside z m = Memᴰ.append_right (terms L) (Memᴰ.append_right (terms (move k r).body) m)

      unknown : (z : Term) → z ∈ G → is_unknown (move k r) z ≡ is_unknown (move k' r) (on_term ρ z)
      unknown z m = ap₂ (λ (a b : Bool). a && not b) (sym (shift_is_var k k' z)) (shift_mem z m)

      one : (z : Term) → z ∈ G → (t : Term) → t ∈ G
          → (eq_term t z || not (eq_term (on_term (comp σ' ρ) t) (on_term (comp σ' ρ) z)))
          ≡
          (eq_term (on_term ρ t) (on_term ρ z)
          || not (eq_term (on_term σ' (on_term ρ t)) (on_term σ' (on_term ρ z))))
      one z m t n =
          ap₂ (λ (a b : Bool). a || not b) (shift_eq t z n m)
          (ap₂ eq_term (sym (on_term_comp σ' ρ t)) (sym (on_term_comp σ' ρ z)))

      guards : (z : Term) → z ∈ G → safe (comp σ' ρ) G z ≡ safe σ' (guarded L (move k' r)) (on_term ρ z)
      guards z m =
          ap₂ ◌&&◌ (ap is_var (sym (on_term_comp σ' ρ z)))
          (all_same _ _ G (one z m)
          ∙ sym
          (all_map
          (λ t. eq_term t (on_term ρ z) || not (eq_term (on_term σ' t) (on_term σ' (on_term ρ z))))
          (on_term ρ) G)
          ∙ ap
          (all (λ t. eq_term t (on_term ρ z) || not (eq_term (on_term σ' t) (on_term σ' (on_term ρ z)))))
          (sym shift_guarded))

      each : (z : Term) → z ∈ terms (move k r).head
          → (not (is_unknown (move k r) z) || safe (comp σ' ρ) G z)
          ≡ (not (is_unknown (move k' r) (on_term ρ z)) || safe σ' (guarded L (move k' r)) (on_term ρ z))
      each z m = ap₂ (λ (a b : Bool). not a || b) (unknown z (inside z m)) (guards z (inside z m))

  shift_rewriting : (σ' : Sub) → rewriting (comp σ' (shift k k')) L (move k r) ≡ rewriting σ' L (move k' r)
  shift_rewriting σ' =
      map_same _ (λ a. on_atom σ' (on_atom (shift k k') a)) (L ++ (move k r).body)
      (λ a m. sym (on_atom_comp σ' (shift k k') a))
      ∙ sym (map-map (on_atom σ') (on_atom (shift k k')) (L ++ (move k r).body))
      ∙ ap (on_question σ')
      (map_append (on_atom (shift k k')) L (move k r).body
      ∙ ap₂ (λ (a b : Question). a ++ b) (shift_question k k' L low_L) (glue_moved k var (up k') r.body))

  -- the classes agree
  agree : (σ σ' : Sub) → solved k r Q ds ≡ some σ → solved k' r Q ds ≡ some σ'
      → Alike σ (comp σ' (shift k k')) (guarded L (move k r))
  agree σ σ' e e' =
      record {
        meets = λ x y m n h.
            sym (near_on (comp σ' ρ) σ near x) ∙ ap (on_term (comp σ' ρ)) h ∙ near_on (comp σ' ρ) σ near y;
        meets' = λ x y m n h.
            sym (home x m)
            ∙ ap (on_term (comp σ ρ')) (on_term_comp σ' ρ x ∙ h ∙ sym (on_term_comp σ' ρ y))
            ∙ home y n;
        const = λ x c m h. sym (near_on (comp σ' ρ) σ near x) ∙ ap (on_term (comp σ' ρ)) h;
        const' = λ x c m h. sym (home x m) ∙ ap (on_term (comp σ ρ')) (on_term_comp σ' ρ x ∙ h);
      }
    where
      ρ : Sub
      ρ = shift k k'

      ρ' : Sub
      ρ' = shift k' k

      near : (n : ℕ) → Kernel (comp σ' ρ) (σ n) (var n)
      near n =
          let t = transfer k k' r Q ds low σ' e' in
          subst (λ (s : Sub). Kernel (comp σ' ρ) (s n) (var n))
          (some-injective t.classes σ (sym t.found ∙ e)) (t.near n)

      near' : (n : ℕ) → Kernel (comp σ ρ') (σ' n) (var n)
      near' n =
          let t = transfer k' k r Q ds low' σ e in
          subst (λ (s : Sub). Kernel (comp σ ρ') (s n) (var n))
          (some-injective t.classes σ' (sym t.found ∙ e')) (t.near n)

      home : (x : Term) → x ∈ guarded L (move k r) → on_term (comp σ ρ') (on_term σ' (on_term ρ x)) ≡ on_term σ x
      home x m =
          near_on (comp σ ρ') σ' near' (on_term ρ x)
          ∙ sym (on_term_comp σ ρ' (on_term ρ x))
          ∙ ap (on_term σ) (back x m)

  pub step_shift : step k r Q ds ≡ step k' r Q ds
  unfolding step
  step_shift = go (solved k r Q ds) refl (solved k' r Q ds) refl
    where
      go : (o : Option Sub) → solved k r Q ds ≡ o → (o' : Option Sub) → solved k' r Q ds ≡ o'
          → bind o (judge L (move k r)) ≡ bind o' (judge L (move k' r))
      go none e none e' = refl
      go none e (some σ') e' = let t = transfer k k' r Q ds low σ' e' in absurd (none≢some (sym e ∙ t.found))
      go (some σ) e none e' = let t = transfer k' k r Q ds low' σ e in absurd (none≢some (sym e' ∙ t.found))
      go (some σ) e (some σ') e' =
          judge_same σ (comp σ' (shift k k')) L (move k r) (agree σ σ' e e')
          ∙ ap₂ (λ (b : Bool) (P : Question). cond b (some (form P)) none) (shift_valid σ') (shift_rewriting σ')

-- so neither does the list depend on it
pub listed_shift : (k k' : ℕ) (r : Rule) (Q : Question) → Below k Q → Below k' Q → listed k r Q ≡ listed k' r Q
unfolding listed
listed_shift k k' r Q low low' =
    collect_same _ _ (keep some_sent (choices h (length Q)))
    (λ ds. ap (label (number h ds)) (step_shift k k' r Q ds low low'))
  where
    h : ℕ
    h = length r.head
