-- The run ends exactly as 01 says. `Ends o` of `specs/Steps` says in single steps that it ends with o; `run_ends`
-- that the computed outcome is such an end, and `ends_only` that there is no other. So the run is refused with 8, 9
-- or 10 exactly when the steps come to a position at which 01 refuses it, with that position's place. Assumes
-- nothing.
use mathlib.Core.Path.{◌≡◌, refl, sym, ◌∙◌, ap, subst}
use mathlib.Core.Bool.{not}
use mathlib.Core.Logic.{◌⊎◌, inl, inr}
use mathlib.Core.List.{List, [], ◌∷◌}
use mathlib.Core.Option.{Option, none, some}
use Prim.Native.Nat.{ℕ, zero, suc, ◌+◌, ◌-◌}
use native.Mathlib.Omega.{arith}
use lib.Dec.{T}
use Rattle.covering.specs.Term.{Question}
use Rattle.covering.proofs.Tests.{decide, T→true, T→false}
use Rattle.exploration.specs.Run.{Test, Limits, State, Why, none_left, Admission, stopped, Pass, passed, failed}
use Rattle.exploration.specs.Run.{Outcome, refused, on_pass, oldest, taken_up, start, covered, appended}
use Rattle.exploration.specs.Run.{admit, through, exploring, run_by}
use Rattle.exploration.specs.Steps.{Position, between, within, Admitted, Reaches, begins, takes_up, drops}
use Rattle.exploration.specs.Steps.{appends, stops, finishes, Ends, completes, eight, nine, ten}
use Rattle.exploration.proofs.Admits.{Admits, was_covered, was_long, was_full, was_admitted, admits, admit_is}
use Rattle.exploration.proofs.Admits.{through_none}
use Rattle.exploration.proofs.Turns.{turn_dropped, turn_refused, turn_appended, turn_stopped}
use Rattle.exploration.proofs.Turns.{turn_complete, turn_ten, turn_explores}

passed_injective : {s t : State} → passed s ≡ passed t → s ≡ t
passed_injective {s} e = ap (λ (p : Pass). on_pass p (λ x. x) (λ w. s)) e

failed≢passed : {w : Why} {t : State} → failed w ≡ passed t → ⊥
failed≢passed e = let z : ◌≡◌ {A = ℕ} 0 1 = ap (λ (p : Pass). on_pass p (λ x. 1) (λ w. 0)) e in omega arith

module _ (cov : Test) (lim : Limits) (steps : Question → List Question) (allowed : ℕ) (Q : Question) where
  abbrev Comes : Position → Type 0
  Comes p = Reaches cov lim steps allowed Q p

  abbrev Finally : Outcome → Type 0
  Finally o = Ends cov lim steps allowed Q o

  -- one turn, by what is known of the rewriting
  module _ (M P : Question) (Ps : List Question) (s : State) where
    dropped_turn : T (covered cov P s.members) → through cov lim M (P ∷ Ps) s ≡ through cov lim M Ps s
    dropped_turn t = turn_dropped cov lim M P Ps s (admit_is cov lim (was_covered t))

    appended_turn : Admitted cov lim s P → T (not (cov P M))
        → through cov lim M (P ∷ Ps) s ≡ through cov lim M Ps (appended cov s P)
    appended_turn a t = turn_appended cov lim M P Ps s (admit_is cov lim (was_admitted a)) (T→false (cov P M) t)

    stopped_turn : Admitted cov lim s P → T (cov P M) → through cov lim M (P ∷ Ps) s ≡ passed (appended cov s P)
    stopped_turn a t = turn_stopped cov lim M P Ps s (admit_is cov lim (was_admitted a)) (T→true (cov P M) t)

  -- The exploration of one member ends in a refusal, or comes to the position after it.
  through_ends : (M : Question) (Ps : List Question) (s : State) (n : ℕ) (next : State → Outcome)
      → ((t : State) → Comes (between t n) → Finally (next t)) → Comes (within M Ps s n)
      → Finally (on_pass (through cov lim M Ps s) next (λ w. refused w n))
  through_ends M [] s n next then c =
      subst (λ (p : Pass). Finally (on_pass p next (λ w. refused w n))) (sym (through_none cov lim M s))
      (then s (finishes c))
  through_ends M (P ∷ Ps) s n next then c =
      go (admits cov lim s P) (λ t d. through_ends M Ps t n next then d)
    where
      Passes : Pass → Type 0
      Passes p = Finally (on_pass p next (λ w. refused w n))

      Rest : Type 0
      Rest = (t : State) → Comes (within M Ps t n) → Passes (through cov lim M Ps t)

      added : Admitted cov lim s P → T (cov P M) ⊎ T (not (cov P M)) → Rest → Passes (through cov lim M (P ∷ Ps) s)
      added a (inl t) rest =
          subst Passes (sym (stopped_turn M P Ps s a t)) (then (appended cov s P) (stops c a t))
      added a (inr t) rest =
          subst Passes (sym (appended_turn M P Ps s a t)) (rest (appended cov s P) (appends c a t))

      go : {a : Admission} → Admits cov lim s P a → Rest → Passes (through cov lim M (P ∷ Ps) s)
      go (was_covered t) rest = subst Passes (sym (dropped_turn M P Ps s t)) (rest s (drops c t))
      go (was_long u l) rest =
          subst Passes (sym (turn_refused cov lim M P Ps s (admit_is cov lim (was_long u l)))) (eight c u l)
      go (was_full m l) rest =
          subst Passes (sym (turn_refused cov lim M P Ps s (admit_is cov lim (was_full m l)))) (nine c m l)
      go (was_admitted m) rest = added m (decide (cov P M)) rest

  -- If it passes, the run comes to the state that it leaves.
  pub through_reaches : (M : Question) (Ps : List Question) (s t : State) (n : ℕ)
      → Reaches cov lim steps allowed Q (within M Ps s n) → through cov lim M Ps s ≡ passed t
      → Reaches cov lim steps allowed Q (between t n)
  through_reaches M [] s t n c e =
      subst (λ (x : State). Comes (between x n)) (passed_injective (sym (through_none cov lim M s) ∙ e)) (finishes c)
  through_reaches M (P ∷ Ps) s t n c e = go (admits cov lim s P) (λ x d h. through_reaches M Ps x t n d h)
    where
      Rest : Type 0
      Rest = (x : State) → Comes (within M Ps x n) → through cov lim M Ps x ≡ passed t → Comes (between t n)

      added : Admitted cov lim s P → T (cov P M) ⊎ T (not (cov P M)) → Rest → Comes (between t n)
      added a (inl u) rest =
          subst (λ (x : State). Comes (between x n))
          (passed_injective
          (sym (stopped_turn M P Ps s a u) ∙ e))
          (stops c a u)
      added a (inr u) rest =
          rest (appended cov s P) (appends c a u)
          (sym (appended_turn M P Ps s a u) ∙ e)

      refuses : {w : Why} → admit cov lim s P ≡ stopped w → Comes (between t n)
      refuses h = absurd (failed≢passed (sym (turn_refused cov lim M P Ps s h) ∙ e))

      go : {a : Admission} → Admits cov lim s P a → Rest → Comes (between t n)
      go (was_covered u) rest = rest s (drops c u) (sym (dropped_turn M P Ps s u) ∙ e)
      go (was_long u l) rest = refuses (admit_is cov lim (was_long u l))
      go (was_full m l) rest = refuses (admit_is cov lim (was_full m l))
      go (was_admitted m) rest = added m (decide (cov P M)) rest

  explore_ends : (left n : ℕ) (s : State) → n + left ≡ allowed → Comes (between s n)
      → Finally (exploring cov lim steps left n s)
  explore_ends zero n s e c = go (oldest s) refl
    where
      whole : n ≡ allowed
      whole = omega arith

      go : (o : Option Question) → oldest s ≡ o → Finally (exploring cov lim steps zero n s)
      go none h = subst Finally (sym (turn_complete cov lim steps n s zero h)) (completes c h)
      go (some M) h =
          subst Finally (sym (turn_ten cov lim steps n s h ∙ ap (refused none_left) whole))
          (ten (subst (λ (m : ℕ). Comes (between s m)) whole c) h)
  explore_ends (suc left) n s e c = go (oldest s) refl (λ t d. explore_ends left (suc n) t (omega arith) d)
    where
      go : (o : Option Question) → oldest s ≡ o
          → ((t : State) → Comes (between t (suc n)) → Finally (exploring cov lim steps left (suc n) t))
          → Finally (exploring cov lim steps (suc left) n s)
      go none h rest = subst Finally (sym (turn_complete cov lim steps n s (suc left) h)) (completes c h)
      go (some M) h rest =
          subst Finally (sym (turn_explores cov lim steps n s h left))
          (through_ends M (steps M) (taken_up s) (suc n) (exploring cov lim steps left (suc n)) rest
          (takes_up c h (omega arith)))

  pub run_ends : Ends cov lim steps allowed Q (run_by cov lim steps allowed Q)
  unfolding run_by
  run_ends = explore_ends allowed 0 (start Q) (omega arith) begins

  -- The other way: from each position that the run comes to, the rest of the computation gives the run's outcome.
  abbrev on_pass_is : ℕ → Pass → Outcome
  on_pass_is n p = on_pass p (λ t. exploring cov lim steps (allowed - n) n t) (λ w. refused w n)

  abbrev rest_of : Position → Outcome
  rest_of (between s n) = exploring cov lim steps (allowed - n) n s
  rest_of (within M Ps s n) = on_pass_is n (through cov lim M Ps s)

  rest_runs : {p : Position} → Comes p → rest_of p ≡ run_by cov lim steps allowed Q
  unfolding run_by
  rest_runs begins =
      let whole : allowed - 0 ≡ allowed = omega arith in
      ap (λ (n : ℕ). exploring cov lim steps n 0 (start Q)) whole
  rest_runs (takes_up {s} {n} {M} c e l) =
      let one : allowed - n ≡ suc (allowed - suc n) = omega arith in
      sym
      (ap (λ (k : ℕ). exploring cov lim steps k n s) one ∙ turn_explores cov lim steps n s e (allowed - suc n))
      ∙ rest_runs c
  rest_runs (drops {M} {P} {Ps} {s} {n} c t) =
      sym (ap (on_pass_is n) (dropped_turn M P Ps s t)) ∙ rest_runs c
  rest_runs (appends {M} {P} {Ps} {s} {n} c a t) =
      sym (ap (on_pass_is n) (appended_turn M P Ps s a t)) ∙ rest_runs c
  rest_runs (stops {M} {P} {Ps} {s} {n} c a t) =
      sym (ap (on_pass_is n) (stopped_turn M P Ps s a t)) ∙ rest_runs c
  rest_runs (finishes {M} {s} {n} c) = sym (ap (on_pass_is n) (through_none cov lim M s)) ∙ rest_runs c

  pub ends_only : {o : Outcome} → Ends cov lim steps allowed Q o → run_by cov lim steps allowed Q ≡ o
  ends_only (completes {s} {n} c e) = sym (rest_runs c) ∙ turn_complete cov lim steps n s (allowed - n) e
  ends_only (eight {M} {P} {Ps} {s} {n} c u l) =
      sym (rest_runs c) ∙ ap (on_pass_is n) (turn_refused cov lim M P Ps s (admit_is cov lim (was_long u l)))
  ends_only (nine {M} {P} {Ps} {s} {n} c m l) =
      sym (rest_runs c) ∙ ap (on_pass_is n) (turn_refused cov lim M P Ps s (admit_is cov lim (was_full m l)))
  ends_only (ten {M} {s} c e) =
      let none_more : allowed - allowed ≡ 0 = omega arith in
      sym (rest_runs c)
      ∙ ap (λ (k : ℕ). exploring cov lim steps k allowed s) none_more
      ∙ turn_ten cov lim steps allowed s e

  pub ends_exactly : (o : Outcome) → (run_by cov lim steps allowed Q ≡ o → Ends cov lim steps allowed Q o)
      × (Ends cov lim steps allowed Q o → run_by cov lim steps allowed Q ≡ o)
  ends_exactly o = ((λ e. subst Finally e run_ends), ends_only)
