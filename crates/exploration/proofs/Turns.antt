-- One turn of each loop: what the rest of an exploration and of the run is, by what the turn finds. These are the
-- laws for code that holds a state and goes on. Assumes nothing.
use mathlib.Core.Path.{◌≡◌, refl, ◌∙◌, ap}
use mathlib.Core.Bool.{Bool, true, false, cond}
use mathlib.Core.List.{List, ◌∷◌}
use mathlib.Core.Option.{Option, none, some}
use Prim.Native.Nat.{ℕ, zero, suc}
use Rattle.covering.specs.Term.{Question}
use Rattle.exploration.specs.Run.{Test, Limits, State, Why, none_left, Admission, dropped, admitted, stopped}
use Rattle.exploration.specs.Run.{Pass, passed, failed, Outcome, complete, refused, on_admission, on_pass}
use Rattle.exploration.specs.Run.{on_option, oldest, taken_up, admit, through, exploring}
use Rattle.exploration.proofs.Admits.{through_next}

-- one rewriting P of the member M, and Ps after it: by what becomes of it
module _ (cov : Test) (lim : Limits) (M P : Question) (Ps : List Question) (s : State) where
  after : Admission → Pass
  after a = on_admission a (through cov lim M Ps s) (λ t. cond (cov P M) (passed t) (through cov lim M Ps t)) failed

  turn : {a : Admission} → admit cov lim s P ≡ a → through cov lim M (P ∷ Ps) s ≡ after a
  unfolding after
  turn e = through_next cov lim M P Ps s ∙ ap after e

  pub turn_dropped : admit cov lim s P ≡ dropped → through cov lim M (P ∷ Ps) s ≡ through cov lim M Ps s
  unfolding after
  turn_dropped e = turn e

  pub turn_refused : {w : Why} → admit cov lim s P ≡ stopped w → through cov lim M (P ∷ Ps) s ≡ failed w
  unfolding after
  turn_refused e = turn e

  module _ {t : State} (e : admit cov lim s P ≡ admitted t) where
    pub turn_appended : cov P M ≡ false → through cov lim M (P ∷ Ps) s ≡ through cov lim M Ps t
    unfolding after
    turn_appended f = turn e ∙ ap (λ (b : Bool). cond b (passed t) (through cov lim M Ps t)) f

    pub turn_stopped : cov P M ≡ true → through cov lim M (P ∷ Ps) s ≡ passed t
    unfolding after
    turn_stopped f = turn e ∙ ap (λ (b : Bool). cond b (passed t) (through cov lim M Ps t)) f

-- between explorations: so many left, n taken up
module _ (cov : Test) (lim : Limits) (steps : Question → List Question) (n : ℕ) (s : State) where
  last_turn : Option Question → Outcome
  last_turn o = on_option o (complete s.members n) (λ M. refused none_left n)

  next_turn : ℕ → Option Question → Outcome
  next_turn left o =
      on_option o (complete s.members n)
      (λ M.
      on_pass (through cov lim M (steps M) (taken_up s)) (λ t. exploring cov lim steps left (suc n) t)
      (λ w. refused w (suc n)))

  at_last : exploring cov lim steps zero n s ≡ last_turn (oldest s)
  unfolding exploring last_turn
  at_last = refl

  at_next : (left : ℕ) → exploring cov lim steps (suc left) n s ≡ next_turn left (oldest s)
  unfolding exploring next_turn
  at_next left = refl

  pub turn_complete : (left : ℕ) → oldest s ≡ none → exploring cov lim steps left n s ≡ complete s.members n
  unfolding last_turn next_turn
  turn_complete zero e = at_last ∙ ap last_turn e
  turn_complete (suc left) e = at_next left ∙ ap (next_turn left) e

  module _ {M : Question} (e : oldest s ≡ some M) where
    pub turn_ten : exploring cov lim steps zero n s ≡ refused none_left n
    unfolding last_turn
    turn_ten = at_last ∙ ap last_turn e

    pub turn_explores : (left : ℕ) → exploring cov lim steps (suc left) n s
        ≡ on_pass (through cov lim M (steps M) (taken_up s)) (λ t. exploring cov lim steps left (suc n) t)
        (λ w. refused w (suc n))
    unfolding next_turn
    turn_explores left = at_next left ∙ ap (next_turn left) e
