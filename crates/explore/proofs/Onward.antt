-- The exploration of one member, midway: what the loop of `explore` keeps, and its turns. Assumes nothing.
use mathlib.Core.Path.{◌≡◌, refl, sym, ◌∙◌, ap, subst}
use mathlib.Core.Bool.{true, false}
use mathlib.Core.List.Memᴰ
use mathlib.Core.List.{List, [], ◌∷◌}
use Prim.Native.Nat.{ℕ, ◌+◌, ◌≤◌, ◌<◌}
use native.Mathlib.Omega.{arith}
use lib.ListN.{length, drop}
use Rattle.covering.specs.Lists.{◌∈◌}
use Rattle.covering.specs.Term.{Question}
use Rattle.covering.specs.Search.{covers}
use Rattle.covering.specs.Rule.{Rule}
use Rattle.explore.specs.declared.Taken.{Taken}
use Rattle.admit.specs.declared.Fate.TheVariants.{Dropped, Appended}
use Rattle.std.specs.Prelude.{Ok, Err}
use Rattle.reading.specs.declared.Reason.{Reason}
use Rattle.exploration.specs.Run.{State, Limits, through, all_rewritings}
use Rattle.admit.specs.WorkingArray.{UnionFateIs}
use Rattle.explore.specs.Exploring.{ExploredIs}
use Rattle.explore.specs.Skipping.{GoesOn}
use Rattle.exploration.proofs.Admits.{through_none}
use Rattle.exploration.proofs.Dropping.{passed_over}
use Rattle.exploration.proofs.Turns.{turn_dropped, turn_refused, turn_appended, turn_stopped}
use Rattle.explore.proofs.Coming.{coming, coming_all, coming_later, coming_fewer, Given}

-- The exploration's outcome is that of the rewritings yet to come, from the union u.
pub record Onward (lim : Limits) (rules : List Rule) (M : Question) (s u : State) (k n : ℕ) : Type 0 where
  pub among : (P : Question) → P ∈ coming M n (drop k rules) → P ∈ all_rewritings rules M
  pub outcome : through covers lim M (all_rewritings rules M) s ≡ through covers lim M (coming M n (drop k rules)) u

module _ (lim : Limits) (rules : List Rule) (M : Question) (s : State) where
  pub onward_first : Onward lim rules M s s 0 0
  onward_first =
      record {
        among = λ P m. subst (λ (l : List Question). P ∈ l) (coming_all M rules) m;
        outcome = ap (λ (l : List Question). through covers lim M l s) (sym (coming_all M rules));
      }

  module _ {u : State} {k n : ℕ} (o : Onward lim rules M s u k n) where
    -- none is left
    pub onward_done : coming M n (drop k rules) ≡ [] → ExploredIs lim rules M s u (Ok tt)
    onward_done h =
        o.outcome
        ∙ ap (λ (l : List Question). through covers lim M l u) h
        ∙ through_none covers lim M u

    -- the next one
    module _ {t : Taken} {R : List ℕ} (g : Given M k n rules t R) where
      abbrev P : Question
      P = g.rewriting

      abbrev Ps : List Question
      Ps = coming M (t.choice + 1) (drop t.rule rules)

      outcome_is : through covers lim M (all_rewritings rules M) s ≡ through covers lim M (P ∷ Ps) u
      outcome_is = o.outcome ∙ ap (λ (l : List Question). through covers lim M l u) g.coming_is

      pub fewer : length (coming M (t.choice + 1) (drop t.rule rules)) < length (coming M n (drop k rules))
      fewer = omega (arith, ap length g.coming_is)

      pub rewriting_in : g.rewriting ∈ all_rewritings rules M
      rewriting_in = o.among P (subst (λ (l : List Question). P ∈ l) (sym g.coming_is) (Memᴰ.head refl))

      later_in : (N : Question) → N ∈ Ps → N ∈ all_rewritings rules M
      later_in N m =
          o.among N (subst (λ (l : List Question). N ∈ l) (sym g.coming_is) (Memᴰ.tail m))

      -- it was dropped
      pub onward_dropped : (v : State) → UnionFateIs lim u g.rewriting v (Ok Dropped)
          → Onward lim rules M s v t.rule (t.choice + 1)
      onward_dropped v h =
          subst (λ (x : State). Onward lim rules M s x t.rule (t.choice + 1)) (sym h.1)
          (record { among = later_in; outcome = outcome_is ∙ turn_dropped covers lim M P Ps u h.0 })

      -- and choices after it are passed over
      pub onward_passed : {v : State} → Onward lim rules M s v t.rule (t.choice + 1) → {m : ℕ}
          → GoesOn g.here M v.members t.choice m
          → Onward lim rules M s v t.rule m
      onward_passed {v} x {m} y =
          record {
            among = λ N i. x.among N (coming_later M (t.choice + 1) m (drop t.rule rules) up N i);
            outcome =
                x.outcome
                ∙ ap (λ (l : List Rule). through covers lim M (coming M (t.choice + 1) l) v) g.rules_are
                ∙ passed_over covers lim M g.here g.others v (t.choice + 1) m up
                (λ i N k low high. y.between i N k (omega arith) high)
                ∙ ap (λ (l : List Rule). through covers lim M (coming M m l) v) (sym g.rules_are);
          }
        where
          up : t.choice + 1 ≤ m
          up = omega (arith, y.later)

      pub fewer_passed : {m : ℕ} → t.choice < m
          → length (coming M m (drop t.rule rules)) < length (coming M n (drop k rules))
      fewer_passed {m} l =
          omega (arith, fewer, coming_fewer M (t.choice + 1) m (drop t.rule rules) (omega arith))

      pub onward_refused : (v : State) (r : Reason) → UnionFateIs lim u g.rewriting v (Err r)
          → ExploredIs lim rules M s v (Err r)
      onward_refused v r h = (h.0, outcome_is ∙ turn_refused covers lim M P Ps u h.1, h.2)

      -- it was appended: the member is removed, or its exploration goes on
      module _ (v : State) (h : UnionFateIs lim u g.rewriting v (Ok Appended)) where
        pub onward_stopped : covers g.rewriting M ≡ true → ExploredIs lim rules M s v (Ok tt)
        onward_stopped c = outcome_is ∙ turn_stopped covers lim M P Ps u h c

        pub onward_appended : covers g.rewriting M ≡ false → Onward lim rules M s v t.rule (t.choice + 1)
        onward_appended c =
            record { among = later_in; outcome = outcome_is ∙ turn_appended covers lim M P Ps u h c }
