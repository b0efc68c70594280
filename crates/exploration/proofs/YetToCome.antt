-- Taking the next rewriting of the member that is explored, as a loop over `next` takes them: what is yet to come of
-- the rules from r on, from choice n of r on, and how it goes on. Assumes nothing.
use mathlib.Core.Path.{◌≡◌, sym, ◌∙◌, ap}
use mathlib.Core.List.{List, ◌∷◌, ◌++◌, map}
use mathlib.Core.Option.{none, some}
use Prim.Native.Nat.{ℕ, suc}
use Rattle.covering.specs.Term.{Question}
use Rattle.covering.specs.Rule.{Rule}
use Rattle.unification.specs.Step.{listed, from, next}
use Rattle.unification.proofs.Listed.{rewritings_listed}
use Rattle.unification.proofs.Following.{next_start, next_found, next_none}
use Rattle.exploration.specs.Run.{apart, all_rewritings}

-- the rewritings of M from choice n of r on, then those of the rules after it
abbrev pub yet_to_come : Question → Rule → ℕ → List Rule → List Question
yet_to_come M r n rules = map (λ e. e.1) (from n (listed apart r M)) ++ all_rewritings rules M

module _ (M : Question) (r : Rule) (rules : List Rule) where
  -- a rule is begun at choice 0
  pub rule_begun : all_rewritings (r ∷ rules) M ≡ yet_to_come M r 0 rules
  rule_begun =
      ap (λ (l : List Question). l ++ all_rewritings rules M)
      (rewritings_listed apart r M ∙ ap (map (λ e. e.1)) (sym (next_start apart r M)))

  -- what `next` finds is the next one, and the choice after it is where to go on
  pub rewriting_found : (n : ℕ) (e : ℕ × Question) → next apart r M n ≡ some e
      → yet_to_come M r n rules ≡ e.1 ∷ yet_to_come M r (suc e.0) rules
  rewriting_found n e h =
      ap (λ (l : List (ℕ × Question)). map (λ x. x.1) l ++ all_rewritings rules M) (next_found apart r M n e h)

  -- where it finds none, the rule is done
  pub rule_done : (n : ℕ) → next apart r M n ≡ none → yet_to_come M r n rules ≡ all_rewritings rules M
  rule_done n h =
      ap (λ (l : List (ℕ × Question)). map (λ x. x.1) l ++ all_rewritings rules M) (next_none apart r M n h)
