-- Demand 3 over lists: a set of members that covers the question, is reached from it by rewriting steps and whose
-- rewritings it covers answers, for every list of facts, what rule application answers (`union_answers`). No
-- monotonicity of rewriting is needed: a member that holds after an application gives one that holds before it.
-- Assumes nothing.
use mathlib.Core.Path.{refl, sym, subst}
use mathlib.Core.Logic.{◌⊎◌, inl, inr, ◌↔◌}
use mathlib.Core.List.{List}
use Prim.Native.Nat.{ℕ}
use Rattle.covering.specs.Lists.{◌∈◌}
use Rattle.covering.specs.Term.{Question, Below}
use Rattle.covering.specs.Covers.{Covers}
use Rattle.covering.proofs.Preorder.{covers_trans}
use Rattle.covering.proofs.Form.{form_equivalent}
use Rattle.covering.specs.Rule.{Rule}
use Rattle.unification.specs.Step.{rewritings}
use Rattle.unification.proofs.StepComplete.{step_complete, HeldBefore}
use Rattle.unification.proofs.StepSound.{step_sound}
use Rattle.exploration.specs.Chain.{Holds, SomeHolds, Chain, here, apply, Derives, Reached}
use Rattle.exploration.specs.Chain.{from_question, by_step}

module _ (k : ℕ) (rules : List Rule) (Q : Question) where
  -- what a rewriting that is reached says, rule application derives
  pub reached_derives : {M : Question} (F : Question) → Reached k rules Q M → Holds M F → Derives rules Q F
  reached_derives F (from_question e) h =
      (F, here refl, covers_trans (form_equivalent Q).0 (subst (λ (A : Question). Covers A F) e h))
  reached_derives {M = P} F (by_step {M} r m low c x) h =
      let one = step_sound k r M P F low x h in
      let rest = reached_derives one.0 c one.2 in
      (rest.0, apply r m one.1 rest.1, rest.2)

  pub record Union (U : List Question) : Type 0 where
    pub small : (M : Question) → M ∈ U → Below k M
    pub reached : (M : Question) → M ∈ U → Reached k rules Q M
    pub question : SomeHolds U Q
    pub closed : (M : Question) → M ∈ U → (r : Rule) → r ∈ rules → (P : Question) → P ∈ rewritings k r M
        → SomeHolds U P

  module _ (U : List Question) (u : Union U) where
    -- if some member holds at the end of a chain, some member holds at its start
    derived_holds : {G F : Question} → Chain rules G F → SomeHolds U G → SomeHolds U F
    derived_holds (here e) a = subst (SomeHolds U) (sym e) a
    derived_holds (apply {F} {H} r m one c) a = back (derived_holds c a)
      where
        at : (M : Question) → M ∈ U → Covers M F ⊎ HeldBefore k r M F → SomeHolds U F
        at M n (inl h) = (M, n, h)
        at M n (inr h) =
            let c = u.closed M n r m h.question h.listed in (c.0, c.1, covers_trans c.2 h.holds)

        back : SomeHolds U H → SomeHolds U F
        back b = at b.0 b.1 (step_complete k r b.0 F H (u.small b.0 b.1) one b.2)

    pub union_answers : (F : Question) → SomeHolds U F ↔ Derives rules Q F
    union_answers F = (
      λ a. reached_derives F (u.reached a.0 a.1) a.2,
      λ d. let q = u.question in derived_holds d.1 (q.0, q.1, covers_trans q.2 d.2),
    )
