-- What a complete run leaves, by any covering test that decides a preorder and any lister. Assumes nothing.
use mathlib.Core.Path.{◌≡◌, sym, subst}
use mathlib.Core.Logic.{◌↔◌}
use mathlib.Core.List.{List}
use Prim.Native.Nat.{ℕ, ◌≤◌}
use lib.Dec.{T}
use lib.ListN.{length}
use Rattle.covering.specs.Lists.{◌∈◌}
use Rattle.covering.specs.Term.{Question}
use Rattle.covering.specs.Form.{form}
use Rattle.exploration.specs.Run.{Test, Limits, complete, run_by}
use Rattle.exploration.specs.Steps.{Ends, completes}
use Rattle.exploration.specs.Chain.{Apart}
use Rattle.exploration.proofs.Ends.{run_ends}
use Rattle.exploration.proofs.Invariant.{taken_allowed}
use Rattle.exploration.proofs.States.{all_explored}
use Rattle.exploration.proofs.Covered.{CoveredBy, members_apart, members_some, question_covered, members_room}
use Rattle.exploration.proofs.Covered.{explored_closed, members_good}

module _ (Cov : Question → Question → Type 0) (steps : Question → List Question) (Q : Question)
    (Good : Question → Type 0)
  where
    -- members that cover the question and whose rewritings they cover, none of which covers another
    pub record Left (U : List Question) : Type 0 where
      pub good : (M : Question) → M ∈ U → Good M
      pub question : CoveredBy Cov U Q
      pub closed : (M : Question) → M ∈ U → (X : Question) → X ∈ steps M → CoveredBy Cov U X
      pub apart : Apart Cov U
      pub some_member : 1 ≤ length U

    module _ (cov : Test) (decides : (A B : Question) → T (cov A B) ↔ Cov A B) (itself : (A : Question) → Cov A A)
        (chain : (A B C : Question) → Cov A B → Cov B C → Cov A C) (lim : Limits) (allowed : ℕ)
        (first_good : Good (form Q)) (first-covers : Cov (form Q) Q)
        (step-good : (M : Question) → Good M → (P : Question) → P ∈ steps M → length P ≤ lim.cap → Good P)
      where
        ended_left : {U : List Question} {n : ℕ} → Ends cov lim steps allowed Q (complete U n) → Left U
        ended_left (completes {s} {n} c e) =
            record {
              good =
                  members_good cov Cov decides itself chain lim steps allowed Q Good first_good step-good c;
              question = question_covered cov Cov decides itself chain lim steps allowed Q first-covers c;
              closed =
                  λ M m X x.
                  explored_closed cov Cov decides itself chain lim steps allowed Q c M
                  (subst (λ (l : List Question). M ∈ l) (sym (all_explored s e)) m)
                  X x;
              apart = members_apart cov Cov decides itself chain lim steps allowed Q c;
              some_member = members_some cov Cov decides itself chain lim steps allowed Q c;
            }

        pub complete_left : {U : List Question} {n : ℕ} → run_by cov lim steps allowed Q ≡ complete U n → Left U
        complete_left e = ended_left (subst (Ends cov lim steps allowed Q) e (run_ends cov lim steps allowed Q))

        ended_most : {U : List Question} {n : ℕ} → 1 ≤ lim.room → Ends cov lim steps allowed Q (complete U n)
            → length U ≤ lim.room
        ended_most one (completes c e) = members_room cov Cov decides itself chain lim steps allowed Q one c

        -- "it would be a 65th member": there is none
        pub complete_most : {U : List Question} {n : ℕ} → 1 ≤ lim.room
            → run_by cov lim steps allowed Q ≡ complete U n → length U ≤ lim.room
        complete_most one e =
            ended_most one (subst (Ends cov lim steps allowed Q) e (run_ends cov lim steps allowed Q))

module _ (cov : Test) (lim : Limits) (steps : Question → List Question) (allowed : ℕ) (Q : Question) where
  ended_taken : {U : List Question} {n : ℕ} → Ends cov lim steps allowed Q (complete U n) → n ≤ allowed
  ended_taken (completes c e) = taken_allowed cov lim steps allowed Q c

  -- no more than L are explored
  pub complete_taken : {U : List Question} {n : ℕ} → run_by cov lim steps allowed Q ≡ complete U n → n ≤ allowed
  complete_taken e = ended_taken (subst (Ends cov lim steps allowed Q) e (run_ends cov lim steps allowed Q))
