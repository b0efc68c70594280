-- The run in single steps (01, "Exploring"): which positions it comes to, and where it ends. `Run` computes the same:
-- `proofs/Ends` shows that a run ends as `Run` says exactly when it comes to such an end.
use Rattle.std.specs.Prelude.{◌≡◌, not, List, [], ◌∷◌, ℕ, suc, ◌≤◌, ◌<◌, T, length}
use Rattle.std.proofs.Math.Option.{none, some}
use Rattle.covering.specs.Term.{Question}
use Rattle.exploration.specs.Run.{Test, Limits, State, too_long, no_room, none_left, Outcome, complete, refused}
use Rattle.exploration.specs.Run.{oldest, taken_up, start, covered, appended, remaining}

-- Between two explorations, so many questions taken up; or exploring a member, these of its rewritings yet to come.
pub data Position : Type 0 where
  between : State → ℕ → Position
  within : Question → List Question → State → ℕ → Position

module _ (cov : Test) (lim : Limits) where
  -- no member covers the rewriting, and it has no more than 8 atoms
  pub record New (s : State) (P : Question) : Type 0 where
    pub uncovered : T (not (covered cov P s.members))
    pub short : length P ≤ lim.cap

  -- and there is room for it when the members that it covers are removed
  pub record Admitted (s : State) (P : Question) : Type 0 where
    pub new : New s P
    pub fits : length (remaining cov P s.members) < lim.room

  module _ (steps : Question → List Question) (allowed : ℕ) (Q : Question) where
    pub data Reaches : Position → Type 0 where
      -- "The form of the question is the first member."
      begins : Reaches (between (start Q) 0)
      -- "Take up the oldest unexplored member; go through rules in book order, choices in theirs."
      takes_up : {s : State} {n : ℕ} {M : Question} → Reaches (between s n) → oldest s ≡ some M → n < allowed
          → Reaches (within M (steps M) (taken_up s) (suc n))
      -- "If a member covers the new rewriting it is dropped"
      drops : {M P : Question} {Ps : List Question} {s : State} {n : ℕ} → Reaches (within M (P ∷ Ps) s n)
          → T (covered cov P s.members) → Reaches (within M Ps s n)
      -- "Otherwise .. remove every member that it covers, .. and append it."
      appends : {M P : Question} {Ps : List Question} {s : State} {n : ℕ} → Reaches (within M (P ∷ Ps) s n)
          → Admitted s P → T (not (cov P M)) → Reaches (within M Ps (appended cov s P) n)
      -- "If the member taken up is itself removed, its exploration stops at once, after the append; it still counts as
      -- explored."
      stops : {M P : Question} {Ps : List Question} {s : State} {n : ℕ} → Reaches (within M (P ∷ Ps) s n)
          → Admitted s P → T (cov P M) → Reaches (between (appended cov s P) n)
      -- its rewritings are done
      finishes : {M : Question} {s : State} {n : ℕ} → Reaches (within M [] s n) → Reaches (between s n)

    -- "8 before 9"; "Before taking up another member, apply 10. When none is unexplored the run is complete."
    pub data Ends : Outcome → Type 0 where
      completes : {s : State} {n : ℕ} → Reaches (between s n) → oldest s ≡ none → Ends (complete s.members n)
      -- 8: "an uncovered rewriting has more than 8 atoms", at "questions taken up"
      eight : {M P : Question} {Ps : List Question} {s : State} {n : ℕ} → Reaches (within M (P ∷ Ps) s n)
          → T (not (covered cov P s.members)) → lim.cap < length P → Ends (refused too_long n)
      -- 9: "it would be a 65th member", at "questions taken up"
      nine : {M P : Question} {Ps : List Question} {s : State} {n : ℕ} → Reaches (within M (P ∷ Ps) s n)
          → New s P → lim.room ≤ length (remaining cov P s.members) → Ends (refused no_room n)
      -- 10: "a member is unexplored and L have been taken up", at "L"
      ten : {M : Question} {s : State} → Reaches (between s allowed) → oldest s ≡ some M
          → Ends (refused none_left allowed)
