-- The exploration (01, "Exploring"), as a computation. It is over any covering test and any lister of rewritings; the
-- run of 01 is the one by `covers` and the one-step rewritings of `unify`. `Steps` says the same as a relation, in
-- single steps.
use Rattle.std.specs.Prelude.{Bool, cond, not, List, [], ◌∷◌, ◌++◌, ℕ, zero, suc, ◌+◌, ltb, length, take, drop}
use Rattle.std.proofs.Math.Option.{Option, none, some}
use Rattle.covering.specs.Lists.{any, keep, head, gather}
use Rattle.covering.specs.Term.{Question}
use Rattle.covering.specs.Search.{covers}
use Rattle.covering.specs.Form.{form}
use Rattle.covering.specs.Rule.{Rule}
use Rattle.covering.specs.Asking.{Asking, joined, records}
use Rattle.unification.specs.Step.{rewritings}

-- whether the first question covers the second
abbrev pub Test : Type 0
Test = Question → Question → Bool

-- "more than 8 atoms", "a 65th member"
pub record Limits : Type 0 where
  pub cap : ℕ
  pub room : ℕ

-- the limits where each question has so many answer records, one or none: it is an atom here, but "outside the
-- eight-atom limit" (02, a)
abbrev pub limits_for : ℕ → Limits
limits_for answers = record { cap = 8 + answers; room = 64 }

-- The members in order of arrival, and how many of them are explored: these stand in front, since the oldest
-- unexplored one is taken up and a new one is appended. The member being explored is the last of them.
pub record State : Type 0 where
  pub members : List Question
  pub explored : ℕ

-- why a run is refused, in 01's words and with 01's numbers
pub data Why : Type 0 where
  too_long : Why
  no_room : Why
  none_left : Why

-- "8 | an uncovered rewriting has more than 8 atoms", "9 | it would be a 65th member", "10 | a member is unexplored
-- and L have been taken up"
abbrev pub refusal_number : Why → ℕ
refusal_number too_long = 8
refusal_number no_room = 9
refusal_number none_left = 10

-- what becomes of one rewriting
pub data Admission : Type 0 where
  dropped : Admission
  admitted : State → Admission
  stopped : Why → Admission

-- what becomes of the exploration of one member
pub data Pass : Type 0 where
  passed : State → Pass
  failed : Why → Pass

-- what becomes of the run: the members and how many questions were explored, or a refusal and how many were taken up
pub data Outcome : Type 0 where
  complete : List Question → ℕ → Outcome
  refused : Why → ℕ → Outcome

module _ {X : Type 0} where
  abbrev pub on_admission : Admission → X → (State → X) → (Why → X) → X
  on_admission dropped x f g = x
  on_admission (admitted s) x f g = f s
  on_admission (stopped w) x f g = g w

  abbrev pub on_pass : Pass → (State → X) → (Why → X) → X
  on_pass (passed s) f g = f s
  on_pass (failed w) f g = g w

  abbrev pub on_option : Option Question → X → (Question → X) → X
  on_option none x f = x
  on_option (some M) x f = f M

-- "the oldest unexplored member"
abbrev pub oldest : State → Option Question
oldest s = head (drop s.explored s.members)

-- taken up, it counts as explored
abbrev pub taken_up : State → State
taken_up s = record { members = s.members; explored = suc s.explored }

-- "The form of the question is the first member."
abbrev pub start : Question → State
start Q = record { members = form Q ∷ []; explored = 0 }

module _ (cov : Test) where
  -- "If a member covers the new rewriting"
  abbrev pub covered : Question → List Question → Bool
  covered P U = any (λ M. cov M P) U

  -- "remove every member that it covers"
  abbrev pub remaining : Question → List Question → List Question
  remaining P U = keep (λ M. not (cov P M)) U

  -- ".. and append it"
  abbrev pub appended : State → Question → State
  appended s P =
      record {
        members = remaining P s.members ++ P ∷ [];
        explored = length (remaining P (take s.explored s.members));
      }

  module _ (lim : Limits) where
    -- "If a member covers the new rewriting it is dropped ..  Otherwise apply refusal 8, remove every member that it
    -- covers, apply 9, and append it. Room freed by removals is used again."
    unfoldable pub admit : State → Question → Admission
    admit s P =
        let last = admitted (appended s P) in
        let nine = cond (ltb (length (remaining P s.members)) lim.room) last (stopped no_room) in
        let eight = cond (ltb lim.cap (length P)) (stopped too_long) nine in
        cond (covered P s.members) dropped eight

    -- The rewritings of the member M that is taken up, one after the other. "If the member taken up is itself removed,
    -- its exploration stops at once, after the append"
    unfoldable pub through : Question → List Question → State → Pass
    through M [] s = passed s
    through M (P ∷ Ps) s =
        let old = through M Ps s in
        on_admission (admit s P) old (λ t. let new = through M Ps t in cond (cov P M) (passed t) new) failed

    module _ (steps : Question → List Question) where
      -- "Take up the oldest unexplored member ..  Before taking up another member, apply 10. When none is unexplored
      -- the run is complete." So many may still be taken up, and so many were: one whose exploration stopped "still
      -- counts as explored".
      unfoldable pub exploring : ℕ → ℕ → State → Outcome
      exploring zero taken s =
          on_option (oldest s) (complete s.members taken) (λ M. refused none_left taken)
      exploring (suc left) taken s =
          on_option (oldest s) (complete s.members taken)
          (λ M.
          on_pass (through M (steps M) (taken_up s))
          (λ t. exploring left (suc taken) t)
          (λ w. refused w (suc taken)))

      unfoldable pub run_by : ℕ → Question → Outcome
      run_by allowed Q = exploring allowed 0 (start Q)

-- "The rule's variables are kept apart from the question's": a member has at most 8 atoms of at most 6 places, and its
-- answer variables stand in them, so its variables are below 48, and below 32 where atoms have four places
abbrev pub apart : ℕ
apart = 48

-- "go through rules in book order, choices in theirs"
abbrev pub all_rewritings : List Rule → Question → List Question
all_rewritings rules M = gather (λ r. rewritings apart r M) rules

-- the run of a book's rules, explorations allowed and question, which may have answer places
unfoldable pub run : List Rule → ℕ → Asking → Outcome
run rules allowed q = run_by covers (limits_for (records q.answer)) (all_rewritings rules) allowed (joined q)
