-- Raising L does not change a complete run: neither its members nor its count of explored questions. Assumes nothing.
use mathlib.Core.Path.{◌≡◌, subst}
use mathlib.Core.List.{List}
use Prim.Native.Nat.{ℕ, ◌≤◌}
use native.Mathlib.Omega.{arith}
use Rattle.covering.specs.Term.{Question}
use Rattle.covering.specs.Asking.{Asking, joined, records}
use Rattle.covering.specs.Search.{covers}
use Rattle.covering.specs.Rule.{Rule}
use Rattle.exploration.specs.Run.{Test, Limits, limits_for, complete, all_rewritings, run_by, run}
use Rattle.exploration.specs.Steps.{Position, Reaches, begins, takes_up, drops, appends, stops, finishes}
use Rattle.exploration.specs.Steps.{Ends, completes}
use Rattle.exploration.proofs.Ends.{run_ends, ends_only}

module _ (cov : Test) (lim : Limits) (steps : Question → List Question) (Q : Question) (less more : ℕ)
    (l : less ≤ more)
  where
    -- with more allowed the run comes to the same positions, and perhaps to others
    more_reaches : {p : Position} → Reaches cov lim steps less Q p → Reaches cov lim steps more Q p
    more_reaches begins = begins
    more_reaches (takes_up c e h) = takes_up (more_reaches c) e (omega arith)
    more_reaches (drops c t) = drops (more_reaches c) t
    more_reaches (appends c a t) = appends (more_reaches c) a t
    more_reaches (stops c a t) = stops (more_reaches c) a t
    more_reaches (finishes c) = finishes (more_reaches c)

    more_ends : {U : List Question} {n : ℕ} → Ends cov lim steps less Q (complete U n)
        → Ends cov lim steps more Q (complete U n)
    more_ends (completes c e) = completes (more_reaches c) e

    pub raising_keeps : {U : List Question} {n : ℕ} → run_by cov lim steps less Q ≡ complete U n
        → run_by cov lim steps more Q ≡ complete U n
    raising_keeps e =
        ends_only cov lim steps more Q
        (more_ends (subst (Ends cov lim steps less Q) e (run_ends cov lim steps less Q)))

-- the same of a book's run
pub run_raised : (rules : List Rule) (q : Asking) {less more : ℕ} → less ≤ more → {U : List Question} {n : ℕ}
    → run rules less q ≡ complete U n → run rules more q ≡ complete U n
unfolding run
run_raised rules q {less} {more} l e =
    raising_keeps covers (limits_for (records q.answer)) (all_rewritings rules) (joined q) less more l e
