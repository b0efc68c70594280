-- Passing over choices whose rewritings are all covered, as the code asks for them.
use Rattle.std.specs.Prelude.{◌≡◌, Bool, false, List, ℕ, suc, ◌≤◌, ◌<◌, T, length}
use Rattle.std.proofs.Math.Option.{Option, none, some}
use Rattle.covering.specs.Lists.{◌∈◌}
use Rattle.covering.specs.Term.{Question}
use Rattle.covering.specs.Search.{covers}
use Rattle.covering.specs.Rule.{Rule}
use Rattle.unification.specs.Choice.{Choice, number, choices}
use Rattle.unification.specs.Step.{listed}
use Rattle.lister.specs.FirstDigits.{settled}
use Rattle.exploration.specs.Run.{covered, apart}

-- whether one of U covers what the first digits settle, if they can be sent
abbrev pub covers_settled : List Question → Option Question → Bool
covers_settled U none = false
covers_settled U (some X) = covered covers X U

-- whether one of U covers what the first p digits of the choice with number c settle of M by the rule r
pub record PrefixCovered (r : Rule) (M : Question) (U : List Question) (c p : ℕ) (ok : Bool) : Type 0 where
  pub choice : Choice
  pub among : choice ∈ choices (length r.head) (length M)
  pub place : number (length r.head) choice ≡ c
  pub is : ok ≡ covers_settled U (settled apart r M p choice)

-- after the choice with number c the exploration of M by r may go on at the number n: one of U covers each rewriting
-- that is listed between
pub record GoesOn (r : Rule) (M : Question) (U : List Question) (c n : ℕ) : Type 0 where
  pub later : c < n
  pub between : (i : ℕ) (P : Question) → (i, P) ∈ listed apart r M → suc c ≤ i → i < n → T (covered covers P U)
