-- One-step rewritings (01, "One-step rewritings"): which choices are valid, what each gives, and the list of a
-- question's rewritings by a rule with the numbers of their choices.
use Rattle.std.specs.Prelude.{Bool, cond, not, ◌&&◌, ◌||◌, List, ◌++◌, map, ℕ, ◌+◌, leb, length}
use Rattle.std.proofs.Math.Option.{Option, none, some}
use Rattle.covering.specs.Lists.{any, all, keep, head, bind, collect}
use Rattle.covering.specs.Term.{Term, var, Question, Sub, on_term, on_question, terms, eq_term, is_var}
use Rattle.covering.specs.Form.{form}
use Rattle.covering.specs.Rule.{Rule}
use Rattle.unification.specs.Classes.{unify}
use Rattle.unification.specs.Choice.{Choice, number, choices, some_sent, left, pairing}

-- "The rule's variables are kept apart from the question's": they are moved up by k, which is to be above every
-- variable of the question (`Below`)
abbrev pub up : ℕ → Sub
up k n = var (k + n)

abbrev pub move : ℕ → Rule → Rule
move k r = record { body = on_question (up k) r.body; head = on_question (up k) r.head }

abbrev pub mem_term : Term → List Term → Bool
mem_term t ts = any (eq_term t) ts

-- of a head's terms, the existential variables: "one in the head only"
abbrev pub is_unknown : Rule → Term → Bool
is_unknown r t = is_var t && not (mem_term t (terms r.body))

-- "a class with an existential variable has otherwise only question variables that occur in no left atom": so of the
-- left atoms' terms and the rule's terms none is in it but the variable itself, and no constant stands for it
abbrev pub guarded : Question → Rule → List Term
guarded L r = terms L ++ (terms r.body ++ terms r.head)

abbrev pub safe : Sub → List Term → Term → Bool
safe σ G z = is_var (on_term σ z) && all (λ t. eq_term t z || not (eq_term (on_term σ t) (on_term σ z))) G

-- "It is valid if no class has two constants": then there are classes σ (`unify`); "and a class with ..". That this
-- says just what the sentence says is `valid_means` in `proofs/Means`.
abbrev pub valid : Sub → Question → Rule → Bool
valid σ L r = all (λ z. not (is_unknown r z) || safe σ (guarded L r) z) (terms r.head)

-- "The rewriting is the left atoms, then the rule's body, each class replaced by its constant or else one variable
-- of it. Other body variables are fresh": they are in no class but their own
abbrev pub rewriting : Sub → Question → Rule → Question
rewriting σ L r = on_question σ (L ++ r.body)

-- what classes σ give for the left atoms L: "Equal atoms are dropped but for the first, then variables are numbered"
abbrev pub judge : Question → Rule → Sub → Option Question
judge L r σ = let P = form (rewriting σ L r) in cond (valid σ L r) (some P) none

abbrev pub step_apart : Rule → Question → Choice → Option Question
step_apart r Q ds = bind (unify (pairing ds Q r.head) var) (judge (left ds Q) r)

-- what a choice gives, if it is valid
unfoldable pub step : ℕ → Rule → Question → Choice → Option Question
step k r Q ds = step_apart (move k r) Q ds

abbrev pub label : {X : Type 0} → ℕ → Option X → Option (ℕ × X)
label n none = none
label n (some x) = some (n, x)

-- the rewritings of a question by a rule, each with its choice's number, choices ascending
unfoldable pub listed : ℕ → Rule → Question → List (ℕ × Question)
listed k r Q =
    let h = length r.head in
    collect (λ ds. label (number h ds) (step k r Q ds)) (keep some_sent (choices h (length Q)))

unfoldable pub rewritings : ℕ → Rule → Question → List Question
rewritings k r Q = map (λ e. e.1) (listed k r Q)

-- from a stated number on
abbrev pub from : {X : Type 0} → ℕ → List (ℕ × X) → List (ℕ × X)
from n l = keep (λ e. leb n e.0) l

-- the first valid choice at or after a number, with its rewriting
unfoldable pub next : ℕ → Rule → Question → ℕ → Option (ℕ × Question)
next k r Q n = head (from n (listed k r Q))
