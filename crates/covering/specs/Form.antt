-- The form of a question (01, "One-step rewritings"): "Equal atoms are dropped but for the first, then variables are
-- numbered 0, 1, .. by first appearance."
use Rattle.std.specs.Prelude.{cond, not, List, [], ◌∷◌, ℕ, zero, suc, eqb}
use Rattle.covering.specs.Lists.{keep}
use Rattle.covering.specs.Term.{Term, var, con, Question, Sub, on_question, terms, eq_atom}

-- "Equal atoms are dropped but for the first"
abbrev pub dedup : Question → Question
dedup [] = []
dedup (a ∷ A) = a ∷ keep (λ b. not (eq_atom a b)) (dedup A)

-- the variables of a list of terms, in order of first appearance
abbrev pub firsts : List Term → List ℕ
firsts [] = []
firsts (var n ∷ ts) = n ∷ keep (λ m. not (eqb n m)) (firsts ts)
firsts (con c ∷ ts) = firsts ts

-- where a number stands in a list
abbrev pub index : List ℕ → ℕ → ℕ
index [] n = zero
index (m ∷ ms) n = let r = suc (index ms n) in cond (eqb m n) zero r

-- "variables are numbered 0, 1, .. by first appearance"
abbrev pub numbering : Question → Sub
numbering A n = var (index (firsts (terms A)) n)

abbrev pub renumber : Question → Question
renumber A = on_question (numbering A) A

unfoldable pub form : Question → Question
form A = renumber (dedup A)
