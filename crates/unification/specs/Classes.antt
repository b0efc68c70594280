-- Classes of terms (01, "One-step rewritings"): "terms at equal places are put in one class, as coarse as this
-- requires and no coarser." Classes are held as a map of each variable to the term that stands for its class: "its
-- constant or else one variable of it". That they are the least is proved in `proofs/Classes`, `least_equivalence`.
use Rattle.std.specs.Prelude.{◌≡◌, cond, List, [], ◌∷◌, ℕ, eqb}
use Rattle.std.proofs.Math.Option.{Option, none, some}
use Rattle.covering.specs.Lists.{◌∈◌, bind}
use Rattle.covering.specs.Term.{Term, var, con, Sub, on_term}

-- two terms that are to be in one class
abbrev pub Pair : Type 0
Pair = Term × Term

-- the variable v becomes b, everything else stays
abbrev pub point : ℕ → Term → Term → Term
point v b (var n) = cond (eqb n v) b (var n)
point v b (con c) = con c

-- the classes that a and b stand for become one, a constant standing for it. "Different constants never unify."
abbrev pub join : Sub → Term → Term → Option Sub
join σ (var v) (var w) = some (λ n. point v (var w) (σ n))
join σ (var v) (con d) = some (λ n. point v (con d) (σ n))
join σ (con c) (var w) = some (λ n. point w (con c) (σ n))
join σ (con c) (con d) = cond (eqb c d) (some σ) none

abbrev pub merge : Sub → Pair → Option Sub
merge σ p = join σ (on_term σ p.0) (on_term σ p.1)

-- the classes σ with these pairs put together; none if two constants would meet. `var` are the classes of one term
-- each.
abbrev pub unify : List Pair → Sub → Option Sub
unify [] σ = some σ
unify (p ∷ ps) σ = bind (merge σ p) (λ τ. unify ps τ)

-- in one class: the same term stands for both
abbrev pub Kernel : Sub → Term → Term → Type 0
Kernel s t u = on_term s t ≡ on_term s u

-- each pair is in one class
abbrev pub HoldsPairs : (Term → Term → Type 0) → List Pair → Type 0
HoldsPairs E ps = (p : Pair) → p ∈ ps → E p.0 p.1

pub record Equivalence (E : Term → Term → Type 0) : Type 0 where
  pub same : (t : Term) → E t t
  pub turn : (t u : Term) → E t u → E u t
  pub chain : (t u v : Term) → E t u → E u v → E t v

-- "no class has two constants"
pub record Admissible (E : Term → Term → Type 0) : Type 0 where
  pub eq : Equivalence E
  pub apart : (c d : ℕ) → E (con c) (con d) → c ≡ d
