-- The builder (01, "One-step rewritings"): "A choice is built up atom by atom." It carries the choice's number so
-- far, the atoms left so far, whether some atom was sent, the atoms to go, and the classes so far, and goes no
-- further where an atom cannot be put on its head atom. It is over any kind of classes C and any kind of result X.
use Rattle.std.specs.Prelude.{Bool, true, cond, List, [], ◌∷◌, ◌++◌, ℕ, zero, suc, ◌+◌, ◌*◌, leb, length}
use Rattle.std.proofs.Math.Option.{Option, none, some}
use Rattle.covering.specs.Lists.{push, bind, first_of, gather, numbers}
use Rattle.covering.specs.Term.{Atom, Question, Sub}
use Rattle.covering.specs.Rule.{Rule}
use Rattle.unification.specs.Classes.{unify}
use Rattle.unification.specs.Choice.{to_head}
use Rattle.unification.specs.Step.{move, judge, label}
use Rattle.unify.specs.Table.{Table, tabled, unify_table}

pub record Builder (C X : Type 0) : Type 0 where
  -- how many head atoms there are
  pub heads : ℕ
  -- the classes with a question atom put on the head atom after the first d, none where they cannot be
  pub meet : ℕ → Atom → C → Option C
  -- what a whole choice gives, by its number, its left atoms and its classes
  pub verdict : ℕ → Question → C → Option X

abbrev pub by_digit : {Y : Type 0} → ℕ → Y → (ℕ → Y) → Y
by_digit zero leave send = leave
by_digit (suc d) leave send = send d

abbrev pub list_of : {C X : Type 0} → Option C → (C → List X) → List X
list_of none f = []
list_of (some σ) f = f σ

module _ {C X : Type 0} (B : Builder C X) where
  -- the number so far with one digit more
  abbrev pub more : ℕ → ℕ → ℕ
  more w d = w * suc B.heads + d

  -- all that the choices give, in order
  unfoldable pub build : ℕ → Question → Bool → Question → C → List X
  build w L b [] σ = push (cond b (B.verdict w L σ) none) []
  build w L b (a ∷ q) σ =
      gather
      (λ d.
      let leave = build (more w d) (L ++ a ∷ []) b q σ in
      by_digit d leave (λ e. list_of (B.meet e a σ) (λ τ. build (more w d) L true q τ)))
      (numbers 0 (suc B.heads))

  -- the first that they give
  unfoldable pub first : ℕ → Question → Bool → Question → C → Option X
  first w L b [] σ = cond b (B.verdict w L σ) none
  first w L b (a ∷ q) σ =
      first_of
      (λ d.
      let leave = first (more w d) (L ++ a ∷ []) b q σ in
      by_digit d leave (λ e. bind (B.meet e a σ) (λ τ. first (more w d) L true q τ)))
      (numbers 0 (suc B.heads))

  -- the first that the choices with the digit d for the next atom give
  abbrev pub first_by_digit : ℕ → Question → Bool → Atom → Question → C → ℕ → Option X
  first_by_digit w L b a q σ d =
      by_digit d (first (more w d) (L ++ a ∷ []) b q σ)
      (λ e. bind (B.meet e a σ) (λ τ. first (more w d) L true q τ))

-- what a choice gives from the number n on
abbrev pub since : {X : Type 0} → ℕ → ℕ → Option X → Option (ℕ × X)
since n c o = let r = label c o in cond (leb n c) r none

-- the builder of one-step rewritings from the number n on
abbrev pub builder : ℕ → Rule → ℕ → Builder Sub (ℕ × Question)
builder k r n =
    record {
      heads = length r.head;
      meet = λ d a σ. unify (to_head (move k r).head d a) σ;
      verdict = λ c L σ. since n c (judge L (move k r) σ);
    }

-- the builder of one-step rewritings over tables
abbrev pub table_builder : ℕ → Rule → ℕ → Builder Table (ℕ × Question)
table_builder k r n =
    record {
      heads = length r.head;
      meet = λ d a m. unify_table (to_head (move k r).head d a) m;
      verdict = λ c L m. since n c (judge L (move k r) (tabled m));
    }
