-- What leaving an atom keeps, and sending one, the builder carries from a prefix to the whole choices: where it forbids
-- every verdict, they give nothing (`first_nothing`). Assumes nothing.
use mathlib.Core.Path.{◌≡◌, refl, ◌∙◌}
use mathlib.Core.Bool.{Bool, true, false, cond}
use mathlib.Core.List.{[], ◌∷◌, ◌++◌}
use mathlib.Core.Option.{Option, none, some}
use Prim.Native.Nat.{ℕ, zero, suc}
use Rattle.covering.specs.Lists.{bind, numbers}
use Rattle.covering.specs.Term.{Atom, Question}
use Rattle.unification.proofs.Collected.{first_of_same, first_of_none}
use Rattle.lister.specs.Build.{Builder, more, first, first_by_digit}
use Rattle.lister.proofs.Build.{first_whole, first_digits}

pub record KeptByDigits {C X : Type 0} (B : Builder C X) (I : Question → C → Type 0) : Type 0 where
  pub leaves : (L : Question) (a : Atom) (σ : C) → I L σ → I (L ++ a ∷ []) σ
  pub sends : (L : Question) (d : ℕ) (a : Atom) (σ τ : C) → B.meet d a σ ≡ some τ → I L σ → I L τ

module _ {C X : Type 0} (B : Builder C X) {I : Question → C → Type 0} (kept : KeptByDigits B I)
    (never : (w : ℕ) (L : Question) (σ : C) → I L σ → B.verdict w L σ ≡ none)
  where
    pub first_nothing : (q : Question) (w : ℕ) (L : Question) (b : Bool) (σ : C) → I L σ → first B w L b q σ ≡ none
    first_nothing [] w L b σ i = first_whole B w L b σ ∙ at b
      where
        at : (b : Bool) → cond b (B.verdict w L σ) none ≡ none
        at true = never w L σ i
        at false = refl
    first_nothing (a ∷ q) w L b σ i =
        first_digits B w L b a q σ
        ∙ first_of_same (first_by_digit B w L b a q σ) (λ d. none) (numbers 0 (suc B.heads))
        (λ d m. at d (λ w' L' b' τ. first_nothing q w' L' b' τ))
        ∙ first_of_none (numbers 0 (suc B.heads))
      where
        Rest : Type 0
        Rest = (w' : ℕ) (L' : Question) (b' : Bool) (τ : C) → I L' τ → first B w' L' b' q τ ≡ none

        sent : (d : ℕ) (o : Option C) → B.meet d a σ ≡ o → Rest
            → bind o (λ τ. first B (more B w (suc d)) L true q τ) ≡ none
        sent d none e rest = refl
        sent d (some τ) e rest = rest (more B w (suc d)) L true τ (kept.sends L d a σ τ e i)

        at : (d : ℕ) → Rest → first_by_digit B w L b a q σ d ≡ none
        at zero rest = rest (more B w 0) (L ++ a ∷ []) b σ (kept.leaves L a σ i)
        at (suc d) rest = sent d (B.meet d a σ) refl rest
