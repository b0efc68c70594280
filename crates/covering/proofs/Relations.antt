-- A question covers only questions that have all its relations, so a look at the relations ends many tests before they
-- begin (`relations_first`). Assumes nothing.
use mathlib.Core.Path.{◌≡◌, refl, subst}
use mathlib.Core.Bool.{Bool, false}
use Prim.Native.Nat.{ℕ}
use lib.Dec.{T}
use Rattle.covering.specs.Lists.{◌∈◌, all}
use Rattle.covering.specs.Term.{Atom, Question}
use Rattle.covering.specs.Covers.{Covers}
use Rattle.covering.specs.Search.{covers}
use Rattle.covering.proofs.Decides.{covers_decides}
use Rattle.covering.proofs.Lists.{all_in}
use Rattle.covering.proofs.Tests.{false→no, no→false}

-- the relation of an atom stands in B: some atom of B has it
abbrev pub StandsIn : Question → ℕ → Type 0
StandsIn B n = (b : Atom) × (b ∈ B) × (b.rel ≡ n)

pub covers_relations : {A B : Question} → Covers A B → (a : Atom) → a ∈ A → StandsIn B a.rel
covers_relations c a m = (_, c.sends a m, refl)

-- where a test holds of every relation of B, and not of every relation of A, A does not cover B
pub relations_first : (A B : Question) (p : ℕ → Bool) → ((b : Atom) → b ∈ B → T (p b.rel))
    → all (λ a. p a.rel) A ≡ false → covers A B ≡ false
relations_first A B p h e = no→false (covers A B) (λ t. false→no (all (λ a. p a.rel) A) e (all_in _ A (holds t)))
  where
    holds : T (covers A B) → (a : Atom) → a ∈ A → T (p a.rel)
    holds t a m =
        let b = covers_relations ((covers_decides A B).0 t) a m in
        subst (λ (n : ℕ). T (p n)) b.2 (h b.0 b.1)
