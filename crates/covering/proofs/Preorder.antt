-- Covering is reflexive and transitive. Assumes nothing.
use mathlib.Core.Path.{sym}
use mathlib.Core.List.Memᴰ
use Rattle.covering.specs.Lists.{◌∈◌}
use Rattle.covering.specs.Term.{var, Atom, Question, comp}
use Rattle.covering.specs.Covers.{Covers, Equivalent}
use Rattle.covering.proofs.Terms.{on_atom_var, on_atom_comp}

-- what is a part of another covers it
pub covers_part : {A B : Question} → ((a : Atom) → a ∈ A → a ∈ B) → Covers A B
covers_part h = record { by = var; sends = λ a m. Memᴰ.cast (on_atom_var a) (h a m) }

pub covers_refl : (A : Question) → Covers A A
covers_refl A = covers_part (λ a m. m)

pub covers_trans : {A B C : Question} → Covers A B → Covers B C → Covers A C
covers_trans p q =
    record {
      by = comp q.by p.by;
      sends = λ a m. Memᴰ.cast (sym (on_atom_comp q.by p.by a)) (q.sends _ (p.sends a m));
    }

pub equivalent_turn : {A B : Question} → Equivalent A B → Equivalent B A
equivalent_turn p = (p.1, p.0)

pub equivalent_trans : {A B C : Question} → Equivalent A B → Equivalent B C → Equivalent A C
equivalent_trans p q = (covers_trans p.0 q.0, covers_trans q.1 p.1)
