-- A question without atoms (02, c): it "covers all that its record allows and holds in every ledger, the empty one too";
-- one that has atoms covers none of these. Assumes nothing.
use mathlib.Core.Path.{◌≡◌, refl}
use mathlib.Core.Bool.{true, false}
use mathlib.Core.List.Memᴰ
use mathlib.Core.List.{[], ◌∷◌, map}
use Rattle.covering.specs.Term.{Atom, Question, Sub, on_term}
use Rattle.covering.specs.Asking.{Asking}
use Rattle.covering.specs.Covers.{Covers, CoversAsking}
use Rattle.covering.specs.Search.{find_map, first_map, covers}
use Rattle.covering.specs.Term.{var}

-- it covers every conjunction of facts, none too
pub always_covers : (F : Question) → Covers [] F
always_covers F = record { by = var; sends = λ a m. absurd (Memᴰ.not-nil m) }

pub always_passes : (F : Question) → covers [] F ≡ true
unfolding covers first_map find_map
always_passes F = refl

-- with a record it covers whatever its record is sent to
pub always_asking : (s : Sub) (p q : Asking) → p.atoms ≡ [] → map (on_term s) p.answer ≡ q.answer → CoversAsking p q
always_asking s p q none answers =
    record { by = s; answers = answers; sends = λ a m. absurd (Memᴰ.not-nil (rw none at m)) }

-- nothing with atoms covers it
pub never_covers : (a : Atom) (A : Question) → Covers (a ∷ A) [] → ⊥
never_covers a A c = Memᴰ.not-nil (c.sends a (Memᴰ.head refl))

pub never_passes : (a : Atom) (A : Question) → covers (a ∷ A) [] ≡ false
unfolding covers first_map find_map
never_passes a A = refl
