-- Candidates (`specs/Candidates`): where an atom that is left has none the search finds nothing, so the look-ahead
-- changes neither the answer nor the first map; and that is the map with the first atom on its first candidate that
-- serves. Assumes nothing.
use mathlib.Core.Path.{◌≡◌, refl, sym, ◌∙◌, ap}
use mathlib.Core.Bool.{false}
use mathlib.Core.List.{List, ◌∷◌}
use mathlib.Core.Option.{none}
use Prim.Native.Nat.{ℕ}
use lib.Dec.{T}
use lib.ListN.{length}
use Rattle.covering.specs.Lists.{all, first_of}
use Rattle.covering.specs.Term.{Atom, Question, on_atom}
use Rattle.covering.specs.Search.{Part, nowhere, find_map, first_map}
use Rattle.cover.specs.Candidates.{placed_on, found_on, has_candidate}
use Rattle.cover.specs.HeldMap.{part_of, Searched}
use Rattle.covering.proofs.Tests.{false→no}
use Rattle.covering.proofs.Lists.{any_in, all_in, some_is, none_of}
use Rattle.covering.proofs.Decides.{Found, search_sound, atom_yields}

-- the look-ahead: where an atom that is left has no candidate, the search finds nothing
pub dead_end : (A B : Question) (p : Part) → (T (all (has_candidate p B) A) → ⊥) → find_map A B p ≡ none
unfolding has_candidate
dead_end A B p stuck = none_of (find_map A B p) (λ t. stuck (alive (search_sound A B p t)))
  where
    alive : Found A B p → T (all (has_candidate p B) A)
    alive f =
        all_in (has_candidate p B) A (λ a m.
        any_in _ B (f.sends a m) (some_is (atom_yields f.by p a (on_atom f.by a) refl f.respects).found))

-- so a search that sees it ends there, its map as it came
pub seen_ends : (A B : Question) (came gone : List ℕ) → gone ≡ came → all (has_candidate (part_of gone) B) A ≡ false
    → Searched (find_map A B (part_of came)) came gone false
seen_ends A B came gone e dead =
    let stuck = false→no _ (ap (λ m. all (has_candidate (part_of m) B) A) (sym e) ∙ dead) in
    record { finds = sym (dead_end A B (part_of came) stuck); back = λ t. e; long = ap length e }

-- the first map of A is that with its first atom on the first atom of B that serves
pub first_any : (a : Atom) (A B : Question) → first_map (a ∷ A) B ≡ first_of (found_on (a ∷ A) B nowhere) B
unfolding first_map find_map found_on placed_on
first_any a A B = refl
