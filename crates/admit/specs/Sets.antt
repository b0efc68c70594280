-- The sets that are kept beside the working array: one for each member, of its relations, as `records` holds sets. A member
-- some of whose relations do not stand in a rewriting does not cover it, and is passed over by a look at two words.
use Rattle.std.specs.Prelude.{◌≡◌, List, [], ◌∷◌, ℕ, ◌+◌, length, get_or}
use Rattle.covering.specs.Term.{Question}
use Rattle.records.specs.Relations.{relations_of}
use Rattle.exploration.specs.Union.{first_at}
use Rattle.exploration.specs.Held.{held_from}

-- the sets from the i-th on are those of the members U
unfoldable pub SetsFrom : List ℕ → ℕ → List Question → Type 0
SetsFrom S i [] = Unit {0}
SetsFrom S i (M ∷ U) = (get_or S i 0 ≡ relations_of M) × SetsFrom S (i + 1) U

-- S are the sets beside the working array W, which has so many members
pub record Beside (S W : List ℕ) (count : ℕ) : Type 0 where
  pub size : length S ≡ 64
  pub sets : SetsFrom S 0 (held_from W first_at count)
