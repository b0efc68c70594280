-- The map that covering gives (02, f): "Among all maps give the first when atoms are taken in order and candidates in
-- order." That the search's map is this one is proved in `proofs/FirstMap`, and that there is no other in
-- `proofs/OneFirst`.
use Rattle.std.specs.Prelude.{◌≡◌, ◌⊎◌, List, [], ◌∷◌, map, ℕ, zero, suc, ◌<◌, replicate}
use Rattle.std.proofs.Math.Option.{Option, none, some}
use Rattle.covering.specs.Lists.{◌∈◌, numbers}
use Rattle.covering.specs.Term.{Term, var, Atom, Question, Sub, on_atom, terms}
use Rattle.covering.specs.Search.{Part}
use Rattle.covering.specs.Record.{byte_of}

-- the atom that stands n-th in B, from 0 on
abbrev pub nth : Question → ℕ → Option Atom
nth [] n = none
nth (b ∷ B) zero = some b
nth (b ∷ B) (suc n) = nth B n

-- s allows a sequence of candidates, one for each atom of A in its order, each by its place in B: it sends each atom to
-- its own
abbrev pub Allows : Sub → Question → Question → List ℕ → Type 0
Allows s [] B [] = Unit {0}
Allows s [] B (n ∷ c) = ⊥
Allows s (a ∷ A) B [] = ⊥
Allows s (a ∷ A) B (n ∷ c) = (nth B n ≡ some (on_atom s a)) × Allows s A B c

-- c is not after d: the first atom's candidate is the most significant
abbrev pub NotAfter : List ℕ → List ℕ → Type 0
NotAfter [] d = Unit {0}
NotAfter (n ∷ c) [] = ⊥
NotAfter (n ∷ c) (m ∷ d) = (n < m) ⊎ ((n ≡ m) × NotAfter c d)

-- of all sequences of candidates that some map allows the first, and "the map is what it makes of the variables"
pub record FirstMap (A B : Question) (p : Part) : Type 0 where
  pub candidates : List ℕ
  pub by : Sub
  pub allows : Allows by A B candidates
  pub first : (d : List ℕ) (s : Sub) → Allows s A B d → NotAfter candidates d
  pub there : (n : ℕ) → var n ∈ terms A → p n ≡ some (by n)
  pub nowhere_else : (n : ℕ) → (var n ∈ terms A → ⊥) → p n ≡ none

-- "Byte v is the term's byte that variable v goes to; 255 where v does not stand in the first record"
abbrev pub goes_byte : Option Term → ℕ
goes_byte none = 255
goes_byte (some t) = byte_of t

unfoldable pub map_bytes : ℕ → Part → List ℕ
map_bytes k p = map (λ v. goes_byte (p v)) (numbers 0 k)

-- "and everywhere when the answer is not 1"
abbrev pub map_or : ℕ → Option Part → List ℕ
map_or k none = replicate k 255
map_or k (some p) = map_bytes k p
