-- The table of choice counts, as the code has it. That each entry is (h + 1)^n is one computed test, in
-- `proofs/Counts`.
use Rattle.std.specs.Prelude.{◌≡◌, List, [], ◌∷◌, ℕ, ◌≤◌, get_or}
use Rattle.unification.specs.Choice.{count}

-- "The counts (h + 1)^n, for h from 1 to 4 and n from 0 to 8, stand as a fixed table of choice counts, four rows of
-- nine."
unfoldable pub counts : List (List ℕ)
counts =
    (1 ∷ 2 ∷ 4 ∷ 8 ∷ 16 ∷ 32 ∷ 64 ∷ 128 ∷ 256 ∷ [])
    ∷ (1 ∷ 3 ∷ 9 ∷ 27 ∷ 81 ∷ 243 ∷ 729 ∷ 2187 ∷ 6561 ∷ [])
    ∷ (1 ∷ 4 ∷ 16 ∷ 64 ∷ 256 ∷ 1024 ∷ 4096 ∷ 16384 ∷ 65536 ∷ [])
    ∷ (1 ∷ 5 ∷ 25 ∷ 125 ∷ 625 ∷ 3125 ∷ 15625 ∷ 78125 ∷ 390625 ∷ [])
    ∷ []

-- the row for h head atoms: the counts for 0 to 8 question atoms
abbrev pub CountsFor : ℕ → List ℕ → Type 0
CountsFor h row = (n : ℕ) → n ≤ 8 → get_or row n 0 ≡ count h n

-- the most choices that the builder goes through: four head atoms, eight question atoms and an answer record, which is
-- always left
abbrev pub most_choices : ℕ
most_choices = 1953125
