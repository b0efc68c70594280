-- What is read into a slice of so many bytes.
use Rattle.std.specs.Prelude.{◌≡◌, ℕ, List, take, drop, ⊤, None, Some}
use Rattle.std.specs.declared.option.Option.{Option}

-- where the reader's bytes are known: their front, as much as fits, and the reader has the rest
abbrev pub Fills : ℕ → Option (List ℕ) → Option (List ℕ) → List ℕ → Type 0
Fills room None after read = ⊤
Fills room (Some xs) after read = (read ≡ take room xs) × (after ≡ Some (drop room xs))
