-- What follows of a slice that was filled, for the bytes that the reader had. Assumes nothing.
use Rattle.std.proofs.Common.{ℕ, List, None, Some, IfSome, take, subst}
use Rattle.std.specs.declared.option.Option.{Option}
use Rattle.input.specs.Filled.{Fills}

-- what holds of the bytes that were read holds of the front of those that the reader had
pub of_front : (P : List ℕ → Type 0) (a b : Option (List ℕ)) (room : ℕ) (read : List ℕ) → Fills room a b read → P
    read → IfSome a (λ xs. P (take room xs))
of_front P None b room read f p = tt
of_front P (Some xs) b room read f p = subst P f.0 p
