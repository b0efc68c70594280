-- The atoms that a prefix of a choice leaves, as the code holds them: a bit for each atom that has its digit, 1 for those
-- that are sent, the last atom's the lowest.
use Rattle.std.specs.Prelude.{Bool, true, false, cond, List, [], ◌∷◌, ◌++◌, ℕ, zero, suc, ◌+◌, ◌*◌, ◌/◌, ◌%◌, eqb}
use Rattle.covering.specs.Term.{Question}
use Rattle.covering.specs.Record.{stored, atom_at}

-- whether an atom is sent
abbrev pub any_sent : ℕ → Bool
any_sent zero = false
any_sent (suc m) = true

-- those of the first n atoms of Q that are left
unfoldable pub left_by : List ℕ → ℕ → ℕ → Question
left_by Q zero m = []
left_by Q (suc n) m =
    let before = left_by Q n (m / 2) in
    let with_it = before ++ atom_at stored Q (1 + n * 7) ∷ [] in
    cond (eqb (m % 2) 1) before with_it
