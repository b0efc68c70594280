-- A member's record with so many of its atoms, its answer record or none, not counted, and w places an atom: how the
-- code writes it.
use Rattle.std.specs.Prelude.{List, ◌∷◌, ◌++◌, ℕ, ◌-◌, length}
use Rattle.covering.specs.Lists.{gather}
use Rattle.covering.specs.Term.{Question}
use Rattle.covering.specs.Record.{holding, atom_bytes}
use Rattle.reading.specs.Word.{word_bytes}
use Rattle.exploration.specs.Union.{first_at}

abbrev pub uncounted_record : ℕ → ℕ → Question → List ℕ
uncounted_record w answers M = (length M - answers) ∷ gather (atom_bytes (holding w)) M

abbrev pub uncounted_bytes : ℕ → ℕ → List Question → List ℕ
uncounted_bytes w answers U = gather (uncounted_record w answers) U

-- the four words before the members: how many, how many were explored, where the first stands, where the last ends
abbrev pub four_words : ℕ → ℕ → ℕ → List ℕ
four_words count explored end =
    word_bytes count ++ (word_bytes explored ++ (word_bytes first_at ++ word_bytes end))
