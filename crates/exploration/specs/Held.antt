-- How the code holds members while it explores: one after the other, each as a record that counts all its atoms, an answer
-- record among them.
use Rattle.std.specs.Prelude.{List, [], ◌∷◌, ℕ, zero, suc, ◌+◌, length, drop}
use Rattle.covering.specs.Lists.{gather}
use Rattle.covering.specs.Term.{Question}
use Rattle.covering.specs.Record.{stored, width, atoms_at, record_bytes, SoundRecord}
use Rattle.reading.specs.Word.{byte}
use Rattle.exploration.specs.Union.{first_at}

abbrev pub held_bytes : List Question → List ℕ
held_bytes U = gather (record_bytes stored) U

-- where they end, the first at 8
unfoldable pub held_total : List Question → ℕ
held_total U = first_at + length (held_bytes U)

-- where the member after the one at i starts, and n members from i on
abbrev pub held_end : List ℕ → ℕ → ℕ
held_end W i = i + width stored (byte W i)

unfoldable pub held_from : List ℕ → ℕ → ℕ → List Question
held_from W i zero = []
held_from W i (suc n) = atoms_at stored W (i + 1) (byte W i) ∷ held_from W (held_end W i) n

-- n members stand from i on, one after the other, each as a sound record
unfoldable pub Standing : List ℕ → ℕ → ℕ → Type 0
Standing W i zero = Unit {0}
Standing W i (suc n) = SoundRecord stored (drop i W) × Standing W (held_end W i) n
