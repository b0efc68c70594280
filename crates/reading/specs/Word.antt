-- The book's numbers (01, "Stored book"). A book is a list of bytes; what stands past its end reads as 0, so that each
-- definition below has a value for every list. A book that is too short is refused before any such value counts.
use Rattle.std.specs.Prelude.{List, [], ◌∷◌, ℕ, ◌+◌, ◌*◌, ◌/◌, ◌%◌, get_or}

abbrev pub byte : List ℕ → ℕ → ℕ
byte B i = get_or B i 0

-- "All words are 16-bit, little-endian."
unfoldable pub word : List ℕ → ℕ → ℕ
word B i = byte B i + 256 * byte B (i + 1)

-- a word as it is written: "little-endian 16-bit words"
abbrev pub word_bytes : ℕ → List ℕ
word_bytes n = n % 256 ∷ n / 256 ∷ []
