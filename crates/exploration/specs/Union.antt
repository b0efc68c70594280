-- The union as bytes (01, "Union as written"), there and back. "Members use seven bytes too" (02, i): w is how many places
-- an atom of the book has.
use Rattle.std.specs.Prelude.{List, [], ◌∷◌, ◌++◌, ℕ, zero, suc, ◌+◌, length}
use Rattle.covering.specs.Lists.{gather}
use Rattle.covering.specs.Term.{Question}
use Rattle.covering.specs.Asking.{asking}
use Rattle.covering.specs.Record.{holding, width, atoms_at, asking_bytes}
use Rattle.reading.specs.Word.{byte, word, word_bytes}

-- "Then each member in order of arrival: one count byte and its atoms, five bytes each."; with answer places, "Members
-- carry it uncounted after the count byte" (02, a)
abbrev pub members_bytes : ℕ → List Question → List ℕ
members_bytes w U = gather (λ M. asking_bytes (holding w) (asking M)) U

-- "offset of the first member (8)"
abbrev pub first_at : ℕ
first_at = 8

-- "total length"
unfoldable pub total : ℕ → List Question → ℕ
total w U = first_at + length (members_bytes w U)

-- "Four little-endian 16-bit words: members, questions explored, offset of the first member (8), total length."
unfoldable pub union_bytes : ℕ → List Question → ℕ → List ℕ
union_bytes w U explored =
    word_bytes (length U)
    ++ (word_bytes explored ++ (word_bytes first_at ++ (word_bytes (total w U) ++ members_bytes w U)))

-- "Output room becomes 4,104 for all" (02, i): 8 + 64 x 64
abbrev pub output_size : ℕ
output_size = 4104

-- From bytes, where each member has so many answer records, one or none: where the member after the one at i starts, and
-- n members from i on.
abbrev pub member_end : ℕ → ℕ → List ℕ → ℕ → ℕ
member_end w answers W i = i + width (holding w) (answers + byte W i)

unfoldable pub members_from : ℕ → ℕ → List ℕ → ℕ → ℕ → List Question
members_from w answers W i zero = []
members_from w answers W i (suc n) =
    atoms_at (holding w) W (i + 1) (answers + byte W i) ∷ members_from w answers W (member_end w answers W i) n

-- the members that a written union has, and its count of questions explored
unfoldable pub members_of : ℕ → ℕ → List ℕ → List Question
members_of w answers W = members_from w answers W (word W 4) (word W 0)

abbrev pub explored_of : List ℕ → ℕ
explored_of W = word W 2

abbrev pub total_of : List ℕ → ℕ
total_of W = word W 6
