-- The desk's answers as numbers and maps, which 01 and 02 give them.
use Rattle.std.specs.Prelude.{List, ℕ, Result, Ok, Err, Option, Some, None, replicate}
use Rattle.covering.specs.Desk.{map_size}
use Rattle.cover.specs.declared.Malformed.{Malformed}
use Rattle.cover.specs.declared.Malformed.TheVariants as malformed
use Rattle.cover.specs.declared.Which.{Which}
use Rattle.cover.specs.declared.Which.TheVariants as which
use Rattle.cover.specs.declared.Keeping.{Keeping}

-- "255 .. everywhere when the answer is not 1"
abbrev pub no_map : List ℕ
no_map = replicate map_size 255

-- "0 no, 1 yes, 2 first malformed, 3 second malformed"
abbrev pub number_told : Result (Option (List ℕ)) Malformed → ℕ
number_told (Ok None) = 0
number_told (Ok (Some map)) = 1
number_told (Err malformed.First) = 2
number_told (Err malformed.Second) = 3

abbrev pub map_told : Result (Option (List ℕ)) Malformed → List ℕ
map_told (Ok None) = no_map
map_told (Ok (Some map)) = map
map_told (Err m) = no_map

-- "0 neither, 1 the first, 2 the second"
abbrev pub number_of : Which → ℕ
number_of which.First = 1
number_of which.Second = 2

abbrev pub which_told : Option Keeping → ℕ
which_told None = 0
which_told (Some kept) = number_of kept.which

abbrev pub kept_map_told : Option Keeping → List ℕ
kept_map_told None = no_map
kept_map_told (Some kept) = kept.map
