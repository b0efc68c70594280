-- What is written of a copy: its bytes, or the line of the refusal.
use Rattle.std.specs.Prelude.{List, ◌++◌, ℕ, take, cond, ◌==◌, codes, decimal}
use Rattle.reading.specs.Copy.{Copied, copied, refused}

-- the line of a refusal
abbrev pub refusal : ℕ → ℕ → List ℕ
refusal number place = codes "refused " ++ (decimal number ++ (codes " at " ++ (decimal place ++ codes "\n")))

-- what is written of a copy that was made in these bytes
abbrev pub written : ℕ → ℕ → List ℕ → List ℕ
written number place bytes = cond (number == 0) (take place bytes) (refusal number place)

-- what is written of a copy
abbrev pub told : Copied → List ℕ
told (copied bytes) = bytes
told (refused number place) = refusal number place
