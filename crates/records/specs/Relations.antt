-- A set of relations as the code holds it: a number of 64 binary digits, of which relation n has digit n mod 64. The
-- answer record's relation, 255, so has the last. Where a relation's digit is 0 the relation is not in the set; where it
-- is 1, that relation is, or another one with the same digit.
use Rattle.std.specs.Prelude.{Bool, [], ◌∷◌, ℕ, ◌/◌, ◌%◌, ◌^◌, eqb}
use Rattle.std.specs.Int.Bits.{bit_or}
use Rattle.covering.specs.Lists.{all}
use Rattle.covering.specs.Term.{Question}

-- the number whose one digit is that of relation n
unfoldable pub digit_of : ℕ → ℕ
digit_of n = 2 ^ (n % 64)

-- whether the digit of relation n is set
unfoldable pub is_in : ℕ → ℕ → Bool
is_in s n = eqb (s / digit_of n % 2) 1

-- s, and the relations of A's atoms
unfoldable pub joined_to : ℕ → Question → ℕ
joined_to s [] = s
joined_to s (a ∷ A) = joined_to (bit_or s (digit_of a.rel)) A

-- the set of a question's relations
unfoldable pub relations_of : Question → ℕ
relations_of A = joined_to 0 A

-- whether all relations of A are in the set
unfoldable pub are_in : ℕ → Question → Bool
are_in s A = all (λ a. is_in s a.rel) A

-- whether every relation of the first set is in the second
unfoldable pub is_part : ℕ → ℕ → Bool
is_part s t = eqb (bit_or s t) t
