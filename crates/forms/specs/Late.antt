-- Where a variable above 31 is looked for.
use Rattle.std.specs.Prelude.{List, ℕ}
use Rattle.std.proofs.Math.Option.{Option}
use Rattle.reading.specs.Header.{rules}
use Rattle.reading.specs.Book.{rules_start}
use Rattle.reading.specs.Copy.{late_in_rules}

-- the first in the rules of a book
abbrev pub in_rules : List ℕ → Option ℕ
in_rules B = late_in_rules B (rules_start B) (rules B)
