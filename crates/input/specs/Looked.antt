-- How much of a book a program looks at.
use Rattle.std.specs.Prelude.{ℕ}

-- "a book of at most 65,536 bytes"; what follows them is ignored
abbrev pub looked_at : ℕ
looked_at = 65536
