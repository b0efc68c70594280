-- How bytes are put into a buffer: the contracts of what writes there are said with it.
use Rattle.std.specs.Prelude.{◌≡◌, List, ◌++◌, ℕ, ◌+◌, ◌≤◌, length, take, drop}

-- The bytes stand in the buffer from `at` on and end at `end`; every other byte is as it was.
pub record Puts (bytes before : List ℕ) (at end : ℕ) (after : List ℕ) : Type 0 where
  pub ends : end ≡ at + length bytes
  pub within : end ≤ length before
  pub puts : after ≡ take at before ++ (bytes ++ drop end before)
