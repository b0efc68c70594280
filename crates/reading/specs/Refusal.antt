-- What a refusal says ("The answer is a number and a place"): the number and the place, which are 0 and 0 where nothing
-- is wrong. How the functions say it is `Told`.
use Rattle.std.specs.Prelude.{ℕ}

pub record Refusal : Type 0 where
  pub number : ℕ
  pub place : ℕ
