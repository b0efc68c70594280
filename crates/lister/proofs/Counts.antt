-- Each entry of the table of choice counts is the count that it stands for, by one test that is computed at every entry.
-- Assumes nothing.
use mathlib.Core.Path.{◌≡◌}
use mathlib.Core.Bool.{Bool}
use mathlib.Core.List.{[]}
use Prim.Native.Nat.{ℕ, suc, ◌<◌, ◌^◌}
use lib.ListN.{get_or}
use lib.Dec.{eqb, eqb→eq}
use Rattle.lister.specs.Counts.{counts}
use Rattle.unify.proofs.Each.{below, at}

right : ℕ → ℕ → Bool
right h n = eqb (get_or (get_or counts h []) n 0) (suc (suc h) ^ n)

pub counts_right : (h n : ℕ) → h < 4 → n < 9 → get_or (get_or counts h []) n 0 ≡ suc (suc h) ^ n
unfolding counts right
counts_right h n a b = eqb→eq _ _ (at 9 (right h) (at 4 (λ h. below 9 (right h)) tt h a) n b)
