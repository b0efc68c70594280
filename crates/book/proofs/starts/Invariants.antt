-- Each turn goes from a rule's start to the next one's, which is where the rule ends. Assumes nothing.
use Rattle.std.proofs.Common.{◌≡◌, ◌≤◌, ◌<◌, ℕ, length, get_or}
use Rattle.reading.specs.Book.{rule_start}
use Rattle.book.proofs.starts.Given as goal

abbrev pub invariant-loop-k : goal.invariant-loop-k
invariant-loop-k l = (length l.at ≡ 33)
    × (l.s ≡ rule_start l.book l.k)
    × ((j : ℕ) → j ≤ l.k → get_or l.at j 0 ≡ rule_start l.book j)
    × ((j : ℕ) → l.k < j → get_or l.at j 0 ≡ 0)
