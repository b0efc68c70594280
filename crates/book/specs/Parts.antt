-- What the layers above read of a sound book: where its rules stand.
use Rattle.std.specs.Prelude.{◌≡◌, List, ℕ, ◌≤◌, ◌<◌, length, get_or}
use Rattle.book.specs.declared.Parts.{Parts}
use Rattle.reading.specs.Header.{rules}
use Rattle.reading.specs.Book.{body_count, head_count, body_at, head_at, rule_start}

-- where each rule starts, and after the last one where the rules end; 0 in the room that is left
pub record StartsAt (B at : List ℕ) : Type 0 where
  pub size : length at ≡ 33
  pub starts : (k : ℕ) → k ≤ rules B → get_or at k 0 ≡ rule_start B k
  pub rest : (k : ℕ) → rules B < k → get_or at k 0 ≡ 0

-- where the body and the head of the rule at s start, and how many atoms each has
abbrev pub parts_at : List ℕ → ℕ → Parts
parts_at B s = record { body = body_at B s; bodies = body_count B s; head = head_at B s; heads = head_count B s }
