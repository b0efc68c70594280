-- `explore::related::head_sets` meets its contract. The loop's invariant: what is known of the heads so far is stored.
use Prim.Native.Nat.{ℕ, ◌<◌}
use mathlib.Core.Path.{◌≡◌}
use lib.ListN.{length, get_or}
use Rattle.reading.specs.Book.{rule_at, rule_start}
use Rattle.explore.specs.declared.Head.{Head}
use Rattle.explore.specs.Related.{head_told}
use Rattle.explore.proofs.related.head_sets.Given as goal

abbrev pub invariant-loop-k : goal.invariant-loop-k
invariant-loop-k l =
    (length l.heads ≡ 32)
    × ((j : ℕ) (d : Head) → j < l.k → get_or l.heads j d ≡ head_told (rule_at l.book (rule_start l.book j)))
