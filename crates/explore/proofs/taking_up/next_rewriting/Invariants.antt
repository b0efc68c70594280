-- `explore::taking_up::next_rewriting` meets its contract. The loop's invariant: what is sought is the first rewriting
-- from the rule at hand on.
use mathlib.Core.Path.{◌≡◌}
use Prim.Native.Nat.{◌-◌}
use lib.ListN.{drop}
use Rattle.covering.specs.Record.{stored, question_of}
use Rattle.reading.specs.Header.{rules as rules_of}
use Rattle.reading.specs.Book.{rules_from, rule_start, book_of}
use Rattle.explore.specs.Taking.{next_among}
use Rattle.explore.proofs.taking_up.next_rewriting.Given as goal

abbrev pub invariant-loop-rule : goal.invariant-loop-rule
invariant-loop-rule l =
    (next_among (question_of stored l.member) l.k l.from (drop l.k (book_of l.rules).rules)
    ≡ next_among (question_of stored l.member) l.rule l.first
    (rules_from l.rules-inside.book.now (rule_start l.rules-inside.book.now l.rule) (rules_of l.rules-inside.book.now - l.rule)))
    × (l.out ≡ l.initial.out)
