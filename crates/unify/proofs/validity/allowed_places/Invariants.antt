-- `unify::validity::allowed_places` meets its contract. The loop's invariant: the terms in the places are allowed
-- exactly where those from the j-th place on are, and these places are sound.
use mathlib.Core.Path.{◌≡◌}
use mathlib.Core.List.{map}
use Prim.Native.Nat.{◌+◌, ◌-◌}
use lib.Dec.{T}
use Rattle.covering.specs.Lists.{all}
use Rattle.covering.specs.Term.{on_term}
use Rattle.covering.specs.Record.{args_at, used_first}
use Rattle.unification.specs.Step.{up}
use Rattle.unify.specs.InBytes.{in_book, rule_of}
use Rattle.unify.proofs.ValidTests.{allowed_byte}
use Rattle.unify.proofs.validity.allowed_places.Given as goal

abbrev pub invariant-loop-j : goal.invariant-loop-j
invariant-loop-j l = T (used_first in_book l.rule.book.now (l.i + l.j) (6 - l.j))
    × (all (allowed_byte l.left (rule_of l.rule.book.now l.rule.parts) l.table) (map (on_term (up 48)) (args_at l.rule.book.now l.i 6))
    ≡ all (allowed_byte l.left (rule_of l.rule.book.now l.rule.parts) l.table) (map (on_term (up 48)) (args_at l.rule.book.now (l.i + l.j) (6 - l.j))))
