-- The builder's two functions meet their contracts. `build` goes through the digits of the next atom, `try_digit`
-- goes on with the rest under one digit. The measure is two for each atom left, and one less while a digit is tried.
use mathlib.Core.Path.{◌≡◌}
use Prim.Native.Nat.{◌+◌, ◌*◌, ◌-◌}
use Rattle.lister.proofs.Answers.{Reached}
use Rattle.lister.specs.Leaving.{any_sent, left_by}
use Rattle.lister.proofs.builder.+build_try_digit.Given as goal

abbrev pub decreases-build : goal.decreases-build
decreases-build l = l.more * 2

abbrev pub decreases-try_digit : goal.decreases-try_digit
decreases-try_digit l = l.more * 2 - 1

abbrev pub invariant-build-loop-d : goal.invariant-build-loop-d
invariant-build-loop-d l =
    let Q = l.asked.question.now in
    let r = l.asked.rule in
    Reached Q r.book.now r.parts l.asked.from (1 + l.passed * 7) l.more l.number (any_sent l.sent) (left_by Q l.passed l.sent) l.table l.d
    × (l.out ≡ l.initial.out)
