-- The atoms of the rules passed have no wrong byte, so the first one is the first in those left. Assumes nothing.
use Rattle.std.proofs.Common.{◌≡◌, ◌-◌}
use Rattle.std.proofs.Math.Option.{none}
use Rattle.reading.specs.Verdict.{wrong_rule, wrong_in_rules}
use Rattle.judging.proofs.headed.Headed.wrong_in_rules.Given as goal

abbrev pub invariant-loop-rule : goal.invariant-loop-rule
invariant-loop-rule l = (wrong_rule l.self.book.now l.end l.s (l.n - l._rule) ≡ none)
    × (wrong_in_rules l.self.book.now l.start l.n ≡ wrong_in_rules l.self.book.now l.s (l.n - l._rule))
