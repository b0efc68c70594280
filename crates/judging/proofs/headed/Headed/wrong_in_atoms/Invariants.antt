-- The atoms passed have no wrong byte, so the first one is the first in those left. Assumes nothing.
use Rattle.std.proofs.Common.{◌≡◌, ◌+◌, ◌*◌, ◌-◌}
use Rattle.reading.specs.Verdict.{wrong_in_atoms}
use Rattle.judging.proofs.headed.Headed.wrong_in_atoms.Given as goal

abbrev pub invariant-loop-k : goal.invariant-loop-k
invariant-loop-k l = wrong_in_atoms l.self.book.now l.i l.n
    ≡ wrong_in_atoms l.self.book.now (l.i + l.size * l.k) (l.n - l.k)
