-- `cover::place::take_back` meets its contract. The loop's invariant: what taking back all of it gives, taking back the
-- places that are left gives.
use mathlib.Core.Path.{◌≡◌}
use Rattle.cover.specs.HeldMap.{taken_back}
use Rattle.cover.proofs.place.take_back.Given as goal

abbrev pub invariant-loop-j : goal.invariant-loop-j
invariant-loop-j l = taken_back l.initial.map l.terms l.before 6 ≡ taken_back l.map l.terms l.before l.j
