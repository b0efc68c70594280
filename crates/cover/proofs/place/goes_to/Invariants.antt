-- `cover::place::goes_to` meets its contract. The loop's invariant: after n places the variable goes nowhere yet.
use mathlib.Core.Path.{◌≡◌}
use lib.ListN.{get_or}
use Rattle.cover.specs.HeldMap.{sent_to}
use Rattle.cover.proofs.place.goes_to.Given as goal

abbrev pub invariant-loop-n : goal.invariant-loop-n
invariant-loop-n l = get_or (sent_to l.map l.terms l.others l.n) l.t 0 ≡ 255
