-- The six tests together. Assumes nothing.
use mathlib.Core.Path.{ap, ap₂}
use mathlib.Core.Bool.{◌&&◌}
use Prim.Native.Nat.{ℕ}
use lib.Dec.{eqb}
use Rattle.reading.specs.Verdict.{in_table}
use Rattle.judging.proofs.JudgedHeader.{is_places}
use Rattle.judging.proofs.header.in_table.Goals as goal

pub returns : goal.returns
unfolding in_table
returns c =
    let places = c.args.h.places in
    ap₂ ◌&&◌ c.within-p.ensures
    (ap₂ ◌&&◌ c.within-c.ensures
    (ap₂ ◌&&◌ c.within-r.ensures
    (ap₂ ◌&&◌ c.within-n.ensures
    (ap₂ ◌&&◌ c.within-l.ensures (ap (λ (n : ℕ). eqb places n) (is_places _ _ c.told_by.ensures c.places.ensures))))))
