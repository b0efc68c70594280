-- `records::record::are_unused` meets its contract: each place is 255.
use Rattle.std.proofs.Common.{rules, tests}
use native.Mathlib.Omega.{arith}
use mathlib.Core.Path.{◌∙◌}
use Prim.Native.Nat.{◌-◌}
use lib.Dec.{eqb}
use Rattle.std.proofs.lemmas.Iterator.{YieldsList-from_slice}
use Rattle.std.proofs.lemmas.Iterator.Search.{all_from_yields_List}
use Rattle.records.proofs.Each.{unused_is}
use Rattle.records.proofs.record.are_unused.Goals as goal

pub returns : goal.returns
returns c =
    all_from_yields_List (λ b. eqb b 255) _ _ _ c.all.ensures.ran (YieldsList-from_slice _ c.iter.ensures.rest)
    (λ x b q k. search (rules, tests))
    ∙ unused_is c.args.s.now _ _ (c.args.w - c.args.from) (omega arith) (omega arith)
