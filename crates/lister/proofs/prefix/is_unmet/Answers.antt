-- `lister::prefix::is_unmet` meets its contract: not any head atom has the relation.
use Rattle.std.proofs.Common.{rules, tests}
use native.Mathlib.Omega.{arith}
use mathlib.Core.Path.{ap, ◌∙◌}
use mathlib.Core.Bool.{not}
use Prim.Native.Nat.{◌+◌, ◌*◌}
use lib.Dec.{eqb}
use lib.ListN.{get_or}
use Rattle.std.proofs.lemmas.Iterator.{YieldsList-from_range}
use Rattle.std.proofs.lemmas.Iterator.Search.{any_from_yields_List}
use Rattle.unify.specs.InBytes.{rule_in}
use Rattle.lister.proofs.Unmet.{met_is}
use Rattle.lister.proofs.prefix.is_unmet.Goals as goal

pub returns : goal.returns
unfolding rule_in
returns c =
    let B = c.args.rule.now.book.now in
    let p = c.args.rule.now.parts in
    let n = c.args.relation in
    ap not
    (any_from_yields_List (λ k. eqb n (get_or B (p.head + k * 7) 0)) _ _ _ c.any.ensures.ran
    (YieldsList-from_range 0 p.heads p.heads (search rules) (omega arith)) (λ x b q k. search (rules, tests))
    ∙ met_is B p.head p.heads n)
