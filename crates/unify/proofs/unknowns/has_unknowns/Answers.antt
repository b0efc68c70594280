-- `unify::unknowns::has_unknowns` meets its contract: a term of some head atom is unknown to the body.
use Rattle.std.proofs.Common.{rules, tests}
use native.Mathlib.Omega.{arith}
use mathlib.Core.Path.{◌∙◌}
use Prim.Native.Nat.{◌+◌, ◌*◌}
use Rattle.std.proofs.lemmas.Iterator.{YieldsList-from_range}
use Rattle.std.proofs.lemmas.Iterator.Search.{any_from_yields_List}
use Rattle.covering.specs.Lists.{any}
use Rattle.covering.specs.Record.{stored, args_at, atoms_at}
use Rattle.unify.specs.InBytes.{rule_in}
use Rattle.unify.specs.Unknowns.{has_unknowns}
use Rattle.unify.proofs.EachTerm.{some_term}
use Rattle.unify.proofs.ValidTests.{unknown_to}
use Rattle.unify.proofs.unknowns.has_unknowns.Goals as goal

pub returns : goal.returns
unfolding rule_in has_unknowns
returns c =
    let B = c.args.rule.now.book.now in
    let p = c.args.rule.now.parts in
    let unknown = unknown_to (atoms_at stored B p.body p.bodies) in
    any_from_yields_List (λ k. any unknown (args_at B (p.head + k * 7 + 1) 6)) _ _ _ c.any.ensures.ran
    (YieldsList-from_range 0 p.heads p.heads (search rules) (omega arith)) (λ x b q k. search (rules, tests))
    ∙ some_term unknown B p.head p.heads
