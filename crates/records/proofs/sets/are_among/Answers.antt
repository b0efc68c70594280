-- `records::sets::are_among` meets its contract: each atom's relation is in the set.
use Rattle.std.proofs.Common.{rules, tests}
use native.Mathlib.Omega.{arith}
use mathlib.Core.Path.{◌∙◌}
use Prim.Native.Nat.{◌+◌, ◌*◌, ◌/◌, ◌%◌, ◌^◌}
use lib.Dec.{eqb}
use lib.ListN.{get_or}
use Rattle.std.proofs.lemmas.Iterator.{YieldsList-from_range}
use Rattle.std.proofs.lemmas.Iterator.Search.{all_from_yields_List}
use Rattle.covering.specs.Record.{question_of}
use Rattle.records.proofs.Among.{each_in}
use Rattle.records.proofs.sets.are_among.Goals as goal

pub returns : goal.returns
unfolding question_of
returns c =
    let B = c.args.s.now in
    let set = c.args.set in
    all_from_yields_List (λ k. eqb (set / 2 ^ (get_or B (1 + k * 7) 0 % 64) % 2) 1) _ _ _ c.all.ensures.ran
    (YieldsList-from_range 0 (get_or B 0 0) (get_or B 0 0) (search rules) (omega arith)) (λ x b q k. search (rules, tests))
    ∙ each_in B 1 (get_or B 0 0) set
