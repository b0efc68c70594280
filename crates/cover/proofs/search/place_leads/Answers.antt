-- `cover::search::place_leads` meets its contract: a constant and a variable that goes somewhere bring nothing new.
use native.Mathlib.Omega.{arith}
use mathlib.Core.Path.{sym, ◌∙◌}
use Prim.Native.Nat.{◌<◌}
use Rattle.cover.specs.Rest.{atoms_of}
use Rattle.cover.proofs.Leads.{and_no, and_yes, constant_old, placed_old, free_new}
use Rattle.cover.proofs.search.place_leads.Goals as goal

pub returns-then-u-ge96 : goal.returns-then-u-ge96
returns-then-u-ge96 c = sym (and_no _ _ (constant_old c.args.map.now c.args.u (c.requires c.if-u-ge96.true)))

pub returns-then-map-u : goal.returns-then-map-u
returns-then-map-u c =
    let v : c.args.u < 96 = omega arith in
    sym (and_no _ _ (placed_old c.args.map.now c.args.u (omega arith) (omega arith) c.if-map-u.true))

pub stands_in-requires : goal.stands_in-requires
stands_in-requires c = omega arith

pub returns : goal.returns
unfolding atoms_of
returns c =
    let v : c.args.u < 96 = omega arith in
    c.stands_in.ensures
    ∙ sym (and_yes _ _ (free_new c.args.map.now c.args.u (omega arith) (omega arith) (omega (arith, c.if-map-u.false))))
