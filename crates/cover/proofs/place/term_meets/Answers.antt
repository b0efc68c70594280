-- `cover::place::term_meets` meets its contract: each way through the code is one law of the map as it is held.
use native.Mathlib.Omega.{arith}
use mathlib.Core.Path.{◌≡◌, sym, ap, ◌∙◌}
use Prim.Native.Nat.{◌<◌}
use lib.Dec.{eqb}
use borrow.Author.Rules.{rules}
use lib.ListN.{length, get_or}
use Rattle.covering.specs.Lists.{is_some}
use Rattle.cover.specs.HeldMap.{sent_to}
use Rattle.cover.proofs.Maps.{place_new, place_old, place_constant}
use Rattle.cover.proofs.Sent.{length_sent}
use Rattle.cover.proofs.Meeting.{some_if}
use Rattle.cover.proofs.place.term_meets.Goals as goal

pub returns-then-t-ge96 : goal.returns-then-t-ge96
returns-then-t-ge96 c = sym (ap is_some (place_constant _ _ _ (c.requires.4 c.if-t-ge96.true)) ∙ some_if _ _)

pub goes_to-goes-requires : goal.goes_to-goes-requires
goes_to-goes-requires c = (omega arith, omega arith, omega arith, c.requires.2)

pub returns-then-goes : goal.returns-then-goes
returns-then-goes c =
    let a = c.args in
    let W = sent_to a.map.now a.terms.now a.others.now a.j in
    let v : get_or a.terms.now a.j 0 < 96 = omega arith in
    let long : length a.map.now ≡ 96 = search rules in
    let size : length W ≡ 96 = length_sent _ _ _ _ ∙ long in
    sym (ap is_some (place_new W _ _ (omega arith) (omega arith) c.requires.3 (sym c.goes_to-goes.ensures ∙ c.if-goes.true)))

pub returns : goal.returns
returns c =
    let g = c.goes_to-goes.ensures in
    let a = c.args in
    let W = sent_to a.map.now a.terms.now a.others.now a.j in
    let v : get_or a.terms.now a.j 0 < 96 = omega arith in
    let long : length a.map.now ≡ 96 = search rules in
    let size : length W ≡ 96 = length_sent _ _ _ _ ∙ long in
    sym
    (ap is_some (place_old W _ _ (omega arith) (omega arith) (λ e. c.if-goes.false (g ∙ e)))
    ∙ some_if _ _
    ∙ ap (λ b. eqb b (get_or a.others.now a.j 0)) (sym g))
