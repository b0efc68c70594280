-- `cover::place::goes_to` meets its contract. The loop's invariant: after n places the variable goes nowhere yet.
use native.Mathlib.Omega.{arith}
use mathlib.Core.Path.{◌≡◌, sym, ap, ◌∙◌}
use borrow.Author.Rules.{rules}
use lib.ListN.{length, get_or}
use Rattle.cover.specs.HeldMap.{sent_to}
use Rattle.cover.proofs.Sent.{sent_none, sent_kept, sent_first, sent_passes}
use Rattle.cover.proofs.place.goes_to.Goals as goal

pub returns-then-had : goal.returns-then-had
returns-then-had c = sym (sent_kept _ _ _ _ _ c.if-had.true)

pub loop-n-init : goal.loop-n-init
loop-n-init c =
    let a = c.args in
    let e : get_or a.map.now a.t 0 ≡ 255 = omega (arith, c.if-had.false) in
    ap (λ m. get_or m a.t 0) (sent_none a.map.now a.terms.now a.others.now) ∙ e

pub returns-then-terms-n : goal.returns-then-terms-n
returns-then-terms-n c =
    let a = c.args in
    let long : length a.map.now ≡ 96 = search rules in
    sym
    (sent_first _ _ _ a.t c.loop-n.n a.j (omega arith) (omega arith) long c.if-terms-n.true c.loop-n.invariant
    (c.requires.3 _ (omega arith)))

pub loop-n-preserved : goal.loop-n-preserved
loop-n-preserved c = sent_passes _ _ _ _ _ c.if-terms-n.false c.loop-n.invariant

pub returns : goal.returns
returns c =
    let a = c.args in
    let e : a.j ≡ c.loop-n.n = omega arith in
    let sent = sent_to a.map.now a.terms.now a.others.now in
    sym (ap (λ n. get_or (sent n) a.t 0) e ∙ c.loop-n.invariant)
