-- `cover::place::send` meets its contract. The loop's invariant: j places are sent, and what the map had for each is
-- kept.
use native.Mathlib.Omega.{arith}
use mathlib.Core.Path.{◌≡◌, refl, sym, ◌∙◌}
use Prim.Native.Nat.{◌-◌}
use Rattle.cover.proofs.Parts.{used_on}
use Rattle.cover.proofs.Sent.{sent_none, sent_more, had_none, had_more}
use Rattle.cover.proofs.Meeting.{stops, sent_end, had_end}
use Rattle.cover.proofs.place.send.Goals as goal

pub loop-j-init : goal.loop-j-init
loop-j-init c = (sym (sent_none _ _ _), had_none _ _ _ _ refl, c.requires.2)

pub returns-then-t : goal.returns-then-t
returns-then-t c =
    let a = c.args in
    let j = c.loop-j.j in
    let free = stops a.map.now a.terms.now a.others.now 6 j (omega arith) c.loop-j.invariant.2 c.if-t.true in (
      c.loop-j.invariant.0 ∙ sym (sent_end _ _ _ 6 (6 - j) j (omega arith) free),
      had_end _ _ _ 6 _ (6 - j) j (omega arith) free c.loop-j.invariant.1,
    )

pub loop-j-preserved : goal.loop-j-preserved
loop-j-preserved c =
    let s = c.send_term in
    let a = c.args in (
      s.ensures.0 ∙ rw c.loop-j.invariant.0 (sym (sent_more _ _ _ _)),
      had_more _ _ _ _ _ _ (omega arith) c.loop-j.invariant.1 (s.ensures.1 ∙ rw c.loop-j.invariant.0 refl),
      (used_on a.terms.now c.loop-j.j 6 (omega arith) c.loop-j.invariant.2 c.if-t.false).1,
    )

pub returns : goal.returns
returns c =
    let e : c.loop-j.j ≡ 6 = omega arith in
    (rw (← e) c.loop-j.invariant.0, rw (← e) c.loop-j.invariant.1)
