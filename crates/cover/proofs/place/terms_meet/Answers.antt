-- `cover::place::terms_meet` meets its contract. The loop's invariant: sending all the places is sending those from the
-- j-th on under the map that the places before make, and these are sound.
use native.Mathlib.Omega.{arith}
use borrow.Author.Rules.{rules}
use lib.ListN.{length}
use mathlib.Core.Path.{◌≡◌, refl, sym, ap, ◌∙◌}
use Rattle.covering.specs.Lists.{is_some}
use Rattle.covering.specs.Record.{stored}
use Rattle.covering.proofs.Bytes.{term_constant}
use Rattle.cover.proofs.Parts.{used_on}
use Rattle.cover.proofs.Maps.{places_end, places_short, places_clash, places_done}
use Rattle.cover.proofs.Sent.{sent_none}
use Rattle.cover.proofs.Meeting.{some_if, one_used, sent_next, not_some}
use Rattle.cover.proofs.place.terms_meet.Goals as goal

pub loop-j-init : goal.loop-j-init
loop-j-init c =
    (c.requires.2, (λ n lt. absurd (omega arith)), rw sent_none refl)

pub returns-then-terms-j : goal.returns-then-terms-j
returns-then-terms-j c =
    let a = c.args in
    sym
    (ap is_some
    (c.loop-j.invariant.2
    ∙ places_end a.terms.now a.others.now c.loop-j.j 6 (omega arith) _ c.if-terms-j.true)
    ∙ some_if _ _)

pub returns-then-others-j : goal.returns-then-others-j
returns-then-others-j c =
    let a = c.args in
    sym
    (ap is_some
    (c.loop-j.invariant.2
    ∙ places_short a.terms.now a.others.now c.loop-j.j 6 (omega arith) _ c.if-terms-j.false
    c.if-others-j.true))

pub term_meets-requires : goal.term_meets-requires
term_meets-requires c =
    let a = c.args in
    let used = c.if-terms-j.false in
    let u = used_on a.terms.now c.loop-j.j 6 (omega arith) c.loop-j.invariant.0 used in
    (omega arith, omega arith, c.loop-j.invariant.1, c.if-others-j.false, term_constant stored _ u.0)

pub returns-then-not-term_meets : goal.returns-then-not-term_meets
returns-then-not-term_meets c =
    let a = c.args in
    let m = c.term_meets.ensures in
    sym
    (ap is_some
    (c.loop-j.invariant.2
    ∙ places_clash a.terms.now a.others.now c.loop-j.j 6 (omega arith) _
    c.if-terms-j.false c.if-others-j.false
    (not_some _ (sym m ∙ c.if-not-term_meets.true))))

pub loop-j-preserved : goal.loop-j-preserved
loop-j-preserved c =
    let a = c.args in
    let m = c.term_meets.ensures in
    let used = c.if-terms-j.false in
    let u = used_on a.terms.now c.loop-j.j 6 (omega arith) c.loop-j.invariant.0 used in
    let long : length a.map.now ≡ 96 = search rules in (
      u.1,
      one_used a.others.now c.loop-j.j c.loop-j.invariant.1 c.if-others-j.false,
      c.loop-j.invariant.2
          ∙ sent_next _ _ _ 6 long _ (omega arith) c.loop-j.invariant.0 used c.if-others-j.false
          (sym m ∙ c.if-not-term_meets.false),
    )

pub returns : goal.returns
returns c = sym (ap is_some (c.loop-j.invariant.2 ∙ places_done _ _ _ _ _ _ (omega arith)))
