-- `forming::formed::all_differ` meets its contract. The loop's invariant: if of the atoms from here on none is dropped,
-- none of them all is.
use native.Mathlib.Omega.{arith}
use mathlib.Core.Path.{◌≡◌, sym, ◌∙◌, ap, subst}
use mathlib.Core.Bool.{true≢false}
use Prim.Native.Nat.{ℕ, ◌+◌, ◌*◌, ◌-◌, ◌<◌}
use lib.ListN.{get_or}
use Rattle.covering.specs.Form.{dedup}
use Rattle.covering.specs.Record.{stored}
use Rattle.covering.specs.Buffer.{AtomsIn}
use Rattle.covering.proofs.Within.{sound_in}
use Rattle.records.proofs.Onward.{nth_in, from_in}
use Rattle.forming.proofs.Passing.{question_left, differ_none, differ_next}
use Rattle.forming.proofs.formed.all_differ.Goals as goal

pub loop-k-init : goal.loop-k-init
loop-k-init c = λ e. let q = sym c.member.view_is ∙ question_left c.member.inside.bytes.now in ap dedup q ∙ e ∙ sym q

pub has_atom-requires : goal.has_atom-requires
has_atom-requires c =
    let m = c.member.inside.bytes.now in
    let all = sound_in stored m c.member.invariant in
    let lt : c.loop-k.k < get_or m 0 0 = omega (arith, c.from-n.ensures) in
    let others = from_in stored m 1 _ (c.loop-k.k + 1) (omega arith) all in
    let next : 1 + (c.loop-k.k + 1) * 7 ≡ 1 + c.loop-k.k * 7 + 7 = omega arith in
    let after = subst (λ (i : ℕ). AtomsIn stored m i (get_or m 0 0 - (c.loop-k.k + 1))) next others in
    (rw c.from-n.ensures after, nth_in stored m 1 _ _ lt all)

pub loop-k-preserved : goal.loop-k-preserved
loop-k-preserved c =
    let m = c.member.inside.bytes.now in
    let lt : c.loop-k.k < get_or m 0 0 = omega (arith, c.from-n.ensures) in
    let new = rw c.from-n.ensures at (sym c.has_atom.ensures ∙ c.if-has_atom.false) in
    λ e. c.loop-k.invariant (differ_next m 1 _ _ lt new e)

pub returns-then-has_atom : goal.returns-then-has_atom
returns-then-has_atom c = λ e. absurd (true≢false (sym e))

pub returns : goal.returns
returns c = λ e. c.loop-k.invariant (differ_none _ _ _ _ (omega (arith, c.from-n.ensures)))
