-- `records::record::used_first` meets its contract. The loop's invariant: the places are sound exactly where those from
-- the j-th on are.
use native.Mathlib.Omega.{arith}
use mathlib.Core.Path.{refl, sym, ◌∙◌}
use native.Mathlib.Nat.{add-zero, sub-zero}
use Rattle.covering.specs.Record.{desk}
use Rattle.covering.proofs.Bytes.{used_passes, used_stops, used_none}
use Rattle.records.proofs.record.used_first.Goals as goal

pub loop-j-init : goal.loop-j-init
loop-j-init c = rw (add-zero, sub-zero) refl

pub returns-then-not-is_term : goal.returns-then-not-is_term
returns-then-not-is_term c =
    let l = c.loop-j in
    let t = c.is_term in
    c.are_unused.ensures
    ∙ sym (l.invariant ∙ used_stops _ _ _ _ (omega arith) (desk _) (sym t.ensures ∙ c.if-not-is_term.true))

pub loop-j-preserved : goal.loop-j-preserved
loop-j-preserved c =
    let l = c.loop-j in
    let t = c.is_term in
    l.invariant ∙ used_passes _ _ _ _ (omega arith) (desk _) (sym t.ensures ∙ c.if-not-is_term.false)

pub returns : goal.returns
returns c = sym (c.loop-j.invariant ∙ used_none (desk _) _ _ _ (omega arith))
