-- `cover::desk::covers` meets its contract: the first record is judged, then the second, then the search decides, and
-- leaves the first map or none.
use mathlib.Core.Path.{sym, ap, ◌∙◌}
use mathlib.Core.Bool.{cond}
use lib.ListN.{take}
use Rattle.covering.specs.Desk.{map_size}
use Rattle.covering.proofs.Answers.{answer_2, answer_3, map_2, map_3}
use Rattle.cover.proofs.Told.{number_searched, map_searched}
use Rattle.cover.proofs.desk.covers.Goals as goal

pub returns-then-not-is_record-clause-number : goal.returns-then-not-is_record-clause-number
returns-then-not-is_record-clause-number c = sym (answer_2 _ _ _ (sym c.is_record.ensures ∙ c.if-not-is_record.true))

pub returns-then-not-is_record-clause-map : goal.returns-then-not-is_record-clause-map
returns-then-not-is_record-clause-map c = sym (map_2 _ _ _ (sym c.is_record.ensures ∙ c.if-not-is_record.true))

pub returns-then-not-is_record-2-clause-number : goal.returns-then-not-is_record-2-clause-number
returns-then-not-is_record-2-clause-number c =
    sym (answer_3 _ _ _ (sym c.is_record.ensures ∙ c.if-not-is_record.false) (sym c.is_record-2.ensures ∙ c.if-not-is_record-2.true))

pub returns-then-not-is_record-2-clause-map : goal.returns-then-not-is_record-2-clause-map
returns-then-not-is_record-2-clause-map c =
    sym (map_3 _ _ _ (sym c.is_record.ensures ∙ c.if-not-is_record.false) (sym c.is_record-2.ensures ∙ c.if-not-is_record-2.true))

pub returns-then-not-covers_record-clause-number : goal.returns-then-not-covers_record-clause-number
returns-then-not-covers_record-clause-number c =
    let a = sym c.is_record.ensures ∙ c.if-not-is_record.false in
    let b = sym c.is_record-2.ensures ∙ c.if-not-is_record-2.false in
    ap (λ r. cond r 1 0) (sym c.if-not-covers_record.true) ∙ number_searched _ _ _ a b c.covers_record.ensures

pub returns-then-not-covers_record-clause-map : goal.returns-then-not-covers_record-clause-map
returns-then-not-covers_record-clause-map c =
    let a = sym c.is_record.ensures ∙ c.if-not-is_record.false in
    let b = sym c.is_record-2.ensures ∙ c.if-not-is_record-2.false in
    ap (take map_size) (sym (c.covers_record.ensures.back c.if-not-covers_record.true))
    ∙ map_searched _ _ _ a b c.covers_record.ensures

pub returns-clause-number : goal.returns-clause-number
returns-clause-number c =
    let a = sym c.is_record.ensures ∙ c.if-not-is_record.false in
    let b = sym c.is_record-2.ensures ∙ c.if-not-is_record-2.false in
    ap (λ r. cond r 1 0) (sym c.if-not-covers_record.false) ∙ number_searched _ _ _ a b c.covers_record.ensures

pub returns-clause-map : goal.returns-clause-map
returns-clause-map c =
    let a = sym c.is_record.ensures ∙ c.if-not-is_record.false in
    let b = sym c.is_record-2.ensures ∙ c.if-not-is_record-2.false in
    c.front.ensures ∙ map_searched _ _ _ a b c.covers_record.ensures
