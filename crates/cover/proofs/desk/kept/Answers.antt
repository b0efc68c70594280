-- `cover::desk::kept` meets its contract: the two answers say which record is kept, and by which map.
use mathlib.Core.Path.{sym, ap, ◌∙◌}
use Rattle.covering.specs.Desk.{chosen_number, kept_answer}
use Rattle.covering.proofs.Answers.{keeps_first, keeps_second, keeps_neither, map_first, map_second, map_neither}
use Rattle.cover.specs.Told.{which_told, kept_map_told}
use Rattle.cover.proofs.Told.{found_yes, found_no}
use Rattle.cover.proofs.desk.kept.Goals as goal

pub returns-in-Some-clause-which : goal.returns-in-Some-clause-which
unfolding kept_answer
returns-in-Some-clause-which c =
    let t = c.covers.ensures in
    let y = found_yes _ _ _ _ _ _ t.number t.map c.ok.ensures.value c.flatten-there.ensures c.in-Some.is in
    sym (ap chosen_number (keeps_first _ _ _ y.0))

pub returns-in-Some-clause-map : goal.returns-in-Some-clause-map
returns-in-Some-clause-map c =
    let t = c.covers.ensures in
    let y = found_yes _ _ _ _ _ _ t.number t.map c.ok.ensures.value c.flatten-there.ensures c.in-Some.is in
    y.1 ∙ sym (map_first _ _ _ (keeps_first _ _ _ y.0))

pub returns-in_err-map-clause-which : goal.returns-in_err-map-clause-which
unfolding kept_answer
returns-in_err-map-clause-which c =
    let t = c.covers.ensures in
    let b = c.covers-2.ensures in
    let n = found_no _ _ _ _ _ _ t.number t.map c.ok.ensures.value c.flatten-there.ensures c.in_default.is in
    let m = found_no _ _ _ _ _ _ b.number b.map c.ok-2.ensures.value c.flatten.ensures c.in_err-map.was in
    ap which_told c.from_residual.ensures ∙ sym (ap chosen_number (keeps_neither _ _ _ n m))

pub returns-in_err-map-clause-map : goal.returns-in_err-map-clause-map
returns-in_err-map-clause-map c =
    let t = c.covers.ensures in
    let b = c.covers-2.ensures in
    let n = found_no _ _ _ _ _ _ t.number t.map c.ok.ensures.value c.flatten-there.ensures c.in_default.is in
    let m = found_no _ _ _ _ _ _ b.number b.map c.ok-2.ensures.value c.flatten.ensures c.in_err-map.was in
    ap kept_map_told c.from_residual.ensures ∙ sym (map_neither _ _ _ (keeps_neither _ _ _ n m))

pub returns-clause-which : goal.returns-clause-which
unfolding kept_answer
returns-clause-which c =
    let t = c.covers.ensures in
    let b = c.covers-2.ensures in
    let n = found_no _ _ _ _ _ _ t.number t.map c.ok.ensures.value c.flatten-there.ensures c.in_default.is in
    let y = found_yes _ _ _ _ _ _ b.number b.map c.ok-2.ensures.value c.flatten.ensures c.in_ok-map.was in
    sym (ap chosen_number (keeps_second _ _ _ n y.0))

pub returns-clause-map : goal.returns-clause-map
returns-clause-map c =
    let t = c.covers.ensures in
    let b = c.covers-2.ensures in
    let n = found_no _ _ _ _ _ _ t.number t.map c.ok.ensures.value c.flatten-there.ensures c.in_default.is in
    let y = found_yes _ _ _ _ _ _ b.number b.map c.ok-2.ensures.value c.flatten.ensures c.in_ok-map.was in
    y.1 ∙ sym (map_second _ _ _ (keeps_second _ _ _ n y.0))
