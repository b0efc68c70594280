-- The form that an offset tells, by whether it is 20. Assumes nothing.
use Rattle.std.proofs.Common.{sym}
use borrow.Author.Tests.{eq-eqb, ne_eqb}
use Rattle.reading.specs.Header.{new}
use Rattle.reading.proofs.Forms.{says_new_lem, says_old}
use Rattle.judging.proofs.form.Form.told_by.Goals as goal

pub returns-then-table-eq-NEW_HEADER : goal.returns-then-table-eq-NEW_HEADER
returns-then-table-eq-NEW_HEADER c =
    let t = c.args.table in sym (says_new_lem t (eq-eqb t new.header c.if-table-eq-NEW_HEADER.true))

pub returns : goal.returns
returns c = let t = c.args.table in sym (says_old t (ne_eqb t new.header c.if-table-eq-NEW_HEADER.false))
