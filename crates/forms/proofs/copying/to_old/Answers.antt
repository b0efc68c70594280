-- `forms::copying::to_old` meets its contract: too little room, then the book's own, then what has no old form, then
-- the copy.
use Rattle.std.proofs.Common.{arith}
use Rattle.covering.proofs.Putting.{kept}
use Rattle.reading.specs.Copy.{to_old}
use Rattle.judging.proofs.JudgingSteps.{found_none}
use Rattle.forms.proofs.Outcome.{copies_refused, first_refused, is_room, is_sound, old_ready, old_copied, old_refused}
use Rattle.forms.proofs.copying.to_old.Goals as goal

pub returns-in_err-ready : goal.returns-in_err-ready
unfolding to_old
returns-in_err-ready c =
    copies_refused _ _ _ c.from_residual.ensures.1 (first_refused c.args.book.now _ _ _ c.in_err-ready.ensures)

pub no_old_form-requires : goal.no_old_form-requires
no_old_form-requires c = is_sound c.args.book.now _ c.in_ok-ready.ensures

pub returns-in_err-no_old_form : goal.returns-in_err-no_old_form
returns-in_err-no_old_form c =
    let B = c.args.book.now in
    let h = c.in_ok-ready.ensures in
    copies_refused _ _ _ c.from_residual-in_err-no_old_form.ensures.1
    (old_refused B (is_sound B _ h) _ (is_room B _ h) _ c.in_err-no_old_form.ensures)

pub put_book-requires : goal.put_book-requires
put_book-requires c =
    let B = c.args.book.now in
    let h = c.in_ok-ready.ensures in
    (old_ready B (is_sound B _ h) (found_none 13 _ (omega arith) c.in_ok-no_old_form.ensures), is_room B _ h)

pub shape_of-out : goal.shape_of-out
shape_of-out c = kept c.put_book.ensures

pub returns : goal.returns
returns c =
    let B = c.args.book.now in
    let h = c.in_ok-ready.ensures in
    old_copied B (is_sound B _ h) (is_room B _ h) (found_none 13 _ (omega arith) c.in_ok-no_old_form.ensures)
    c.put_book.ensures
