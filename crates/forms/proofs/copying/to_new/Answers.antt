-- `forms::copying::to_new` meets its contract: too little room, then the book's own, then the copy.
use Rattle.covering.proofs.Putting.{kept}
use Rattle.reading.specs.Copy.{to_new}
use Rattle.forms.proofs.Outcome.{copies_refused, first_refused, is_room, is_sound, new_ready, new_copied}
use Rattle.forms.proofs.copying.to_new.Goals as goal

pub returns-in_err-ready : goal.returns-in_err-ready
unfolding to_new
returns-in_err-ready c =
    copies_refused _ _ _ c.from_residual.ensures.1 (first_refused c.args.book.now _ _ _ c.in_err-ready.ensures)

pub put_book-requires : goal.put_book-requires
put_book-requires c =
    let B = c.args.book.now in
    let h = c.in_ok-ready.ensures in
    (new_ready B (is_sound B _ h), is_room B _ h)

pub shape_of-out : goal.shape_of-out
shape_of-out c = kept c.put_book.ensures

pub returns : goal.returns
returns c =
    let B = c.args.book.now in
    let h = c.in_ok-ready.ensures in
    new_copied B (is_sound B _ h) (is_room B _ h) c.put_book.ensures
