-- The copy of a book that is not refused is sound and in the new form, which is what the readers require.
use Rattle.std.proofs.Common.{arith, refl, sym, length-take-le}
use Rattle.reading.proofs.NewCopy.{copy_given}
use Rattle.book_examples.proofs.show.Goals as goal

pub slice_bounds-wide-end : goal.slice_bounds-wide-end
slice_bounds-wide-end g c = (copy_given c.args.book.now _ c.in-Ok.ensures (omega arith) refl).within

pub slice_bounds-show_new-end : goal.slice_bounds-show_new-end
slice_bounds-show_new-end g c = sym (length-take-le _ _ (copy_given c.args.book.now _ c.in-Ok.ensures (omega arith) refl).within)

pub show_new-requires : goal.show_new-requires
show_new-requires g c =
    let copied = (copy_given c.args.book.now _ c.in-Ok.ensures (omega arith) refl).copy in
    (copied.sound, copied.form)
