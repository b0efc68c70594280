-- The copy of a book that is not refused is sound and in the new form, which is what the lister requires.
use Rattle.std.proofs.Common.{arith, sym, length-take-le, refl}
use Rattle.reading.proofs.NewCopy.{copy_given}
use Rattle.rewriting_examples.proofs.tell.Goals as goal

pub slice_bounds-wide-end : goal.slice_bounds-wide-end
slice_bounds-wide-end g c = (copy_given c.args.book.now _ c.in-Ok.ensures (omega arith) refl).within

pub slice_bounds-tell_new-end : goal.slice_bounds-tell_new-end
slice_bounds-tell_new-end g c = sym (length-take-le _ _ (copy_given c.args.book.now _ c.in-Ok.ensures (omega arith) refl).within)

pub tell_new-requires : goal.tell_new-requires
tell_new-requires g c =
    let copied = (copy_given c.args.book.now _ c.in-Ok.ensures (omega arith) refl).copy in
    (copied.sound, copied.form)
