-- `printing::answer_any` meets its contract: the book has no copy in the new form and its refusal is printed, or its copy
-- is run and the answer printed.
use Rattle.std.proofs.Common.{ℕ, sym, ap₂, refl, arith}
use lib.Seq.{length-take-le}
use Rattle.reading.proofs.ToldOnce.{some_number}
use Rattle.reading.proofs.NewCopy.{copy_given, copy_refused}
use Rattle.exploration.specs.Answer.{refusal}
use Rattle.printing.specs.Printed.{printed}
use Rattle.printing.proofs.Adding.{adds_as}
use Rattle.printing.proofs.Longest.{number_small, refusal_most}
use Rattle.printing.proofs.Answered.{answered_refusal, answered_copy}
use Rattle.printing.proofs.answer_any.Goals as goal

pub slice_bounds-wide-end : goal.slice_bounds-wide-end
slice_bounds-wide-end c = (copy_given c.args.book.now _ c.in-Ok.ensures (omega arith) refl).within

pub slice_bounds-answer_new-end : goal.slice_bounds-answer_new-end
slice_bounds-answer_new-end c =
    sym (length-take-le _ _ (copy_given c.args.book.now _ c.in-Ok.ensures (omega arith) refl).within)

pub answer_new-requires : goal.answer_new-requires
answer_new-requires c = ((copy_given c.args.book.now _ c.in-Ok.ensures (omega arith) refl).copy.form, omega arith)

pub returns-in-Ok : goal.returns-in-Ok
returns-in-Ok c =
    let g = copy_given c.args.book.now _ c.in-Ok.ensures (omega arith) refl in
    answered_copy c.args.book.now _ g.sound g.copy.sound g.copy.means c.answer_new.ensures

pub print_refusal-requires : goal.print_refusal-requires
print_refusal-requires c =
    let r = c.in-Err.refused in
    omega (arith, refusal_most _ r.place (number_small r.reason) (omega arith))

pub returns-in-Err : goal.returns-in-Err
returns-in-Err c =
    let own = copy_refused c.args.book.now _ c.in-Err.ensures (omega arith) (λ z. omega (arith, some_number c.in-Err.refused.reason)) in
    answered_refusal c.args.book.now own.unsound
    (adds_as (ap₂ (λ (n q : ℕ). printed (refusal n q)) (sym own.number_is) (sym own.place_is)) c.print_refusal.ensures)
