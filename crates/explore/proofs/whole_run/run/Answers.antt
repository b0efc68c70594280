-- `explore::whole_run::run` meets its contract: refusal 1 first, then the book's own, which the copy to the new form tells,
-- then the run.
use Rattle.std.proofs.Common.{◌≡◌, ◌≤◌, ℕ, List, length, Result, refl, sym, arith}
use Rattle.std.specs.Result.{IsErrAnd}
use Rattle.std.proofs.lemmas.Result.{err_from_is_err_and}
use lib.Seq.{length-take-le}
use Rattle.reading.specs.declared.Refused.{Refused}
use Rattle.reading.specs.Told.{number_of, number_told, place_told}
use Rattle.reading.specs.Copy.{copy_room, CopiesNew}
use Rattle.reading.proofs.ToldOnce.{some_number}
use Rattle.reading.proofs.NewCopy.{copy_given, copy_refused}
use Rattle.exploration.specs.Answer.{Answers}
use Rattle.exploration.specs.Union.{output_size}
use Rattle.exploration.proofs.Returns.{returns_small, returns_unsound}
use Rattle.explore.proofs.whole_run.run.Goals as goal

-- what a refused copy says, and what the `?` hands on
refused : (B O : List ℕ) → output_size ≤ length O → {wide after : List ℕ} → copy_room ≤ length wide → (e : Refused)
    → CopiesNew B wide (number_of e.reason) e.place after → (r : Result ℕ Refused) → IsErrAnd r (λ x. x ≡ e)
    → Answers B O (number_told r) (place_told r) O
refused B O roomy {wide} room e copy r h =
    let p = err_from_is_err_and r h in
    let own = copy_refused B wide copy room (λ z. omega (arith, some_number e.reason)) in
    rw (p.1, p.2, own.number_is, own.place_is) (returns_unsound B O roomy own.unsound)

pub returns-then-out-lt-OUTPUT : goal.returns-then-out-lt-OUTPUT
returns-then-out-lt-OUTPUT c = returns_small c.args.book.now c.args.out.now c.if-out-lt-OUTPUT.true

pub returns-in_err-len : goal.returns-in_err-len
returns-in_err-len c =
    refused _ c.args.out.now c.if-out-lt-OUTPUT.false (omega arith) _ c.in_err-len.ensures _ c.from_residual.ensures.1

pub slice_bounds-wide-end : goal.slice_bounds-wide-end
slice_bounds-wide-end c = (copy_given c.args.book.now _ c.in_ok-len.ensures (omega arith) refl).within

pub slice_bounds-run_sound-end : goal.slice_bounds-run_sound-end
slice_bounds-run_sound-end c =
    sym (length-take-le _ _ (copy_given c.args.book.now _ c.in_ok-len.ensures (omega arith) refl).within)

pub run_sound-requires : goal.run_sound-requires
run_sound-requires c =
    let g = copy_given c.args.book.now _ c.in_ok-len.ensures (omega arith) refl in
    (g.sound, g.copy.sound, g.copy.form, g.copy.means, c.if-out-lt-OUTPUT.false)
