-- `explore::exploring::explore` meets its contract. The loop's invariant (`Onward`): the exploration's outcome is that of
-- the rewritings yet to come, from the state that the array holds. The measure is the number of rewritings yet to come.
use native.Mathlib.Omega.{arith}
use mathlib.Core.Path.{◌≡◌, sym, ap, ◌∙◌, subst}
use mathlib.Core.List.{List}
use Prim.Native.Nat.{ℕ}
use Rattle.reading.specs.Header.{form_of, new}
use Rattle.reading.specs.Verdict.{SoundBook}
use Rattle.exploration.specs.Refusals.{answers_of}
use Rattle.explore.specs.declared.Head.{Head}
use Rattle.explore.specs.Related.{RulesRead}
use Rattle.std.specs.Prelude.{Ok}
use Rattle.std.proofs.lemmas.Result.{err_from_is_err_and}
use Rattle.covering.specs.Record.{stored, question_of}
use Rattle.reading.specs.Book.{book_of}
use Rattle.exploration.specs.Refusals.{limits_of}
use Rattle.explore.proofs.Coming.{given_none, given_some}
use Rattle.explore.proofs.Onward.{onward_first, onward_done, onward_dropped, onward_refused}
use Rattle.explore.proofs.Onward.{onward_stopped, onward_appended, onward_passed, fewer, fewer_passed}
use Rattle.explore.proofs.Turn.{member_question_in, member_record}
use Rattle.explore.proofs.Turn.{taken_sound, taken_covers, taken_fate, taken_rule, taken_choice, taken_passed}
use Rattle.exploration.proofs.OfBook.{answers_few}
use Rattle.explore.proofs.exploring.explore.Goals as goal

pub loop-taken-init : goal.loop-taken-init
loop-taken-init c = onward_first (limits_of c.args.rules.now) (book_of c.args.rules.now).rules (question_of stored c.args.member.now) _

-- what is known of the rules, of the book that clauses know as B
pub is_sound : {A B : List ℕ} {count : ℕ} {starts : List ℕ} {heads : List Head} {answers : ℕ} → RulesRead A count starts heads answers
    → A ≡ B → SoundBook B
is_sound v e = subst SoundBook e v.sound

pub is_new : {A B : List ℕ} {count : ℕ} {starts : List ℕ} {heads : List Head} {answers : ℕ} → RulesRead A count starts heads answers
    → A ≡ B → form_of B ≡ new
is_new v e = ap form_of (sym e) ∙ v.form

pub next_rewriting-found-requires : goal.next_rewriting-found-requires
next_rewriting-found-requires c =
    let s = is_sound c.rules.invariant c.rules.view_is in
    (member_question_in s c.requires (is_new c.rules.invariant c.rules.view_is), member_record s c.requires)

pub returns-in_default : goal.returns-in_default
returns-in_default c = onward_done _ _ _ _ c.loop-taken.invariant (given_none _ _ _ _ _ _ c.in_default.ensures.0)

pub admit-requires : goal.admit-requires
admit-requires c =
    let o = c.loop-taken.invariant in
    let g = given_some _ _ _ _ _ _ _ c.in-Some.ensures.0 in (
      taken_sound (is_sound c.rules.invariant c.rules.view_is) c.requires o g,
      omega (arith, c.rules.invariant.answers_are, answers_few c.rules.inside.book.now c.rules.invariant.sound),
    )

pub returns-in_err-admit : goal.returns-in_err-admit
returns-in_err-admit c =
    let o = c.loop-taken.invariant in
    let g = given_some _ _ _ _ _ _ _ c.in-Some.ensures.0 in
    let answers = c.rules.invariant.answers_are ∙ ap answers_of c.rules.view_is in
    let fate = taken_fate (is_sound c.rules.invariant c.rules.view_is) c.requires o g answers _ _ _ c.in_err-admit.was c.admit.ensures in
    let p = err_from_is_err_and c.from_residual.result c.from_residual.ensures.1 in
    rw (p.1, p.2) (onward_refused _ _ _ _ o g c.admit.new.self _ fate)

pub after_drop-resumed-requires : goal.after_drop-resumed-requires
after_drop-resumed-requires c =
    let s = is_sound c.rules.invariant c.rules.view_is in
    let M = c.requires in
    let o = c.loop-taken.invariant in
    let g = given_some _ _ _ _ _ _ _ c.in-Some.ensures.0 in
    (member_question_in s M (is_new c.rules.invariant c.rules.view_is), taken_rule s M o g, taken_choice s M o g)

pub loop-taken-smaller-in-Dropped : goal.loop-taken-smaller-in-Dropped
loop-taken-smaller-in-Dropped c =
    let o = c.loop-taken.invariant in
    let g = given_some _ _ _ _ _ _ _ c.in-Some.ensures.0 in
    fewer_passed _ _ _ _ o g c.after_drop-resumed.ensures.later

pub loop-taken-preserved-in-Dropped : goal.loop-taken-preserved-in-Dropped
loop-taken-preserved-in-Dropped c =
    let s = is_sound c.rules.invariant c.rules.view_is in
    let M = c.requires in
    let o = c.loop-taken.invariant in
    let g = given_some _ _ _ _ _ _ _ c.in-Some.ensures.0 in
    let was = c.in_ok-admit.was ∙ ap Ok c.in-Dropped.is in
    let answers = c.rules.invariant.answers_are ∙ ap answers_of c.rules.view_is in
    let fate = taken_fate s M o g answers _ _ _ was c.admit.ensures in
    let x = onward_dropped _ _ _ _ o g _ fate in
    onward_passed _ _ _ _ o g x (taken_passed s M o g c.after_drop-resumed.ensures)

pub covers_sound-stops-requires : goal.covers_sound-stops-requires
covers_sound-stops-requires c =
    let s = is_sound c.rules.invariant c.rules.view_is in
    let M = c.requires in
    let o = c.loop-taken.invariant in
    let g = given_some _ _ _ _ _ _ _ c.in-Some.ensures.0 in
    (taken_sound s M o g, member_record s M)

pub returns-then-stops : goal.returns-then-stops
returns-then-stops c =
    let s = is_sound c.rules.invariant c.rules.view_is in
    let M = c.requires in
    let o = c.loop-taken.invariant in
    let g = given_some _ _ _ _ _ _ _ c.in-Some.ensures.0 in
    let was = c.in_ok-admit.was ∙ ap Ok c.in-Appended.is in
    let answers = c.rules.invariant.answers_are ∙ ap answers_of c.rules.view_is in
    let fate = taken_fate s M o g answers _ _ _ was c.admit.ensures in
    let removed = taken_covers s M o g _ c.covers_sound-stops.ensures ∙ c.if-stops.true in
    onward_stopped _ _ _ _ o g _ fate removed

pub loop-taken-smaller : goal.loop-taken-smaller
loop-taken-smaller c =
    let o = c.loop-taken.invariant in
    let g = given_some _ _ _ _ _ _ _ c.in-Some.ensures.0 in
    fewer _ _ _ _ o g

pub loop-taken-preserved : goal.loop-taken-preserved
loop-taken-preserved c =
    let s = is_sound c.rules.invariant c.rules.view_is in
    let M = c.requires in
    let o = c.loop-taken.invariant in
    let g = given_some _ _ _ _ _ _ _ c.in-Some.ensures.0 in
    let was = c.in_ok-admit.was ∙ ap Ok c.in-Appended.is in
    let answers = c.rules.invariant.answers_are ∙ ap answers_of c.rules.view_is in
    let fate = taken_fate s M o g answers _ _ _ was c.admit.ensures in
    let stays = taken_covers s M o g _ c.covers_sound-stops.ensures ∙ c.if-stops.false in
    onward_appended _ _ _ _ o g _ fate stays
