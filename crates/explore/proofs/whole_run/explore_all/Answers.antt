-- `explore::whole_run::explore_all` meets its contract. The loop's invariant is `Running`; the measure is the number of
-- explorations left.
use native.Mathlib.Omega.{arith}
use mathlib.Core.Path.{◌≡◌, sym, ◌∙◌, subst}
use mathlib.Core.List.{List}
use Prim.Native.Nat.{ℕ, ◌<◌}
use Rattle.std.specs.Prelude.{Result, Ok, Err}
use Rattle.covering.specs.Term.{Question}
use Rattle.covering.specs.Record.{stored, question_of}
use Rattle.reading.specs.declared.Reason.{Reason}
use Rattle.exploration.specs.Run.{State}
use Rattle.exploration.specs.Refusals.{limits_of}
use Rattle.explore.specs.Exploring.{MemberIn, ExploredIs}
use Rattle.reading.specs.Book.{book_of}
use Rattle.reading.proofs.SoundBook.{sound_long}
use Rattle.reading.proofs.Fits.{allowed_few}
use Rattle.explore.proofs.Running.{running_first, running_next}
use Rattle.explore.proofs.Running.{outcome_complete, outcome_ten, outcome_refused, member_of}
use Rattle.explore.proofs.Running.{allowed_read}
use Rattle.explore.proofs.whole_run.explore_all.Goals as goal

-- what is said of the rules is said of their book
by_rules : {A B : List ℕ} (M : Question) (x y : State) (r : Result Unit Reason) → A ≡ B
    → ExploredIs (limits_of A) (book_of A).rules M x y r → ExploredIs (limits_of B) (book_of B).rules M x y r
by_rules M x y r e h = subst (λ (X : List ℕ). ExploredIs (limits_of X) (book_of X).rules M x y r) e h

pub read-allowed-requires : goal.read-allowed-requires
read-allowed-requires c = sound_long _ c.requires.0

pub read-rules-requires : goal.read-rules-requires
read-rules-requires c = (c.requires.0, c.requires.1)

pub loop-rules-init : goal.loop-rules-init
loop-rules-init c = running_first c.args.book.now c.requires.2

pub returns-then-taken-allowed : goal.returns-then-taken-allowed
returns-then-taken-allowed c =
    let B = c.args.book.now in
    outcome_ten B c.loop-rules.invariant (omega arith) (c.if-taken-allowed.true ∙ allowed_read B _ c.read-allowed.ensures)

pub overflow_add-taken : goal.overflow_add-taken
overflow_add-taken c = omega (arith, c.loop-rules.invariant.few, allowed_few c.args.book.now c.requires.0)

pub explore-explored-requires : goal.explore-explored-requires
explore-explored-requires c =
    let B = c.args.book.now in
    let r = c.loop-rules.invariant in
    let old = c.oldest-member.ensures in
    let more : c.loop-rules.taken < (book_of B).allowed = omega (arith, r.few, allowed_read B _ c.read-allowed.ensures) in
    subst (λ (X : List ℕ). MemberIn X c.oldest-member.result) (sym c.read-rules.ensures)
    (member_of B r more c.requires.0 old.0 old.1 _ old.2)

pub loop-rules-preserved : goal.loop-rules-preserved
loop-rules-preserved c =
    let B = c.args.book.now in
    let r = c.loop-rules.invariant in
    let old = c.oldest-member.ensures in
    let more : c.loop-rules.taken < (book_of B).allowed = omega (arith, r.few, allowed_read B _ c.read-allowed.ensures) in
    running_next B r more c.requires.0 old.0 old.1 _ old.2 c.take_up.ensures _
    (by_rules (question_of stored c.oldest-member.result) c.take_up.new.self c.explore-explored.new.members
    (Ok tt) c.read-rules.ensures c.in_default.ensures)

pub loop-rules-smaller : goal.loop-rules-smaller
loop-rules-smaller c = omega (arith, c.loop-rules.invariant.few, allowed_read c.args.book.now _ c.read-allowed.ensures)

pub returns-in-Err : goal.returns-in-Err
returns-in-Err c =
    let B = c.args.book.now in
    let r = c.loop-rules.invariant in
    let old = c.oldest-member.ensures in
    let more : c.loop-rules.taken < (book_of B).allowed = omega (arith, r.few, allowed_read B _ c.read-allowed.ensures) in
    outcome_refused B r more c.requires.0 old.0 old.1 _ old.2 c.take_up.ensures c.explore-explored.new.members _
    (by_rules (question_of stored c.oldest-member.result) c.take_up.new.self c.explore-explored.new.members
    (Err c.in-Err.reason) c.read-rules.ensures c.in-Err.ensures)

pub returns : goal.returns
returns c =
    outcome_complete c.args.book.now c.loop-rules.invariant (allowed_few c.args.book.now c.requires.0) (omega arith)
