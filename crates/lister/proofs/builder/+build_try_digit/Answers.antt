-- The builder's two functions meet their contracts. `build` goes through the digits of the next atom, `try_digit`
-- goes on with the rest under one digit. The measure is two for each atom left, and one less while a digit is tried.
use borrow.Author.Rules.{rules}
use native.Mathlib.Omega.{arith}
use mathlib.Core.Path.{◌≡◌, refl, sym, ◌∙◌}
use Prim.Native.Nat.{◌<◌}
use lib.ListN.{length}
use Rattle.lister.proofs.Asked.{child_small, child_number, head_sound}
use Rattle.lister.proofs.Answers.{told_same, told_none, sought_whole, sought_unsent}
use Rattle.lister.proofs.Answers.{reached_first, reached_last, reached_found, reached_next}
use Rattle.lister.proofs.Answers.{skipped, apart_at, clash_at}
use Rattle.lister.proofs.Digits.{some_sent_lem, none_sent, trying}
use Rattle.lister.proofs.Digits.{asks_left, leaves, asks_sent, sends, gives_up}
use Rattle.lister.proofs.builder.+build_try_digit.Goals as goal

pub build-returns-then-sent-eq0 : goal.build-returns-then-sent-eq0
build-returns-then-sent-eq0 t c =
    told_none (sought_unsent c.requires.asks _ c.if-more-eq0.true (none_sent _ c.if-sent-eq0.true))

pub build-whole_choice-requires : goal.build-whole_choice-requires
build-whole_choice-requires t c =
    let b = c.requires in
    let sent = c.if-sent-eq0.false in
    (omega (arith, b.all), omega (arith, b.asks.fewer (some_sent_lem _ sent)), b.asks.classes)

pub build-returns-then-more-eq0 : goal.build-returns-then-more-eq0
build-returns-then-more-eq0 t c =
    told_same (sym (sought_whole c.requires.asks _ c.if-more-eq0.true (some_sent_lem _ c.if-sent-eq0.false)))
    c.whole_choice.ensures

pub build-bounds-asked-more : goal.build-bounds-asked-more
build-bounds-asked-more t c =
    let b = c.requires in
    omega (arith, b.asks.few)

pub build-loop-d-init : goal.build-loop-d-init
build-loop-d-init t c = (reached_first (omega arith), refl)

pub build-try_digit-told-requires : goal.build-try_digit-told-requires
build-try_digit-told-requires t c =
    let b = c.requires in
    (omega arith, (b, (omega arith, omega arith, c.args.asked.now.counts_for _ (omega (arith, b.asks.few)))))

pub build-returns-then-is_some : goal.build-returns-then-is_some
build-returns-then-is_some t c =
    let l = c.loop-d in
    rw (sym l.invariant.1) (reached_found l.invariant.0 (omega arith) c.try_digit-told.ensures (sym c.is_some.ensures ∙ c.if-is_some.true))

pub build-loop-d-preserved : goal.build-loop-d-preserved
build-loop-d-preserved t c =
    let l = c.loop-d in
    let next = reached_next l.invariant.0 (omega arith) c.try_digit-told.ensures (sym c.is_some.ensures ∙ c.if-is_some.false) in
    (next.0, next.1 ∙ l.invariant.1)

pub build-returns : goal.build-returns
build-returns t c =
    let l = c.loop-d in
    rw l.invariant.1 (told_none (reached_last l.invariant.0 (omega arith)))

pub try_digit-overflow_add-next : goal.try_digit-overflow_add-next
try_digit-overflow_add-next t c =
    let b = c.requires.builds in
    omega (arith, b.asks.rule.few_head)

pub try_digit-overflow_mul-next : goal.try_digit-overflow_mul-next
try_digit-overflow_mul-next t c = omega (arith, child_number (trying (c.requires.builds, c.requires.more_nonzero)))

pub try_digit-overflow_add-next-2 : goal.try_digit-overflow_add-next-2
try_digit-overflow_add-next-2 t c = omega (arith, child_number (trying (c.requires.builds, c.requires.more_nonzero)))

pub try_digit-overflow_add-next-3 : goal.try_digit-overflow_add-next-3
try_digit-overflow_add-next-3 t c = omega (arith, child_number (trying (c.requires.builds, c.requires.more_nonzero)))

pub try_digit-overflow_mul-next-2 : goal.try_digit-overflow_mul-next-2
try_digit-overflow_mul-next-2 t c = rw c.requires.more_nonzero.2 (omega (arith, child_small (trying (c.requires.builds, c.requires.more_nonzero))))

pub try_digit-returns-then-next-each : goal.try_digit-returns-then-next-each
try_digit-returns-then-next-each t c =
    let all_before = rw c.requires.more_nonzero.2 at c.if-next-each.true in
    told_none (skipped (trying (c.requires.builds, c.requires.more_nonzero)) _ (omega (arith, all_before)))

pub try_digit-overflow_add-passed : goal.try_digit-overflow_add-passed
try_digit-overflow_add-passed t c =
    let b = c.requires.builds in
    omega (arith, b.all, c.args.asked.now.question_in.few)

pub try_digit-overflow_mul-sent : goal.try_digit-overflow_mul-sent
try_digit-overflow_mul-sent t c = omega (arith, c.requires.builds.bits, child_number (trying (c.requires.builds, c.requires.more_nonzero)))

pub try_digit-build-requires : goal.try_digit-build-requires
try_digit-build-requires t c =
    let p = c.requires in
    (omega arith, asks_left p.builds p.more_nonzero.0 p.more_nonzero.1)

pub try_digit-returns-then-d-eq0 : goal.try_digit-returns-then-d-eq0
try_digit-returns-then-d-eq0 t c =
    let p = c.requires in
    told_same (leaves p.builds p.more_nonzero.0 p.more_nonzero.1 _ c.if-d-eq0.true) c.build.ensures

pub try_digit-overflow_mul-i : goal.try_digit-overflow_mul-i
try_digit-overflow_mul-i t c =
    let b = c.requires.builds in
    omega (arith, b.all, c.args.asked.now.question_in.few)

pub try_digit-overflow_add-i : goal.try_digit-overflow_add-i
try_digit-overflow_add-i t c =
    let b = c.requires.builds in
    omega (arith, b.all, c.args.asked.now.question_in.few)

pub try_digit-overflow_add-k : goal.try_digit-overflow_add-k
try_digit-overflow_add-k t c =
    let p = c.requires in
    omega (arith, p.builds.asks.rule.head.fits, p.more_nonzero.1)

pub try_digit-bounds-question-i : goal.try_digit-bounds-question-i
try_digit-bounds-question-i t c =
    let b = c.requires.builds in
    omega (arith, b.all, c.args.asked.now.question_in.few)

pub try_digit-bounds-book-k : goal.try_digit-bounds-book-k
try_digit-bounds-book-k t c =
    let p = c.requires in
    omega (arith, p.builds.asks.rule.head.fits, p.more_nonzero.1)

pub try_digit-returns-then-question-i : goal.try_digit-returns-then-question-i
try_digit-returns-then-question-i t c =
    told_none (apart_at (trying (c.requires.builds, c.requires.more_nonzero)) _ (omega arith) c.if-question-i.true)

pub try_digit-join_atoms-requires : goal.try_digit-join_atoms-requires
try_digit-join_atoms-requires t c =
    let p = c.requires in (
      omega (arith, p.builds.asks.atoms.fits, p.more_nonzero.0),
      omega (arith, p.builds.asks.rule.head.fits, p.more_nonzero.1),
      head_sound (trying (c.requires.builds, c.requires.more_nonzero)) (omega arith),
      search rules,
    )

pub try_digit-returns-then-not-join_atoms : goal.try_digit-returns-then-not-join_atoms
try_digit-returns-then-not-join_atoms t c =
    let clash = c.if-not-join_atoms.true in
    let sent : 0 < c.args.d = omega (arith, c.if-d-eq0.false) in
    told_none
    (clash_at (trying (c.requires.builds, c.requires.more_nonzero)) _ sent c.join_atoms.result _ c.join_atoms.new.table
    c.join_atoms.ensures refl clash)

pub try_digit-can_be_valid-requires : goal.try_digit-can_be_valid-requires
try_digit-can_be_valid-requires t c =
    (c.requires.more_nonzero.0, omega (arith, c.requires.builds.all))

pub try_digit-returns-then-not-can_be_valid : goal.try_digit-returns-then-not-can_be_valid
try_digit-returns-then-not-can_be_valid t c =
    let p = c.requires in
    let ok = c.if-not-join_atoms.false in
    let long : length c.join_atoms.new.table ≡ length c.args.table.now = search rules in
    let sent : 0 < c.args.d = omega (arith, c.if-d-eq0.false) in
    told_none
    (gives_up p.builds p.more_nonzero.0 p.more_nonzero.1 sent c.join_atoms.result _ c.join_atoms.new.table
    c.join_atoms.ensures refl ok long _
    (c.can_be_valid.ensures (c.if-not-can_be_valid.true)))

pub try_digit-overflow_add-passed-2 : goal.try_digit-overflow_add-passed-2
try_digit-overflow_add-passed-2 t c = omega (arith, c.requires.builds.all, c.args.asked.now.question_in.few)

pub try_digit-overflow_mul-sent-2 : goal.try_digit-overflow_mul-sent-2
try_digit-overflow_mul-sent-2 t c = omega (arith, c.requires.builds.bits, child_number (trying (c.requires.builds, c.requires.more_nonzero)))

pub try_digit-overflow_add-sent : goal.try_digit-overflow_add-sent
try_digit-overflow_add-sent t c = omega (arith, c.requires.builds.bits, child_number (trying (c.requires.builds, c.requires.more_nonzero)))

pub try_digit-build-requires-2 : goal.try_digit-build-requires-2
try_digit-build-requires-2 t c =
    let p = c.requires in
    let ok = c.if-not-join_atoms.false in
    let long : length c.join_atoms.new.table ≡ length c.args.table.now = search rules in
    let sent : 0 < c.args.d = omega (arith, c.if-d-eq0.false) in (
      omega arith,
      asks_sent p.builds p.more_nonzero.0 p.more_nonzero.1 sent c.join_atoms.result _ c.join_atoms.new.table
          c.join_atoms.ensures refl ok long,
    )

pub try_digit-returns : goal.try_digit-returns
try_digit-returns t c =
    let p = c.requires in
    let ok = c.if-not-join_atoms.false in
    let sent : 0 < c.args.d = omega (arith, c.if-d-eq0.false) in
    told_same
    (sends p.builds p.more_nonzero.0 p.more_nonzero.1 sent c.join_atoms.result _ c.join_atoms.new.table
    c.join_atoms.ensures refl ok _)
    c.build-2.ensures
