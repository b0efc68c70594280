-- `explore::taking_up::next_rewriting` meets its contract. The loop's invariant: what is sought is the first rewriting
-- from the rule at hand on.
use native.Mathlib.Omega.{arith}
use mathlib.Core.Path.{refl, sym, ap, ◌∙◌}
use mathlib.Core.List.{List}
use lib.ListN.{drop}
use Prim.Native.Nat.{ℕ, ◌≤◌, ◌<◌}
use Rattle.covering.specs.Record.{stored, question_of}
use Rattle.reading.specs.Header.{rules as rules_of}
use Rattle.reading.specs.Book.{rule_at, book_of}
use Rattle.reading.proofs.Reading.{rules_left}
use Rattle.explore.specs.Related.{head_told}
use Rattle.explore.specs.Taking.{next_among}
use Rattle.explore.proofs.Among.{told_same, among_none, among_found, among_later, rules_few}
use Rattle.explore.proofs.Among.{start_is, start_fits, parts_in}
use Rattle.explore.proofs.taking_up.next_rewriting.Goals as goal

pub relations-all-requires : goal.relations-all-requires
relations-all-requires c = c.requires.1

pub loop-rule-init : goal.loop-rule-init
loop-rule-init c =
    let a = c.args in
    let M = question_of stored a.member.now in (
      ap (λ (B : List ℕ). next_among M a.k a.from (drop a.k (book_of B).rules)) (sym c.rules.view_is)
          ∙ ap (next_among M a.k a.from) (rules_left c.rules.inside.book.now a.k),
      refl,
    )

pub offset_bounds-rules-inside-rule : goal.offset_bounds-rules-inside-rule
offset_bounds-rules-inside-rule c = omega (arith, rules_few c.rules.inside.book.now c.rules.invariant.sound, c.rules.invariant.number)

pub bounds-rules-inside-rule : goal.bounds-rules-inside-rule
bounds-rules-inside-rule c = omega (arith, rules_few c.rules.inside.book.now c.rules.invariant.sound, c.rules.invariant.number)

pub offset_bounds-rules-inside-rule-in-loop-rule : goal.offset_bounds-rules-inside-rule-in-loop-rule
offset_bounds-rules-inside-rule-in-loop-rule c =
    omega (arith, rules_few c.rules.inside.book.now c.rules.invariant.sound, c.rules.invariant.number)

pub bounds-rules-inside-rule-in-loop-rule : goal.bounds-rules-inside-rule-in-loop-rule
bounds-rules-inside-rule-in-loop-rule c =
    omega (arith, rules_few c.rules.inside.book.now c.rules.invariant.sound, c.rules.invariant.number)

pub next_by-found-requires : goal.next_by-found-requires
next_by-found-requires c =
    let B = c.rules.inside.book.now in
    let v = c.rules.invariant in
    let k = c.loop-rule.rule in
    let within : k < rules_of B = omega (arith, v.number) in (
      start_fits B v.sound c.rules.inside.starts v.starts_at _ within,
      v.form,
      parts_in B v.sound c.rules.inside.starts v.starts_at _ within v.form _ refl,
      c.requires.0,
      v.heads_are.told k _ within
          ∙ ap (λ (s : ℕ). head_told (rule_at B s)) (sym (start_is B v.sound c.rules.inside.starts v.starts_at k within)),
      c.relations-all.ensures,
    )

pub returns-in-Some : goal.returns-in-Some
returns-in-Some c =
    let B = c.rules.inside.book.now in
    let v = c.rules.invariant in
    let l = c.loop-rule in
    let within : l.rule < rules_of B = omega (arith, v.number) in
    let start = start_is B v.sound c.rules.inside.starts v.starts_at l.rule within in
    let found = rw start at c.in-Some.ensures.0 in
    (told_same l.invariant.0 l.invariant.1 (among_found B _ l.rule l.first within _ _ _ found), c.in-Some.ensures.1)

pub loop-rule-preserved : goal.loop-rule-preserved
loop-rule-preserved c =
    let B = c.rules.inside.book.now in
    let v = c.rules.invariant in
    let l = c.loop-rule in
    let within : l.rule < rules_of B = omega (arith, v.number) in
    let start = start_is B v.sound c.rules.inside.starts v.starts_at l.rule within in
    let later = among_later B _ l.rule l.first within _ _ (rw start at c.in_default.ensures.0) in
    (l.invariant.0 ∙ later.0, later.1 ∙ l.invariant.1)

pub returns : goal.returns
returns c =
    let B = c.rules.inside.book.now in
    let v = c.rules.invariant in
    let all : rules_of B ≤ c.loop-rule.rule = omega (arith, v.number) in
    let none_left = c.loop-rule.invariant.0 ∙ among_none B (question_of stored c.args.member.now) _ _ all in
    (told_same none_left refl (record { answer = refl; room = c.loop-rule.invariant.1 }), tt)
