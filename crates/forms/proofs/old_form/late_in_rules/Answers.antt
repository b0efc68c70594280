-- The rules passed have no variable above 31, so the first is the first in those left. Assumes nothing.
use Rattle.std.proofs.Common.{◌≡◌, ◌+◌, ◌*◌, ◌-◌, ◌<◌, ◌≤◌, ℕ, List, length, sym, ◌∙◌, ap, ap₂, arith}
use Rattle.reading.specs.declared.Header.{Header}
use Rattle.reading.specs.Word.{byte}
use Rattle.reading.specs.Header.{header_of, rules}
use Rattle.reading.specs.Book.{body_count, head_count, rule_end, rules_start, rule_start}
use Rattle.reading.specs.Verdict.{told, SoundBook}
use Rattle.reading.specs.Copy.{late_in_atoms, late_in_rules}
use Rattle.reading.proofs.After.{after_zero, after_next}
use Rattle.reading.proofs.Forms.{form_known}
use Rattle.judging.proofs.JudgingSteps.{handed, stops_else, passes_else}
use Rattle.forms.proofs.Headed.{headed}
use Rattle.forms.proofs.LateSteps.{rules_end, rules_more, rule_within}
use Rattle.forms.proofs.old_form.late_in_rules.Goals as goal

-- the rule of a turn, at s, by the counts x and y that were read
module _ (B : List ℕ) (sound : SoundBook B) {h : Header} (is : h ≡ header_of B) (k : ℕ) {s : ℕ} (l : k < h.rules)
    (at : s ≡ rule_start B k) where
  within : rule_end B s ≤ length B
  within = rule_within B sound (omega (arith, (headed B sound is).rules_are)) at

  module _ {x y : ℕ} (is_x : x ≡ byte B s) (is_y : y ≡ byte B (s + 1)) where
    counted : x + y ≡ body_count B s + head_count B s
    counted = omega arith

    atoms : told 13 (late_in_atoms B (s + 2) (x + y)) ≡ told 13 (late_in_atoms B (s + 2) (body_count B s + head_count B s))
    atoms = ap (λ (m : ℕ). told 13 (late_in_atoms B (s + 2) m)) counted

    -- where it ends, as the code finds it, which is where the next one starts
    ends : s + 2 + (1 + h.places) * (x + y) ≡ rule_end B s
    ends = ap₂ (λ (w m : ℕ). s + 2 + (1 + w) * m) (headed B sound is).places_are counted

    next : s + (2 + (1 + h.places) * (x + y)) ≡ rule_end B s
    next = omega (arith, ends)

    starts : s + (2 + (1 + h.places) * (x + y)) ≡ rule_start B (k + 1)
    starts = next ∙ ap (rule_end B) at ∙ sym (after_next B (rules_start B) k)

pub bounds-book-s : goal.bounds-book-s
bounds-book-s c = omega (arith, within _ c.requires.0 c.requires.1 _ c.loop-rule-test.true c.loop-rule.invariant.0)

pub overflow_add-s : goal.overflow_add-s
overflow_add-s c = omega (arith, within _ c.requires.0 c.requires.1 _ c.loop-rule-test.true c.loop-rule.invariant.0)

pub bounds-book-s-in-loop-rule : goal.bounds-book-s-in-loop-rule
bounds-book-s-in-loop-rule c = omega (arith, within _ c.requires.0 c.requires.1 _ c.loop-rule-test.true c.loop-rule.invariant.0)

pub overflow_add-s-in-loop-rule : goal.overflow_add-s-in-loop-rule
overflow_add-s-in-loop-rule c = omega (arith, within _ c.requires.0 c.requires.1 _ c.loop-rule-test.true c.loop-rule.invariant.0)

pub loop-rule-init : goal.loop-rule-init
loop-rule-init c =
    let B = c.args.book.now in
    let k = headed B c.requires.0 c.requires.1 in
    let all : rules B ≡ c.args.h.rules - 0 = omega (arith, k.rules_are) in
    (k.start_is ∙ sym (after_zero B (rules_start B)), ap₂ (late_in_rules B) (sym k.start_is) all)

pub late_in_atoms-requires : goal.late_in_atoms-requires
late_in_atoms-requires c =
    let B = c.args.book.now in
    let w = within B c.requires.0 c.requires.1 _ c.loop-rule-test.true c.loop-rule.invariant.0 in
    let e = ends B c.requires.0 c.requires.1 _ c.loop-rule-test.true c.loop-rule.invariant.0 c.from.ensures c.from-in-loop-rule.ensures in
    ((headed B c.requires.0 c.requires.1).places_are, omega (arith, w, e))

pub returns-in_err-late_in_atoms : goal.returns-in_err-late_in_atoms
returns-in_err-late_in_atoms c =
    let d = atoms _ c.requires.0 c.requires.1 _ c.loop-rule-test.true c.loop-rule.invariant.0 c.from.ensures c.from-in-loop-rule.ensures in
    handed _ _ c.from_residual.ensures.1 (stops_else 13 _ _ _ (c.in_err-late_in_atoms.ensures ∙ d))
    ∙ ap (told 13) (sym (c.loop-rule.invariant.1 ∙ rules_more _ _ _ _ c.loop-rule-test.true))

pub overflow_mul-s : goal.overflow_mul-s
overflow_mul-s c =
    let B = c.args.book.now in
    let w = within B c.requires.0 c.requires.1 _ c.loop-rule-test.true c.loop-rule.invariant.0 in
    let e = ends B c.requires.0 c.requires.1 _ c.loop-rule-test.true c.loop-rule.invariant.0 c.from.ensures c.from-in-loop-rule.ensures in
    omega (arith, w, e)

pub overflow_add-s-in-loop-rule-3 : goal.overflow_add-s-in-loop-rule-3
overflow_add-s-in-loop-rule-3 c =
    let B = c.args.book.now in
    let w = within B c.requires.0 c.requires.1 _ c.loop-rule-test.true c.loop-rule.invariant.0 in
    let e = ends B c.requires.0 c.requires.1 _ c.loop-rule-test.true c.loop-rule.invariant.0 c.from.ensures c.from-in-loop-rule.ensures in
    omega (arith, w, e)

pub overflow_add-s-in-loop-rule-4 : goal.overflow_add-s-in-loop-rule-4
overflow_add-s-in-loop-rule-4 c =
    let B = c.args.book.now in
    let w = within B c.requires.0 c.requires.1 _ c.loop-rule-test.true c.loop-rule.invariant.0 in
    let e = ends B c.requires.0 c.requires.1 _ c.loop-rule-test.true c.loop-rule.invariant.0 c.from.ensures c.from-in-loop-rule.ensures in
    omega (arith, w, e)

pub overflow_add-s-in-loop-rule-2 : goal.overflow_add-s-in-loop-rule-2
overflow_add-s-in-loop-rule-2 c =
    omega (arith, (headed _ c.requires.0 c.requires.1).places_are, (form_known c.args.book.now).few_places)

pub loop-rule-preserved : goal.loop-rule-preserved
loop-rule-preserved c =
    let B = c.args.book.now in
    let d = atoms B c.requires.0 c.requires.1 _ c.loop-rule-test.true c.loop-rule.invariant.0 c.from.ensures c.from-in-loop-rule.ensures in
    let on = next B c.requires.0 c.requires.1 _ c.loop-rule-test.true c.loop-rule.invariant.0 c.from.ensures c.from-in-loop-rule.ensures in (
      starts B c.requires.0 c.requires.1 _ c.loop-rule-test.true c.loop-rule.invariant.0 c.from.ensures c.from-in-loop-rule.ensures,
      c.loop-rule.invariant.1
          ∙ rules_more _ _ _ _ c.loop-rule-test.true
          ∙ passes_else 13 _ _ (omega arith) (c.in_ok-late_in_atoms.ensures ∙ d)
          ∙ ap (λ (s : ℕ). late_in_rules B s (c.args.h.rules - (c.loop-rule._rule + 1))) (sym on),
    )

pub returns : goal.returns
returns c = ap (told 13) (sym (c.loop-rule.invariant.1 ∙ rules_end _ _ _ _ c.loop-rule-test.false))
