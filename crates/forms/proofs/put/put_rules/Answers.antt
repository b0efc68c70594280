-- `forms::put::put_rules` meets its contract. The loop's invariant: the rules passed are put.
use Rattle.std.proofs.Common.{◌≡◌, ◌+◌, ◌*◌, ◌<◌, ℕ, List, ◌∙◌, ap₂, arith}
use Rattle.reading.specs.declared.Header.{Header}
use Rattle.reading.specs.Word.{byte}
use Rattle.reading.specs.Header.{BookForm, header_of, rules}
use Rattle.reading.specs.Book.{rule_end}
use Rattle.reading.proofs.Forms.{form_known}
use Rattle.forms.specs.Ready.{BookReady}
use Rattle.forms.proofs.Headed.{headed}
use Rattle.forms.proofs.Rules.{rules_begin, rules_end, rules_step, next_ready, next_room, same_room}
use Rattle.forms.proofs.put.put_rules.Goals as goal

module _ {B : List ℕ} {f : BookForm} (ready : BookReady B f) {h : Header} (is : h ≡ header_of B) where
  more : {k : ℕ} → k < h.rules → k < rules B
  more l = omega (arith, (headed B ready.sound is).rules_are)

  -- where the rule at s ends, by the counts x and y that were read
  ends : (s : ℕ) {x y : ℕ} → x ≡ byte B s → y ≡ byte B (s + 1) → s + (2 + (1 + h.places) * (x + y)) ≡ rule_end B s
  ends s {x} {y} is_x is_y =
      let n : x + y ≡ byte B s + byte B (s + 1) = omega arith in
      ap₂ (λ (w m : ℕ). s + (2 + (1 + w) * m)) (headed B ready.sound is).places_are n ∙ omega arith

pub loop-rule-init : goal.loop-rule-init
loop-rule-init c = rules_begin _ _ _ _ c.requires.2 (headed _ c.requires.0.sound c.requires.1).start_is

pub put_rule-end-requires : goal.put_rule-end-requires
put_rule-end-requires c =
    let l = more c.requires.0 c.requires.1 c.loop-rule-test.true in (
      next_ready _ _ _ _ c.loop-rule.invariant l c.requires.0,
      (headed _ c.requires.0.sound c.requires.1).places_are,
      next_room _ _ _ _ c.loop-rule.invariant l,
    )

pub bounds-book-s : goal.bounds-book-s
bounds-book-s c = omega (arith, (next_ready _ _ _ _ c.loop-rule.invariant (more c.requires.0 c.requires.1 c.loop-rule-test.true) c.requires.0).head.fits)

pub overflow_add-s-in-loop-rule-2 : goal.overflow_add-s-in-loop-rule-2
overflow_add-s-in-loop-rule-2 c = omega (arith, (next_ready _ _ _ _ c.loop-rule.invariant (more c.requires.0 c.requires.1 c.loop-rule-test.true) c.requires.0).head.fits)

pub bounds-book-s-in-loop-rule : goal.bounds-book-s-in-loop-rule
bounds-book-s-in-loop-rule c = omega (arith, (next_ready _ _ _ _ c.loop-rule.invariant (more c.requires.0 c.requires.1 c.loop-rule-test.true) c.requires.0).head.fits)

pub overflow_add-s-in-loop-rule : goal.overflow_add-s-in-loop-rule
overflow_add-s-in-loop-rule c = omega (arith, (next_ready _ _ _ _ c.loop-rule.invariant (more c.requires.0 c.requires.1 c.loop-rule-test.true) c.requires.0).head.fits)

pub overflow_add-s : goal.overflow_add-s
overflow_add-s c =
    omega (arith, (headed _ c.requires.0.sound c.requires.1).places_are, (form_known c.args.book.now).few_places)

pub overflow_mul-s : goal.overflow_mul-s
overflow_mul-s c =
    omega (arith, (next_ready _ _ _ _ c.loop-rule.invariant (more c.requires.0 c.requires.1 c.loop-rule-test.true) c.requires.0).head.fits, ends c.requires.0 c.requires.1 c.loop-rule.s c.from.ensures c.from-in-loop-rule.ensures)

pub overflow_add-s-in-loop-rule-4 : goal.overflow_add-s-in-loop-rule-4
overflow_add-s-in-loop-rule-4 c =
    omega (arith, (next_ready _ _ _ _ c.loop-rule.invariant (more c.requires.0 c.requires.1 c.loop-rule-test.true) c.requires.0).head.fits, ends c.requires.0 c.requires.1 c.loop-rule.s c.from.ensures c.from-in-loop-rule.ensures)

pub overflow_add-s-in-loop-rule-3 : goal.overflow_add-s-in-loop-rule-3
overflow_add-s-in-loop-rule-3 c =
    omega (arith, (next_ready _ _ _ _ c.loop-rule.invariant (more c.requires.0 c.requires.1 c.loop-rule-test.true) c.requires.0).head.fits, ends c.requires.0 c.requires.1 c.loop-rule.s c.from.ensures c.from-in-loop-rule.ensures)

pub loop-rule-preserved : goal.loop-rule-preserved
loop-rule-preserved c =
    rules_step _ _ _ _ c.loop-rule.invariant (more c.requires.0 c.requires.1 c.loop-rule-test.true)
    (ends c.requires.0 c.requires.1 c.loop-rule.s c.from.ensures c.from-in-loop-rule.ensures) c.put_rule-end.ensures

pub shape_of-out : goal.shape_of-out
shape_of-out c = same_room _ _ _ _ c.loop-rule.invariant

pub returns : goal.returns
returns c =
    rules_end _ _ _ _ c.loop-rule.invariant (omega (arith, (headed _ c.requires.0.sound c.requires.1).rules_are))
