-- Each turn goes from a rule's start to the next one's, which is where the rule ends. Assumes nothing.
use Rattle.std.proofs.Common.{◌≡◌, ◌+◌, ◌*◌, ◌≤◌, ◌<◌, ℕ, List, length, refl, sym, ◌∙◌, ap, subst, arith}
use lib.ListN.{length-set}
use Rattle.reading.specs.declared.Header.{Header}
use Rattle.reading.specs.Word.{byte}
use Rattle.reading.specs.Header.{rules, HeaderRead, form_of, new}
use Rattle.reading.specs.Book.{rule_end, rules_start, rule_start}
use Rattle.reading.specs.Verdict.{SoundBook}
use Rattle.reading.proofs.Forms.{new_rule_end}
use Rattle.reading.proofs.After.{after_zero, after_next}
use Rattle.book.proofs.Stores.{stored_upto, stored_other, first_only, others_zero}
use Rattle.reading.proofs.SoundBook.{sound_rule, sound_header, sound_long}
use Rattle.book.proofs.starts.Goals as goal

module _ {B : List ℕ} (sound : SoundBook B) {h : Header} (r : HeaderRead B h) where
  count : h.rules ≡ rules B
  count = ap (λ (x : Header). x.rules) r.is

  start : h.start ≡ rule_start B 0
  start = ap (λ (x : Header). x.start) r.is ∙ (sound_header B sound).start_is ∙ sym (after_zero B (rules_start B))

  -- there is room for the end of a rule
  room : {k : ℕ} → k < h.rules → k + 1 < 33
  room l = omega (arith, count, (sound_header B sound).few_rules)

  -- which is where its atoms of seven bytes end, within the book, and where the next one starts
  within : form_of B ≡ new → {k s : ℕ} → k < h.rules → s ≡ rule_start B k
      → s + (2 + 7 * (byte B s + byte B (s + 1))) ≤ length B
  within new_form {k} l e =
      subst (λ (s : ℕ). s + (2 + 7 * (byte B s + byte B (s + 1))) ≤ length B) (sym e)
      (omega (arith, new_rule_end B new_form (rule_start B k), (sound_rule B sound k (omega (arith, count))).ends, (sound_header B sound).ends))

  next : form_of B ≡ new → (k : ℕ) {s x y : ℕ} → s ≡ rule_start B k → x ≡ byte B s → y ≡ byte B (s + 1)
      → s + (2 + 7 * (x + y)) ≡ rule_start B (k + 1)
  next new_form k {s} {x} {y} e is_x is_y =
      let at : s + (2 + 7 * (x + y)) ≡ rule_end B s = omega (arith, new_rule_end B new_form s) in
      at ∙ ap (rule_end B) e ∙ sym (after_next B (rules_start B) k)

pub read-h-requires : goal.read-h-requires
read-h-requires c = sound_long _ c.requires.0

pub loop-k-init : goal.loop-k-init
loop-k-init c =
    let e = start c.requires.0 c.read-h.ensures in
    (refl, e, first_only _ 32 (rule_start c.args.book.now) e, others_zero _ 32)

pub bounds-book-s : goal.bounds-book-s
bounds-book-s c =
    omega (arith, within c.requires.0 c.read-h.ensures c.requires.1 c.loop-k-test.true c.loop-k.invariant.1)

pub overflow_add-s : goal.overflow_add-s
overflow_add-s c =
    omega (arith, within c.requires.0 c.read-h.ensures c.requires.1 c.loop-k-test.true c.loop-k.invariant.1)

pub bounds-book-s-in-loop-k : goal.bounds-book-s-in-loop-k
bounds-book-s-in-loop-k c =
    omega (arith, within c.requires.0 c.read-h.ensures c.requires.1 c.loop-k-test.true c.loop-k.invariant.1)

pub overflow_add-s-in-loop-k-3 : goal.overflow_add-s-in-loop-k-3
overflow_add-s-in-loop-k-3 c =
    omega (
      arith,
      within c.requires.0 c.read-h.ensures c.requires.1 c.loop-k-test.true c.loop-k.invariant.1,
      c.from.ensures,
      c.from-in-loop-k.ensures,
    )

pub offset_bounds-at-k : goal.offset_bounds-at-k
offset_bounds-at-k c = omega (arith, room c.requires.0 c.read-h.ensures c.loop-k-test.true)

pub bounds-at-k : goal.bounds-at-k
bounds-at-k c = room c.requires.0 c.read-h.ensures c.loop-k-test.true

pub loop-k-preserved : goal.loop-k-preserved
loop-k-preserved c =
    let B = c.args.book.now in
    let here = c.loop-k in
    let end = here.s + (2 + 7 * (c.from.result + c.from-in-loop-k.result)) in
    let e = next c.requires.0 c.read-h.ensures c.requires.1 here.k here.invariant.1 c.from.ensures c.from-in-loop-k.ensures in
    let r = room c.requires.0 c.read-h.ensures c.loop-k-test.true in (
      length-set here.at (here.k + 1) end ∙ here.invariant.0,
      e,
      stored_upto here.at (here.k + 1) end (rule_start B) (omega (arith, here.invariant.0))
          (λ j m. here.invariant.2 j (omega arith)) e,
      λ j m. stored_other here.at (here.k + 1) end j (λ f. omega arith) ∙ here.invariant.3 j (omega arith),
    )

pub returns : goal.returns
returns c =
    let here = c.loop-k in
    let n = count c.requires.0 c.read-h.ensures in
    record {
      size = here.invariant.0;
      starts = λ k m. here.invariant.2 k (omega arith);
      rest = λ k m. here.invariant.3 k (omega arith);
    }
