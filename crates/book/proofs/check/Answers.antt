-- Each test stands for its refusal, in the order of the numbers. Assumes nothing.
use Rattle.std.proofs.Common.{◌≡◌, ◌≤◌, ℕ, List, Bool, false, length, ltb, sym, ◌∙◌, ap}
use borrow.Author.Tests.{ltb-true, ltb-false}
use Rattle.covering.proofs.Tests.{true→T}
use Rattle.reading.specs.declared.Header.{Header}
use Rattle.reading.specs.Header.{header_size, header_of, HeaderRead}
use Rattle.reading.specs.Verdict.{in_table, offsets_right}
use Rattle.judging.proofs.JudgingSteps.{verdict_two, verdict_three, verdict_four, verdict_contents}
use Rattle.book.proofs.check.Goals as goal

module _ (B : List ℕ) {b : Bool} where
  -- it has the bytes of its header
  long : b ≡ ltb (length B) (header_size B) → b ≡ false → header_size B ≤ length B
  long e f = ltb-false (length B) (header_size B) (sym e ∙ f)

  module _ {h : Header} (r : HeaderRead B h) {t : Bool} where
    table_is : t ≡ in_table h → t ≡ b → in_table (header_of B) ≡ b
    table_is e f = ap in_table (sym r.is) ∙ sym e ∙ f

    offsets_are : t ≡ offsets_right h (length B) → t ≡ b → offsets_right (header_of B) (length B) ≡ b
    offsets_are e f = ap (λ (x : Header). offsets_right x (length B)) (sym r.is) ∙ sym e ∙ f

pub returns-then-is_short : goal.returns-then-is_short
returns-then-is_short c =
    let B = c.args.book.now in
    sym (verdict_two B (ltb-true (length B) (header_size B) (sym c.is_short.ensures ∙ c.if-is_short.true)))

pub read-h-requires : goal.read-h-requires
read-h-requires c = long c.args.book.now c.is_short.ensures c.if-is_short.false

pub returns-then-not-in_table : goal.returns-then-not-in_table
returns-then-not-in_table c =
    let B = c.args.book.now in
    let l = long B c.is_short.ensures c.if-is_short.false in
    sym (verdict_three B l (table_is B c.read-h.ensures c.in_table.ensures c.if-not-in_table.true))

pub offsets_right-requires : goal.offsets_right-requires
offsets_right-requires c =
    let r = c.read-h.ensures in
    (rw r.is r.relations_fit, rw r.is r.atoms_fit, rw r.is r.question_fits)

pub returns-then-not-offsets_right : goal.returns-then-not-offsets_right
returns-then-not-offsets_right c =
    let B = c.args.book.now in
    let r = c.read-h.ensures in
    let l = long B c.is_short.ensures c.if-is_short.false in
    let t = table_is B r c.in_table.ensures c.if-not-in_table.false in
    sym (verdict_four B l t (offsets_are B r c.offsets_right.ensures c.if-not-offsets_right.true))

pub contents-requires : goal.contents-requires
contents-requires c =
    let B = c.args.book.now in
    let r = c.read-h.ensures in
    record {
      is = r.is;
      table = true→T _ (table_is B r c.in_table.ensures c.if-not-in_table.false);
      offsets = true→T _ (offsets_are B r c.offsets_right.ensures c.if-not-offsets_right.false);
      question_fits = r.question_fits;
    }

pub returns : goal.returns
returns c =
    let B = c.args.book.now in
    let r = c.read-h.ensures in
    let l = long B c.is_short.ensures c.if-is_short.false in
    let t = table_is B r c.in_table.ensures c.if-not-in_table.false in
    c.contents.ensures
    ∙ sym (verdict_contents B l t (offsets_are B r c.offsets_right.ensures c.if-not-offsets_right.false))
