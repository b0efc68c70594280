-- The atoms of the rules passed have no wrong byte, so the first one is the first in those left. Assumes nothing.
use Rattle.std.proofs.Common.{◌≡◌, ◌+◌, ◌*◌, ◌-◌, ◌<◌, ℕ, List, sym, ◌∙◌, ap, arith}
use Rattle.std.proofs.Math.Option.{none}
use Rattle.reading.specs.declared.Header.{Header}
use Rattle.reading.specs.Word.{byte}
use Rattle.reading.specs.Header.{atom_size}
use Rattle.reading.specs.Book.{body_count, head_count, rule_end}
use Rattle.reading.specs.Verdict.{told, wrong_rule, wrong_in_atoms, wrong_in_rules}
use Rattle.judging.specs.Judged.{HeaderRight}
use Rattle.judging.proofs.JudgedHeader.{known, few_places}
use Rattle.judging.proofs.JudgingSteps.{handed, stops_else, passes_else, NextRule, next_rule, bytes_end, bytes_more}
use Rattle.judging.proofs.headed.Headed.wrong_in_rules.Goals as goal

-- the rule of a turn, at s, by the counts x and y that were read
module _ {B : List ℕ} {h : Header} (r : HeaderRight B h) (e s n k : ℕ) (l : k < n)
    (right : wrong_rule B e s (n - k) ≡ none)
  where
    rule : NextRule B e s (n - (k + 1))
    rule = next_rule B e s n k l right

    module _ {x y : ℕ} (is_x : x ≡ byte B s) (is_y : y ≡ byte B (s + 1)) where
      counted : x + y ≡ body_count B s + head_count B s
      counted = omega arith

      atoms : told 7 (wrong_in_atoms B (s + 2) (x + y))
          ≡ told 7 (wrong_in_atoms B (s + 2) (body_count B s + head_count B s))
      atoms = ap (λ (m : ℕ). told 7 (wrong_in_atoms B (s + 2) m)) counted

      -- where it ends, as the code finds it
      ends : s + 2 + atom_size B * (x + y) ≡ rule_end B s
      ends = ap (λ (m : ℕ). s + 2 + atom_size B * m) counted

      next : {z : ℕ} → z ≡ (1 + h.places) * (x + y) → s + (2 + z) ≡ rule_end B s
      next is = omega (arith, ends, ap (λ (w : ℕ). (1 + w) * (x + y)) (known r).places_are)

pub bounds-book-s : goal.bounds-book-s
bounds-book-s c =
    let a = c.args in
    let r = rule a.self.right a.end c.loop-rule.s a.n c.loop-rule._rule c.loop-rule-test.true c.loop-rule.invariant.0 in
    omega (arith, r.ends)

pub overflow_add-s : goal.overflow_add-s
overflow_add-s c =
    let a = c.args in
    let r = rule a.self.right a.end c.loop-rule.s a.n c.loop-rule._rule c.loop-rule-test.true c.loop-rule.invariant.0 in
    omega (arith, r.ends)

pub bounds-book-s-in-loop-rule : goal.bounds-book-s-in-loop-rule
bounds-book-s-in-loop-rule c =
    let a = c.args in
    let r = rule a.self.right a.end c.loop-rule.s a.n c.loop-rule._rule c.loop-rule-test.true c.loop-rule.invariant.0 in
    omega (arith, r.ends)

pub overflow_add-s-in-loop-rule : goal.overflow_add-s-in-loop-rule
overflow_add-s-in-loop-rule c =
    let a = c.args in
    let r = rule a.self.right a.end c.loop-rule.s a.n c.loop-rule._rule c.loop-rule-test.true c.loop-rule.invariant.0 in
    omega (arith, r.ends)

pub wrong_in_atoms-requires : goal.wrong_in_atoms-requires
wrong_in_atoms-requires c =
    let a = c.args in
    let r = rule a.self.right a.end c.loop-rule.s a.n c.loop-rule._rule c.loop-rule-test.true c.loop-rule.invariant.0 in
    let e = ends a.self.right a.end c.loop-rule.s a.n c.loop-rule._rule c.loop-rule-test.true c.loop-rule.invariant.0
    c.from.ensures c.from-in-loop-rule.ensures in
    omega (arith, r.ends, e)

pub returns-in_err-wrong_in_atoms : goal.returns-in_err-wrong_in_atoms
returns-in_err-wrong_in_atoms c =
    let a = c.args in
    let d = atoms a.self.right a.end c.loop-rule.s a.n c.loop-rule._rule c.loop-rule-test.true c.loop-rule.invariant.0
    c.from.ensures c.from-in-loop-rule.ensures in
    handed _ _ c.from_residual.ensures.1 (stops_else 7 _ _ _ (c.in_err-wrong_in_atoms.ensures ∙ d))
    ∙ ap (told 7) (sym (c.loop-rule.invariant.1 ∙ bytes_more _ _ _ _ c.loop-rule-test.true))

pub atoms_size-requires : goal.atoms_size-requires
atoms_size-requires c = (few_places c.args.self.right, omega arith)

pub overflow_add-s-in-loop-rule-3 : goal.overflow_add-s-in-loop-rule-3
overflow_add-s-in-loop-rule-3 c =
    let a = c.args in
    let r = rule a.self.right a.end c.loop-rule.s a.n c.loop-rule._rule c.loop-rule-test.true c.loop-rule.invariant.0 in
    let e = next a.self.right a.end c.loop-rule.s a.n c.loop-rule._rule c.loop-rule-test.true c.loop-rule.invariant.0
    c.from.ensures c.from-in-loop-rule.ensures c.atoms_size.ensures.0 in
    omega (arith, r.ends, e)

pub loop-rule-preserved : goal.loop-rule-preserved
loop-rule-preserved c =
    let a = c.args in
    let B = a.self.book.now in
    let d = atoms a.self.right a.end c.loop-rule.s a.n c.loop-rule._rule c.loop-rule-test.true c.loop-rule.invariant.0
    c.from.ensures c.from-in-loop-rule.ensures in
    let r = rule a.self.right a.end c.loop-rule.s a.n c.loop-rule._rule c.loop-rule-test.true c.loop-rule.invariant.0 in
    let on = next a.self.right a.end c.loop-rule.s a.n c.loop-rule._rule c.loop-rule-test.true c.loop-rule.invariant.0
    c.from.ensures c.from-in-loop-rule.ensures c.atoms_size.ensures.0 in (
      ap (λ (s : ℕ). wrong_rule B a.end s (a.n - (c.loop-rule._rule + 1))) on ∙ r.rest,
      c.loop-rule.invariant.1
          ∙ bytes_more _ _ _ _ c.loop-rule-test.true
          ∙ passes_else 7 _ _ (omega arith) (c.in_ok-wrong_in_atoms.ensures ∙ d)
          ∙ ap (λ (s : ℕ). wrong_in_rules B s (a.n - (c.loop-rule._rule + 1))) (sym on),
    )

pub returns : goal.returns
returns c = ap (told 7) (sym (c.loop-rule.invariant.1 ∙ bytes_end _ _ _ _ c.loop-rule-test.false))
