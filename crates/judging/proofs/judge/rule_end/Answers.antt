-- The counts fit and are 1 to 4, and the end is no later than it may be: the parts of `rule_right`. Assumes nothing.
use Rattle.std.proofs.Common.{◌≡◌, ◌+◌, ◌*◌, ◌&&◌, ℕ, Bool, true, false, cond, List, Some, None, sym, ◌∙◌, arith, leb}
use Rattle.reading.specs.Word.{byte}
use Rattle.reading.specs.Header.{atom_places, inside, body_range, head_range}
use Rattle.reading.specs.Book.{rule_end}
use Rattle.reading.specs.Verdict.{rule_right}
use Rattle.reading.proofs.Forms.{form_known}
use Rattle.judging.proofs.JudgingSteps.{rule_short}
use Rattle.judging.proofs.judge.rule_end.Goals as goal

-- the answer by the counts b and h that were read, the tests x and y of them, and the bytes z of the atoms
module _ (B : List ℕ) (e s : ℕ) {b h w z : ℕ} {x y : Bool} (is_b : b ≡ byte B s) (is-h : h ≡ byte B (s + 1))
    (is-w : w ≡ atom_places B) (is-z : z ≡ (1 + w) * (b + h)) (is_x : x ≡ inside body_range b)
    (is_y : y ≡ inside head_range h) where
  tested : x && (y && leb (s + 2 + z) e) ≡ rule_right B e s
  unfolding rule_right
  tested = cc

  right : x && (y && leb (s + 2 + z) e) ≡ true → Some (s + 2 + z) ≡ cond (rule_right B e s) (Some (rule_end B s)) None
  right t = rw (sym tested ∙ t) (cc)

  wrong : x && (y && leb (s + 2 + z) e) ≡ false → None ≡ cond (rule_right B e s) (Some (rule_end B s)) None
  wrong t = rw (sym tested ∙ t)

pub returns-then-end-s-lt2 : goal.returns-then-end-s-lt2
returns-then-end-s-lt2 c = rw (rule_short c.args.book.now c.args.end c.args.s (omega arith))

pub atoms_size-requires : goal.atoms_size-requires
atoms_size-requires c = (omega (arith, c.requires.2, (form_known c.args.book.now).few_places), omega arith)

pub returns-then-within-e : goal.returns-then-within-e
returns-then-within-e c =
    right c.args.book.now c.args.end c.args.s c.from-b.ensures c.from-h.ensures c.requires.2
    c.atoms_size.ensures.0 c.within.ensures c.within-2.ensures c.if-within-e.true

pub returns : goal.returns
returns c =
    wrong c.args.book.now c.args.end c.args.s c.from-b.ensures c.from-h.ensures c.requires.2
    c.atoms_size.ensures.0 c.within.ensures c.within-2.ensures c.if-within-e.false
