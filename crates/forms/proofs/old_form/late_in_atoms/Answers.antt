-- The atoms passed have no variable above 31, so the first is the first in those left. Assumes nothing.
use Rattle.std.proofs.Common.{◌≡◌, ◌+◌, ◌*◌, ◌-◌, ◌<◌, ℕ, List, sym, ◌∙◌, ap, arith}
use Rattle.covering.specs.Lists.{or_else}
use Rattle.reading.specs.Header.{atom_places, atom_size}
use Rattle.reading.specs.Verdict.{told}
use Rattle.reading.specs.Copy.{late_from, late_in_atoms}
use Rattle.judging.proofs.JudgingSteps.{handed, stops_else, passes_else}
use Rattle.forms.proofs.LateSteps.{atoms_end, atoms_more}
use Rattle.forms.proofs.old_form.late_in_atoms.Goals as goal

module _ (B : List ℕ) {w : ℕ} (is_w : w ≡ atom_places B) (i n k : ℕ) (l : k < n) where
  abbrev at : ℕ
  at = i + (1 + w) * k

  -- what is left from the atom of this turn on, and what is found in it
  left : late_in_atoms B at (n - k)
      ≡ or_else (late_from B (at + 1) w) (late_in_atoms B (i + (1 + w) * (k + 1)) (n - (k + 1)))
  left =
      let on : at + atom_size B ≡ i + (1 + w) * (k + 1) = omega arith in
      atoms_more B at n k l
      ∙ ap (λ (j : ℕ). or_else (late_from B (at + 1) (atom_places B)) (late_in_atoms B j (n - (k + 1)))) on
      ∙ ap (λ (v : ℕ). or_else (late_from B (at + 1) v) (late_in_atoms B (i + (1 + w) * (k + 1)) (n - (k + 1)))) (sym is_w)

pub returns-in_err-late_from : goal.returns-in_err-late_from
returns-in_err-late_from c =
    let a = c.args in
    handed _ _ c.from_residual.ensures.1 (stops_else 13 _ _ _ c.in_err-late_from.ensures)
    ∙ ap (told 13) (sym (c.loop-k.invariant ∙ left a.book.now c.requires.0 a.i a.n c.loop-k.k c.loop-k-test.true))

pub loop-k-preserved : goal.loop-k-preserved
loop-k-preserved c =
    let a = c.args in
    c.loop-k.invariant
    ∙ left a.book.now c.requires.0 a.i a.n c.loop-k.k c.loop-k-test.true
    ∙ passes_else 13 _ _ (omega arith) c.in_ok-late_from.ensures

pub returns : goal.returns
returns c = ap (told 13) (sym (c.loop-k.invariant ∙ atoms_end _ _ _ _ c.loop-k-test.false))
