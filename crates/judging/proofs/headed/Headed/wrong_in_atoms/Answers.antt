-- The atoms passed have no wrong byte, so the first one is the first in those left. Assumes nothing.
use Rattle.std.proofs.Common.{◌≡◌, ◌+◌, ◌*◌, ◌-◌, ◌<◌, ◌≤◌, ℕ, List, sym, ◌∙◌, ap, arith}
use Rattle.covering.specs.Lists.{or_else}
use Rattle.reading.specs.declared.Header.{Header}
use Rattle.reading.specs.Header.{atom_size}
use Rattle.reading.specs.Verdict.{told, wrong_in_atom, wrong_in_atoms}
use Rattle.judging.specs.Judged.{HeaderRight}
use Rattle.judging.proofs.JudgedHeader.{known, few_places}
use Rattle.judging.proofs.JudgingSteps.{bytes_within, handed, stops_else, passes_else, atoms_end, atoms_more}
use Rattle.judging.proofs.headed.Headed.wrong_in_atoms.Goals as goal

module _ {B : List ℕ} {h : Header} (r : HeaderRight B h) (i n k : ℕ) (l : k < n) where
  -- an atom's bytes, as the header tells its places
  sized : 1 + h.places ≡ atom_size B
  sized = ap (λ (w : ℕ). 1 + w) (known r).places_are

  -- the atom of this turn ends within those asked for
  within : i + (1 + h.places) * k + atom_size B ≤ i + atom_size B * n
  within = omega (arith, bytes_within (atom_size B) n k l, ap (λ (z : ℕ). z * k) sized)

  abbrev at : ℕ
  at = i + (1 + h.places) * k

  -- what is left from it on
  left : wrong_in_atoms B at (n - k) ≡ or_else (wrong_in_atom B at)
      (wrong_in_atoms B (i + (1 + h.places) * (k + 1)) (n - (k + 1)))
  left =
      let on : at + (1 + h.places) ≡ i + (1 + h.places) * (k + 1) = omega arith in
      atoms_more B at n k l
      ∙ ap (λ (j : ℕ). or_else (wrong_in_atom B at) (wrong_in_atoms B j (n - (k + 1))))
      (ap (λ (z : ℕ). at + z) (sym sized) ∙ on)

pub overflow_add-size : goal.overflow_add-size
overflow_add-size c = omega (arith, few_places c.args.self.right)

pub overflow_mul-size : goal.overflow_mul-size
overflow_mul-size c = omega (arith, within c.args.self.right c.args.i c.args.n c.loop-k.k c.loop-k-test.true)

pub overflow_add-i : goal.overflow_add-i
overflow_add-i c = omega (arith, within c.args.self.right c.args.i c.args.n c.loop-k.k c.loop-k-test.true)

pub wrong_in_atom-requires : goal.wrong_in_atom-requires
wrong_in_atom-requires c = omega (arith, within c.args.self.right c.args.i c.args.n c.loop-k.k c.loop-k-test.true)

pub returns-in_err-wrong_in_atom : goal.returns-in_err-wrong_in_atom
returns-in_err-wrong_in_atom c =
    let a = c.args in
    handed _ _ c.from_residual.ensures.1 (stops_else 7 _ _ _ c.in_err-wrong_in_atom.ensures)
    ∙ ap (told 7) (sym (c.loop-k.invariant ∙ left a.self.right a.i a.n c.loop-k.k c.loop-k-test.true))

pub loop-k-preserved : goal.loop-k-preserved
loop-k-preserved c =
    let a = c.args in
    c.loop-k.invariant
    ∙ left a.self.right a.i a.n c.loop-k.k c.loop-k-test.true
    ∙ passes_else 7 _ _ (omega arith) c.in_ok-wrong_in_atom.ensures

pub returns : goal.returns
returns c = ap (told 7) (sym (c.loop-k.invariant ∙ atoms_end _ _ _ _ c.loop-k-test.false))
