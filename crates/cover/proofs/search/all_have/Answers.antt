-- `cover::search::all_have` meets its contract. The loop's invariant: all atoms have a candidate exactly where those
-- from here on have, and these are sound.
use native.Mathlib.Omega.{arith}
use native.Mathlib.Nat.{sub-zero}
use mathlib.Core.Path.{◌≡◌, refl, sym, ap, ap₂, subst, ◌∙◌}
use mathlib.Core.Bool.{Bool}
use mathlib.Core.List.{List}
use Prim.Native.Nat.{ℕ, ◌+◌, ◌*◌, ◌-◌, ◌/◌}
use lib.Dec.{T}
use lib.ListN.{length, take, drop, length-take, length-drop}
use Rattle.covering.specs.Lists.{all}
use Rattle.covering.specs.Term.{Atom}
use Rattle.covering.specs.Record.{stored, atom_at, atoms_at, are_atoms, question_of}
use Rattle.covering.proofs.EachAtom.{each_none, each_fails, each_passes}
use Rattle.covering.proofs.Places.{sound_more}
use Rattle.cover.specs.HeldMap.{part_of}
use Rattle.cover.specs.Candidates.{has_candidate}
use Rattle.cover.specs.Rest.{atoms_of}
use Rattle.cover.proofs.Parts.{first_part, first_is}
use Rattle.cover.proofs.search.all_have.Goals as goal

-- the next atom, lent by itself
lent : (f : Atom → Bool) (B : List ℕ) (n : ℕ) {r : Bool}
    → r ≡ f (atom_at stored (take (n * 7 + 7 - n * 7) (drop (n * 7) B)) 0) → f (atom_at stored B (n * 7)) ≡ r
lent f B n e = ap f (sym (first_part B (n * 7) (n * 7 + 7 - n * 7) (omega arith))) ∙ sym e

pub loop-n-init : goal.loop-n-init
unfolding atoms_of
loop-n-init c = (rw sub-zero c.requires.0.sound, rw sub-zero refl)

pub has_candidate-requires : goal.has_candidate-requires
has_candidate-requires c =
    let l = c.loop-n in
    let B = c.args.rest.now in (
      omega (arith, length-take {A = ℕ}, length-drop (l.n * 7) B),
      subst T (sym (first_is B (l.n * 7) (l.n * 7 + 7 - l.n * 7) (omega arith)))
          (sound_more stored _ _ _ (omega arith) l.invariant.0).0,
      c.requires.1,
    )

pub returns-then-not-has_candidate : goal.returns-then-not-has_candidate
returns-then-not-has_candidate c =
    sym
    (c.loop-n.invariant.1
    ∙ each_fails stored _ _ _ _ (omega arith)
    (lent (has_candidate _ _) c.args.rest.now c.loop-n.n c.has_candidate.ensures ∙ c.if-not-has_candidate.true))

pub loop-n-preserved : goal.loop-n-preserved
loop-n-preserved c =
    let n = c.loop-n.n in
    let B = c.args.rest.now in
    let left = length B / 7 in (
      subst T (ap₂ (are_atoms stored B) (omega arith) (omega arith))
          (sound_more stored _ _ _ (omega arith) c.loop-n.invariant.0).1,
      c.loop-n.invariant.1
          ∙ each_passes stored _ _ _ _ (omega arith)
          (lent (has_candidate _ _) B n c.has_candidate.ensures ∙ c.if-not-has_candidate.false)
          ∙ ap (all (has_candidate (part_of c.args.map.now) (question_of stored c.args.second.now)))
          (ap₂ (atoms_at stored B) (omega arith) (omega arith)),
    )

pub returns : goal.returns
returns c = sym (c.loop-n.invariant.1 ∙ each_none stored _ _ _ _ (omega arith))
