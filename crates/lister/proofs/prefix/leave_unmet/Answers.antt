-- `lister::prefix::leave_unmet` meets its contract. The loop's invariant: the atoms left so far, and those from the j-th on
-- that no head atom can meet, are what is to be left.
use native.Mathlib.Omega.{arith}
use mathlib.Core.Path.{refl, sym, ◌∙◌, subst}
use Rattle.lister.proofs.Unmet.{atom_in, Leaving, leaving_more, leaving_same, leaving_done}
use Rattle.lister.proofs.prefix.leave_unmet.Goals as goal
use Rattle.lister.proofs.prefix.leave_unmet.Goals.{then-unmet, else-unmet}

pub bounds-question-0 : goal.bounds-question-0
bounds-question-0 c = omega (arith, c.requires.0.atoms.fits)

pub loop-j-init : goal.loop-j-init
loop-j-init c = record { inside = c.requires.3; few = c.requires.2; is = refl }

pub overflow_mul-at : goal.overflow_mul-at
overflow_mul-at c = omega (arith, c.from-n.ensures, c.requires.0.few)

pub overflow_add-at : goal.overflow_add-at
overflow_add-at c = omega (arith, c.from-n.ensures, c.requires.0.few)

pub bounds-question-at : goal.bounds-question-at
bounds-question-at c = omega (arith, c.from-n.ensures, c.requires.0.atoms.fits)

pub add_atom-requires : goal.add_atom-requires
add_atom-requires c = (
  omega (arith, c.from-n.ensures, c.loop-j.invariant.few, c.requires.0.few),
  atom_in c.requires.0 (omega (arith, c.from-n.ensures)),
)

pub loop-j-preserved : goal.loop-j-preserved
loop-j-preserved c =
    let u = c.is_unmet-unmet.ensures in
    let l = c.loop-j.invariant in
    elim c.if-unmet.branch [
      | then-unmet w ↦
          subst (Leaving _ _ _ _) (sym w.left-is)
          (leaving_more l (omega (arith, c.from-n.ensures)) (sym u ∙ w.if-unmet.true) w.add_atom.ensures)
      | else-unmet w ↦
          subst (Leaving _ _ _ _) (sym w.left-is)
          (leaving_same l (omega (arith, c.from-n.ensures)) (sym u ∙ w.if-unmet.false))
    ]

pub returns : goal.returns
returns c = leaving_done c.loop-j.invariant (omega (arith, c.from-n.ensures, c.requires.3))
