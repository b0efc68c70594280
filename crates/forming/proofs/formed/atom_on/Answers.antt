-- `forming::formed::atom_on` meets its contract. The loop's invariant: the bytes passed are those of the atom on the
-- table.
use native.Mathlib.Omega.{arith}
use mathlib.Core.Path.{refl, sym, ◌∙◌}
use borrow.Author.Count.{below_more}
use lib.ListN.{length-set}
use lib.Seq.{ext_get_or}
use Rattle.covering.specs.Term.{on_atom}
use Rattle.covering.specs.Record.{stored, atom_at, atom_bytes}
use Rattle.forming.specs.Building.{sub_of}
use Rattle.covering.proofs.Lengths.{atom_long}
use Rattle.covering.proofs.RoundTrip.{stored_apart}
use Rattle.forming.proofs.AtomBytes.{place_byte, atom_on_relation, atom_on_place, set_agrees}
use Rattle.forming.proofs.formed.atom_on.Goals as goal

pub loop-j-init : goal.loop-j-init
loop-j-init c =
    (refl, below_more _ 0 (λ m h. absurd (omega arith)) (sym (atom_on_relation stored stored_apart _ _ _)))

pub replaced-requires : goal.replaced-requires
replaced-requires c = (c.requires.0, place_byte _ _ c.loop-j.j c.requires.1.sound (omega arith) (omega arith))

pub loop-j-preserved : goal.loop-j-preserved
loop-j-preserved c =
    let a = c.args in
    let atom = on_atom (sub_of a.table.now) (atom_at stored a.from.now a.at) in (
      simp length-set c.loop-j.invariant.0,
      set_agrees c.loop-j.atom (atom_bytes stored atom) c.loop-j.j _ (omega arith) c.loop-j.invariant.1
          (c.replaced.ensures
          ∙ sym (atom_on_place stored stored_apart _ _ _ c.loop-j.j c.requires.1.sound (omega arith) (omega arith))),
    )

pub returns : goal.returns
returns c =
    ext_get_or 0 _ _ (c.loop-j.invariant.0 ∙ sym (atom_long stored _)) (λ m lt. c.loop-j.invariant.1 m (omega arith))
