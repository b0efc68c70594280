-- `lister::writing::put_all` meets its contract. The loop's invariant: what is to be held is what is held already with
-- the atoms from here on, and there is room for them.
use borrow.Author.Rules.{rules}
use native.Mathlib.Omega.{arith}
use mathlib.Core.Path.{◌≡◌, refl, sym, ap, ◌∙◌}
use Prim.Native.Nat.{◌+◌, ◌*◌}
use lib.ListN.{length}
use Rattle.covering.specs.Term.{on_atom}
use Rattle.covering.specs.Record.{stored, atom_at}
use Rattle.forming.specs.Building.{sub_of}
use Rattle.unify.proofs.EachTerm.{from_first}
use Rattle.lister.proofs.LeftAtoms.{one_more}
use Rattle.lister.proofs.RewritingBytes.{nth_in, first_fits, first_atom_in, atom_on, put_none, put_more}
use Rattle.lister.proofs.writing.put_all.Goals as goal

pub loop-k-init : goal.loop-k-init
loop-k-init c =
    let a = c.args in
    (omega (arith, c.requires.0), rw (from_first a.from.now a.i a.n) refl)

pub add_on-requires : goal.add_on-requires
add_on-requires c =
    let a = c.args in
    let long : length a.table.now ≡ 96 = search rules in
    let one = nth_in a.from.now a.i a.n c.loop-k.k c.requires.1 (omega arith) in (
      omega (arith, c.loop-k.invariant.0),
      first_atom_in _ _ _ one (omega arith),
      atom_on a.table.now c.requires.2 long _ (first_fits _ _ _ one (omega arith)),
    )

pub loop-k-preserved : goal.loop-k-preserved
loop-k-preserved c =
    let a = c.args in
    let l = c.loop-k in
    let s = sub_of a.table.now in
    let count = one_more l.kept (on_atom s (atom_at stored a.from.now (a.i + l.k * 7))) in (
      omega (arith, l.invariant.0, ap length c.add_on.ensures, count),
      l.invariant.1 ∙ put_more s l.kept _ _ _ _ l.k (omega arith) c.add_on.ensures,
    )

pub returns : goal.returns
returns c =
    let l = c.loop-k in
    sym (l.invariant.1 ∙ put_none _ _ _ _ _ l.k (omega arith))
