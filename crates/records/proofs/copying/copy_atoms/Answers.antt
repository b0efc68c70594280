-- `records::copying::copy_atoms` meets its contract. The loop's invariant: the atoms passed are put.
use native.Mathlib.Omega.{arith}
use Rattle.covering.specs.Record.{holding}
use Rattle.records.proofs.AtomsPut.{none_put, one_put, next_room}
use Rattle.records.proofs.Onward.{nth_in, nth_among}
use Rattle.records.proofs.copying.copy_atoms.Goals as goal

pub loop-k-init : goal.loop-k-init
loop-k-init c = none_put _ _ _ _ _ _ (omega arith)

pub copy_atom-end-requires : goal.copy_atom-end-requires
copy_atom-end-requires c =
    let r = c.requires in
    let lt = c.loop-k-test.true in
    let a = nth_in (holding c.args.w) _ c.args.i _ _ lt r.0 in (
      a.sound,
      omega (arith, a.fits),
      r.1 _ (nth_among (holding c.args.w) _ c.args.i _ _ lt),
      next_room _ _ _ _ _ _ _ c.loop-k.invariant _ lt r.2,
    )

pub loop-k-preserved : goal.loop-k-preserved
loop-k-preserved c = one_put _ _ _ _ _ _ _ c.loop-k.invariant c.copy_atom-end.ensures
