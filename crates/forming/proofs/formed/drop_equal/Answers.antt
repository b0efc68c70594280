-- `forming::formed::drop_equal` meets its contract. The loop's invariant: dropping equal atoms is adding those from
-- here on to those kept, each unless it is there, and there are no more than twelve in all.
use native.Mathlib.Omega.{arith}
use mathlib.Core.Path.{sym, ap, ◌∙◌}
use mathlib.Core.List.{[]}
use Prim.Native.Nat.{◌<◌}
use lib.ListN.{get_or}
use Rattle.covering.specs.Term.{eq_atom}
use Rattle.covering.specs.Form.{dedup}
use Rattle.covering.specs.Record.{stored}
use Rattle.covering.proofs.Within.{sound_in}
use Rattle.records.proofs.Onward.{nth, nth_in}
use Rattle.forming.specs.Building.{added_all}
use Rattle.forming.proofs.Leftward.{dedup_leftward, added_length}
use Rattle.forming.proofs.Passing.{question_left, added_done, added_next}
use Rattle.forming.proofs.formed.drop_equal.Goals as goal

pub loop-k-init : goal.loop-k-init
loop-k-init c =
    let B = c.member.inside.bytes.now in
    rw c.empty-kept.ensures record {
      room = omega (arith, c.member.invariant.most);
      dropped = dedup_leftward _ ∙ ap (added_all eq_atom []) (question_left B);
    }

pub put_new-requires : goal.put_new-requires
put_new-requires c =
    let B = c.member.inside.bytes.now in
    let lt : c.loop-k.k < get_or B 0 0 = omega (arith, c.from-n.ensures) in
    (omega (arith, c.loop-k.invariant.room), nth_in stored B 1 _ _ lt (sound_in stored B c.member.invariant))

pub loop-k-preserved : goal.loop-k-preserved
loop-k-preserved c =
    let B = c.member.inside.bytes.now in
    let k = c.loop-k.k in
    let lt : k < get_or B 0 0 = omega (arith, c.from-n.ensures) in
    rw c.put_new.ensures record {
      room = omega (arith, c.loop-k.invariant.room, added_length eq_atom c.loop-k.kept (nth stored B 1 k));
      dropped = c.loop-k.invariant.dropped ∙ added_next B 1 _ k lt c.loop-k.kept;
    }

pub returns : goal.returns
returns c =
    let s = c.loop-k.invariant in
    sym (ap dedup (sym c.member.view_is) ∙ s.dropped ∙ added_done _ _ _ _ (omega (arith, c.from-n.ensures)) _)
