-- `admit::admitting::admit` meets its contract: at each return, what became of the rewriting, and that the array is in order.
use native.Mathlib.Omega.{arith}
use mathlib.Core.Path.{refl}
use Prim.Native.Nat.{◌+◌, ◌≤◌, ◌<◌}
use lib.ListN.{length}
use Rattle.covering.specs.Record.{stored, question_of}
use Rattle.covering.proofs.Lengths.{question_count}
use Rattle.covering.proofs.Begun.{begun_long}
use Rattle.covering.proofs.Padded.{sound_stored}
use Rattle.admit.proofs.Array.{stands_all}
use Rattle.admit.proofs.Beside.{lent_all}
use Rattle.admit.proofs.Finding.{covered_is}
use Rattle.admit.proofs.Fates.{fate_dropped, fate_long, fate_full, room_left, fate_appended, sets_appended}
use Rattle.admit.proofs.admitting.admit.Goals as goal

pub member_covering-covering-requires : goal.member_covering-covering-requires
member_covering-covering-requires c =
    let w = c.requires.0 in
    let l = lent_all w.few (stands_all w) c.requires.3 in
    (l.standing, c.requires.1, refl, l.sets, c.relations-there.ensures)

pub returns-then-is_some : goal.returns-then-is_some
returns-then-is_some c =
    let w = c.requires.0 in
    let l = lent_all w.few (stands_all w) c.requires.3 in
    let P = question_of stored c.args.rewriting.now in
    let h = covered_is c.args.work.now _ P l.long c.member_covering-covering.ensures.0 c.is_some.ensures in
    record { fate = fate_dropped c.args.answers c.requires.2 w P h c.if-is_some.true; stands = (w, c.requires.3) }

pub returns-then-answers-rewriting : goal.returns-then-answers-rewriting
returns-then-answers-rewriting c =
    let w = c.requires.0 in
    let l = lent_all w.few (stands_all w) c.requires.3 in
    let P = question_of stored c.args.rewriting.now in
    let h = covered_is c.args.work.now _ P l.long c.member_covering-covering.ensures.0 c.is_some.ensures in
    let long : 8 + c.args.answers < length P = omega (arith, question_count stored c.args.rewriting.now) in
    record { fate = fate_long c.args.answers c.requires.2 w P h c.if-is_some.false long; stands = (w, c.requires.3) }

pub returns-then-filled-ge-ROOM : goal.returns-then-filled-ge-ROOM
returns-then-filled-ge-ROOM c =
    let w = c.requires.0 in
    let l = lent_all w.few (stands_all w) c.requires.3 in
    let P = question_of stored c.args.rewriting.now in
    let h = covered_is c.args.work.now _ P l.long c.member_covering-covering.ensures.0 c.is_some.ensures in
    let short : length P ≤ 8 + c.args.answers = omega (arith, question_count stored c.args.rewriting.now) in
    let kept = c.remove_covered.ensures in
    record {
      fate = fate_full c.args.answers c.requires.2 w P h c.if-is_some.false short kept.0 kept.1 c.if-filled-ge-ROOM.true;
      stands = (kept.0, kept.2);
    }

pub append-filled-requires : goal.append-filled-requires
append-filled-requires c =
    let w = c.requires.0 in
    let l = lent_all w.few (stands_all w) c.requires.3 in
    let P = question_of stored c.args.rewriting.now in
    let h = covered_is c.args.work.now _ P l.long c.member_covering-covering.ensures.0 c.is_some.ensures in
    let short : length P ≤ 8 + c.args.answers = omega (arith, question_count stored c.args.rewriting.now) in
    let kept = c.remove_covered.ensures in
    let room =
    room_left c.args.answers c.requires.2 w P h c.if-is_some.false short kept.0 kept.1 (sound_stored _ c.requires.1)
    c.if-filled-ge-ROOM.false in
    (c.requires.1, omega (arith, room, begun_long stored c.args.rewriting.now, kept.0.held.size))

pub returns : goal.returns
returns c =
    let w = c.requires.0 in
    let l = lent_all w.few (stands_all w) c.requires.3 in
    let P = question_of stored c.args.rewriting.now in
    let h = covered_is c.args.work.now _ P l.long c.member_covering-covering.ensures.0 c.is_some.ensures in
    let short : length P ≤ 8 + c.args.answers = omega (arith, question_count stored c.args.rewriting.now) in
    let kept = c.remove_covered.ensures in
    let fits = sound_stored _ c.requires.1 in
    let put = c.append-filled.ensures in
    let room = c.if-filled-ge-ROOM.false in
    let fate =
    fate_appended c.args.answers c.requires.2 w P h c.if-is_some.false short kept.0 kept.1 fits room _ _ put.0 put.1 in
    let sets =
    sets_appended c.args.answers c.requires.2 w P h c.if-is_some.false short kept.0 kept.1 fits room _ _ put.0 put.1 kept.2
    c.relations-there.ensures in
    record { fate = fate; stands = (fate.1, sets) }
