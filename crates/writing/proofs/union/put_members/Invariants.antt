-- `writing::union::put_members` meets its contract. The loop's invariant: the members passed are put.
use Rattle.writing.proofs.Members.{SoFar}
use Rattle.writing.proofs.union.put_members.Given as goal

abbrev pub invariant-loop-member : goal.invariant-loop-member
invariant-loop-member l = SoFar l.w l.answers l.work l.n l.initial.out l.out l.from l.at l._member
