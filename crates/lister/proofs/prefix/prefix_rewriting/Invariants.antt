-- `lister::prefix::prefix_rewriting` meets its contract. The loop's invariant (`Begun`): the atoms left and the classes
-- are those of the first j digits, and what is left of the number is the number of the others.
use Rattle.lister.proofs.FirstDigits.{Begun}
use Rattle.lister.proofs.prefix.prefix_rewriting.Given as goal

abbrev pub invariant-loop-j : goal.invariant-loop-j
invariant-loop-j l = Begun l.question l.rule.book.now l.rule.parts l.choice l.j l.rest l.left l.table
