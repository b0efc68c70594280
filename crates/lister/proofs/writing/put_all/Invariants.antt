-- `lister::writing::put_all` meets its contract. The loop's invariant: what is to be held is what is held already with
-- the atoms from here on, and there is room for them.
use mathlib.Core.Path.{◌≡◌}
use mathlib.Core.List.{◌++◌}
use Prim.Native.Nat.{◌+◌, ◌-◌, ◌≤◌}
use lib.ListN.{length}
use Rattle.covering.specs.Term.{on_question}
use Rattle.covering.specs.Record.{stored, atoms_at}
use Rattle.forming.specs.Building.{sub_of}
use Rattle.unify.proofs.EachTerm.{from_atom}
use Rattle.lister.proofs.writing.put_all.Given as goal

abbrev pub invariant-loop-k : goal.invariant-loop-k
invariant-loop-k l = (length l.kept + (l.n - l.k) ≤ 12)
    × (l.initial.kept ++ on_question (sub_of l.table) (atoms_at stored l.from l.i l.n)
    ≡ l.kept ++ on_question (sub_of l.table) (from_atom l.from l.i l.n l.k))
