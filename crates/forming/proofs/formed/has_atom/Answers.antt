-- `forming::formed::has_atom` meets its contract. The loop's invariant: the atom is among them all exactly where it is
-- among those from here on.
use mathlib.Core.Path.{sym, ap, ◌∙◌}
use Rattle.covering.specs.Term.{eq_atom}
use Rattle.covering.specs.Record.{stored, atom_at}
use Rattle.forming.specs.Building.{has}
use Rattle.records.proofs.Onward.{nth_in}
use Rattle.forming.proofs.Passing.{left_start, some_none, some_hit, some_miss}
use Rattle.forming.proofs.formed.has_atom.Goals as goal

pub loop-k-init : goal.loop-k-init
loop-k-init c =
    let a = c.args in
    ap (λ A. has eq_atom A (atom_at stored a.from.now a.at)) (sym (left_start a.kept.now a.i a.n))

pub same_atom-requires : goal.same_atom-requires
same_atom-requires c = (nth_in stored _ _ _ _ c.loop-k-test.true c.requires.0, c.requires.1)

pub returns-then-same_atom : goal.returns-then-same_atom
returns-then-same_atom c =
    sym
    (c.loop-k.invariant
    ∙ some_hit _ _ _ _ c.loop-k-test.true _ (sym c.same_atom.ensures ∙ c.if-same_atom.true))

pub loop-k-preserved : goal.loop-k-preserved
loop-k-preserved c =
    c.loop-k.invariant
    ∙ some_miss _ _ _ _ c.loop-k-test.true _ (sym c.same_atom.ensures ∙ c.if-same_atom.false)

pub returns : goal.returns
returns c = sym (c.loop-k.invariant ∙ some_none _ _ _ _ c.loop-k-test.false _)
