-- `forming::formed::put_new` meets its contract: an atom that is there leaves the record as it is, any other is put.
use mathlib.Core.Path.{sym, ◌∙◌}
use Rattle.covering.specs.Term.{eq_atom}
use Rattle.covering.specs.Record.{question_of}
use Rattle.forming.proofs.Leftward.{added_old, added_new}
use Rattle.forming.proofs.formed.put_new.Goals as goal

pub returns-then-not-has_atom : goal.returns-then-not-has_atom
unfolding question_of
returns-then-not-has_atom c =
    let told = rw (c.from-n.ensures, c.kept.view_is) at c.has_atom.ensures in
    c.add_atom.ensures ∙ sym (added_new eq_atom _ _ (sym told ∙ c.if-not-has_atom.true))

pub returns-else-not-has_atom : goal.returns-else-not-has_atom
unfolding question_of
returns-else-not-has_atom c =
    let told = rw (c.from-n.ensures, c.kept.view_is) at c.has_atom.ensures in
    sym (added_old eq_atom _ _ (sym told ∙ c.if-not-has_atom.false))
