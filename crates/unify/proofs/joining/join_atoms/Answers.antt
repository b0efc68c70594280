-- `unify::joining::join_atoms` meets its contract: where the relations differ there are no classes, else the places
-- decide.
use native.Mathlib.Omega.{arith}
use mathlib.Core.Path.{refl, sym, ◌∙◌}
use Rattle.covering.specs.Record.{stored}
use Rattle.covering.proofs.Bytes.{atom_used}
use Rattle.unify.specs.InBytes.{in_book}
use Rattle.unify.proofs.TableBytes.{merged_no}
use Rattle.unify.proofs.Joins.{pairs_apart, pairs_meet}
use Rattle.unify.proofs.joining.join_atoms.Goals as goal

pub returns-then-question-i : goal.returns-then-question-i
returns-then-question-i c = merged_no _ _ refl ∙ sym (pairs_apart stored _ _ _ _ _ c.if-question-i.true)

pub join_places-requires : goal.join_places-requires
join_places-requires c = (omega arith, omega arith, atom_used in_book _ _ c.requires.2, c.requires.3)

pub returns : goal.returns
returns c = c.join_places.ensures ∙ sym (pairs_meet stored _ _ _ _ _ c.if-question-i.false)
