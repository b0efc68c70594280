-- `unify::stuck::is_barred` meets its contract: the relations differ, or the places say it.
use native.Mathlib.Omega.{arith}
use mathlib.Core.Logic.{inl, inr}
use Rattle.covering.specs.Record.{atom_at}
use Rattle.covering.proofs.Bytes.{atom_used}
use Rattle.unify.specs.InBytes.{in_book}
use Rattle.unify.proofs.stuck.is_barred.Goals as goal

pub returns-then-question-i : goal.returns-then-question-i
unfolding atom_at
returns-then-question-i c = λ e. inl c.if-question-i.true

pub barred_places-requires : goal.barred_places-requires
barred_places-requires c =
    let p = c.requires in
    (p.0, omega arith, omega arith, atom_used in_book _ _ p.3)

pub returns : goal.returns
unfolding atom_at
returns c = λ e. inr (c.barred_places.ensures e)
