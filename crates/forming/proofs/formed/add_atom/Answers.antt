-- `forming::formed::add_atom` meets its contract: an atom that fits is put where there is room.
use native.Mathlib.Omega.{arith}
use mathlib.Core.Path.{ap, ◌∙◌}
use mathlib.Core.List.{[], ◌∷◌, ◌++◌}
use Rattle.covering.specs.Record.{stored, atom_at}
use Rattle.covering.proofs.RoundTrip.{stored_apart}
use Rattle.covering.proofs.Fitting.{atom_fits}
use Rattle.records.proofs.Holding.{held_bytes, held_question, held_room, held_fits, more_fits}
use Rattle.forming.proofs.formed.add_atom.Goals as goal

pub put_atom-requires : goal.put_atom-requires
put_atom-requires c = (held_room _ c.kept.invariant (rw c.kept.view_is c.requires.0), c.requires.1)

pub invariant_of-kept : goal.invariant_of-kept
invariant_of-kept c =
    let fits = atom_fits stored stored_apart _ (omega arith) _ c.requires.1.sound in
    held_bytes _ _ (more_fits _ _ (held_fits _ c.kept.invariant) (rw c.kept.view_is c.requires.0) fits) c.put_atom.ensures

pub returns : goal.returns
returns c =
    let fits = atom_fits stored stored_apart _ (omega arith) _ c.requires.1.sound in
    held_question _ _ (more_fits _ _ (held_fits _ c.kept.invariant) (rw c.kept.view_is c.requires.0) fits) c.put_atom.ensures
    ∙ ap (λ A. A ++ atom_at stored c.args.from.now c.args.at ∷ []) c.kept.view_is
