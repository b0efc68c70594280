-- `forming::formed::put_on` meets its contract: the atom's bytes on the table are put after the record's own.
use mathlib.Core.Path.{ap, ◌∙◌}
use mathlib.Core.List.{[], ◌∷◌, ◌++◌}
use Rattle.covering.specs.Record.{stored, question_of}
use Rattle.covering.specs.Buffer.{held_in, record_room}
use Rattle.covering.proofs.RoundTrip.{stored_apart}
use Rattle.forming.proofs.AtomBytes.{bytes_in}
use Rattle.forming.proofs.formed.put_on.Goals as goal

pub atom_on-atom-requires : goal.atom_on-atom-requires
atom_on-atom-requires c = let p = c.requires in (p.1, p.2)

pub put_atom-requires : goal.put_atom-requires
put_atom-requires c =
    let p = c.requires in
    (p.0, (bytes_in stored stored_apart _ _ p.3 c.atom_on-atom.ensures).0)

pub shape_of-kept : goal.shape_of-kept
shape_of-kept c = c.put_atom.auto.kept

pub returns : goal.returns
returns c =
    c.put_atom.ensures
    ∙ ap
    (λ a. held_in stored record_room (question_of stored c.args.kept.now ++ a ∷ []))
    (bytes_in stored stored_apart _ _ c.requires.3 c.atom_on-atom.ensures).1
