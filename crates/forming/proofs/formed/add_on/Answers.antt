-- `forming::formed::add_on` meets its contract: an atom that fits is put where there is room.
use borrow.Author.Rules.{rules}
use mathlib.Core.Path.{◌≡◌, ap, ◌∙◌}
use mathlib.Core.List.{[], ◌∷◌, ◌++◌}
use lib.ListN.{length}
use Rattle.covering.specs.Term.{on_atom}
use Rattle.covering.specs.Record.{stored, atom_at}
use Rattle.forming.specs.Building.{sub_of}
use Rattle.records.proofs.Holding.{held_bytes, held_question, held_room, held_fits, more_fits}
use Rattle.forming.proofs.formed.add_on.Goals as goal

pub put_on-requires : goal.put_on-requires
put_on-requires c =
    let p = c.requires in
    let long : length c.args.table.now ≡ 96 = search rules in
    (held_room _ c.kept.invariant (rw c.kept.view_is p.0), long, p.1, p.2)

pub invariant_of-kept : goal.invariant_of-kept
invariant_of-kept c =
    let p = c.requires in
    held_bytes _ _ (more_fits _ _ (held_fits _ c.kept.invariant) (rw c.kept.view_is p.0) p.2) c.put_on.ensures

pub returns : goal.returns
returns c =
    let p = c.requires in
    held_question _ _ (more_fits _ _ (held_fits _ c.kept.invariant) (rw c.kept.view_is p.0) p.2) c.put_on.ensures
    ∙ ap (λ A. A ++ on_atom (sub_of c.args.table.now) (atom_at stored c.args.from.now c.args.at) ∷ []) c.kept.view_is
