-- `printing::put::Text::put_atom` meets its contract: five puts one after the other.
use Rattle.printing.proofs.Adding.{adds_as, then}
use Rattle.printing.proofs.Texts.{atom_text_lem}
use Rattle.printing.proofs.put.Text.put_atom.Goals as goal

pub returns : goal.returns
returns c =
    adds_as (atom_text_lem c.args.member.now c.args.i c.requires.1)
    (then c.put_relation.ensures
    (then c.put.ensures
    (then (then c.put_term.ensures c.put_terms.ensures) c.put-2.ensures)))
