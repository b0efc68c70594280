-- `records::held::Held::empty` meets its contract: no atom fits.
use Rattle.records.proofs.Holding.{held_bytes, held_question, empty_fits}
use Rattle.records.proofs.held.Held.empty.Goals as goal

pub invariant_of-result : goal.invariant_of-result
invariant_of-result c = held_bytes _ _ empty_fits c.no_atoms.ensures

pub returns : goal.returns
returns c = held_question _ _ empty_fits c.no_atoms.ensures
