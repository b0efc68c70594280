-- `records::held::no_atoms` meets its contract: a count of 0 and then 255 alone is a record of no atoms.
use mathlib.Core.Path.{refl}
use Rattle.covering.specs.Record.{record_bytes}
use Rattle.covering.specs.Buffer.{held_in}
use Rattle.records.proofs.held.no_atoms.Goals as goal

pub returns : goal.returns
unfolding held_in record_bytes
returns c = refl
