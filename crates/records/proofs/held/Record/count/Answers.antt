-- `records::held::Record::count` meets its contract: a record has as many atoms as its count byte says.
use mathlib.Core.Path.{ap, sym, ◌∙◌}
use Rattle.std.proofs.Common.{length}
use Rattle.covering.specs.Record.{stored}
use Rattle.covering.proofs.Lengths.{question_count}
use Rattle.records.proofs.held.Record.count.Goals as goal

pub returns : goal.returns
returns c = sym (question_count stored _) ∙ ap length c.self.view_is
