-- `Members::admit` meets its contract: what became of the rewriting in the array, said of the union in it.
use Rattle.covering.specs.Record.{stored, question_of}
use Rattle.exploration.specs.Run.{limits_for}
use Rattle.admit.proofs.Fates.{union_fate}
use Rattle.admit.proofs.members.Members.admit.Goals as goal

pub returns : goal.returns
returns c =
    let was = c.self.inside in
    let now = c.admit.new in
    let P = question_of stored c.args.rewriting.now in
    union_fate (limits_for c.args.answers) was.work was.filled P now.work now.filled _ _ c.self.view_is c.admit.ensures.fate
