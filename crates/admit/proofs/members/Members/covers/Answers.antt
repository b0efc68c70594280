-- `Members::covers` meets its contract: a member covers the question where the number of one is found.
use mathlib.Core.Path.{refl, ap, ◌∙◌}
use Rattle.covering.specs.Search.{covers}
use Rattle.covering.specs.Record.{stored, question_of}
use Rattle.exploration.specs.Run.{State, covered}
use Rattle.admit.proofs.Array.{stands_all}
use Rattle.admit.proofs.Beside.{lent_all}
use Rattle.admit.proofs.Finding.{covered_is}
use Rattle.admit.proofs.members.Members.covers.Goals as goal

pub member_covering-requires : goal.member_covering-requires
member_covering-requires c =
    let w = c.self.invariant.0 in
    let l = lent_all w.few (stands_all w) c.self.invariant.1 in
    (l.standing, c.requires, refl, l.sets, c.relations-there.ensures)

pub returns : goal.returns
returns c =
    let w = c.self.invariant.0 in
    let l = lent_all w.few (stands_all w) c.self.invariant.1 in
    let P = question_of stored c.args.question.now in
    covered_is c.self.inside.work _ P l.long c.member_covering.ensures.0 c.is_some.ensures
    ∙ ap (λ (s : State). covered covers P s.members) c.self.view_is
