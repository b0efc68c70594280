-- `explore::skipping::prefix_covered` meets its contract: where the digits cannot be sent the answer is no, else whether
-- the question that they settle is covered.
use mathlib.Core.Path.{◌∙◌, ap}
use Rattle.covering.specs.Search.{covers}
use Rattle.exploration.specs.Run.{covered}
use Rattle.explore.proofs.PassedOver.{unmet_covered, met_covered}
use Rattle.explore.proofs.skipping.prefix_covered.Goals as goal

pub covers-requires : goal.covers-requires
covers-requires c = c.question.invariant.sound

pub returns-in_default : goal.returns-in_default
returns-in_default c = unmet_covered c.prefix_rewriting-settled.ensures _ c.in_default.is

pub returns : goal.returns
returns c =
    met_covered c.prefix_rewriting-settled.ensures c.in-Some.is _ _
    (c.covers.ensures ∙ ap (λ X. covered covers X c.args.members.now.members) c.question.view_is)
