-- `admit::removing::covers_member` meets its contract: where the rewriting's relations are not among the member's it does
-- not cover it.
use mathlib.Core.Path.{sym, ◌∙◌}
use Rattle.records.proofs.Among.{not_part}
use Rattle.admit.proofs.removing.covers_member.Goals as goal

pub returns-then-not-is_part : goal.returns-then-not-is_part
returns-then-not-is_part c =
    sym (not_part _ _ c.requires.2 c.requires.3 (sym c.is_part.ensures ∙ c.if-not-is_part.true))
