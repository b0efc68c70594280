-- Existential variables of a rule, which "one in the head only" is. What may be said of every choice at once is said by
-- whether there are any.
use Rattle.std.specs.Prelude.{Bool}
use Rattle.covering.specs.Lists.{any}
use Rattle.covering.specs.Term.{terms}
use Rattle.covering.specs.Rule.{Rule}
use Rattle.unification.specs.Step.{is_unknown}

unfoldable pub has_unknowns : Rule → Bool
has_unknowns r = any (is_unknown r) (terms r.head)
