-- When no choice that goes on from a prefix is valid, as the code tells: by the classes σ, a rule r that is moved, the atoms
-- left L, and those to come.
use Rattle.std.specs.Prelude.{◌≡◌, false, ◌⊎◌}
use Rattle.covering.specs.Lists.{◌∈◌}
use Rattle.covering.specs.Term.{Atom, Question, Sub}
use Rattle.covering.specs.Rule.{Rule}
use Rattle.unification.specs.Step.{valid}
use Rattle.unify.specs.Stuck.{Stuck}

-- one of them can get no digit
abbrev pub SomeStuck : Sub → Rule → Question → Type 0
SomeStuck σ r q = (a : Atom) × (a ∈ q) × Stuck σ r a

-- or the prefix is not valid already
abbrev pub Hopeless : Sub → Rule → Question → Question → Type 0
Hopeless σ r L q = (valid σ L r ≡ false) ⊎ SomeStuck σ r q
