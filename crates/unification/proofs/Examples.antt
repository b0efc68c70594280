-- Every starred example that is a one-step rewriting holds, by computation.
use mathlib.Core.Path.{◌≡◌, refl}
use mathlib.Core.List.{map}
use Rattle.covering.specs.Form.{form}
use Rattle.unification.specs.Step.{step, listed}
use Rattle.unification.specs.Examples.{starred, from_sources, other_relation, asked}

pub starred_hold : map (λ e. listed 32 e.rule e.question) starred ≡ map (λ e. e.listing) starred
unfolding starred listed step form
starred_hold = refl

pub sources_hold : map (λ e. listed 32 e.rule e.question) from_sources
    ≡ map (λ e. e.listing) from_sources
unfolding from_sources listed step form
sources_hold = refl

pub relations_agree : listed 32 other_relation.rule other_relation.question ≡ other_relation.listing
unfolding listed step form
relations_agree = refl

pub asked_hold : map (λ e. listed 32 e.rule e.question) asked ≡ map (λ e. e.listing) asked
unfolding asked listed step form
asked_hold = refl
