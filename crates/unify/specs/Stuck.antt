-- Atoms for which a choice that goes on has no digit: left, they make it invalid, and so they do sent to any head atom. By
-- validity's own words: in the class of an existential variable there are otherwise only question variables that occur in
-- no left atom. Over the classes σ so far and a rule r that is moved.
use Rattle.std.specs.Prelude.{◌≡◌, ◌⊎◌, T}
use Rattle.covering.specs.Lists.{◌∈◌}
use Rattle.covering.specs.Term.{Term, Atom, Sub, on_term, terms}
use Rattle.covering.specs.Rule.{Rule}
use Rattle.unification.specs.Classes.{Pair}
use Rattle.unification.specs.Choice.{place_pairs}
use Rattle.unification.specs.Step.{is_unknown}

-- the term t is in the class of an existential variable other than u
pub record TiedTo (σ : Sub) (r : Rule) (t u : Term) : Type 0 where
  pub unknown : Term
  pub in_head : unknown ∈ terms r.head
  pub it_is_unknown : T (is_unknown r unknown)
  pub same : on_term σ t ≡ on_term σ unknown
  pub other : u ≡ unknown → ⊥

-- the atom cannot be left
abbrev pub Tied : Sub → Rule → Atom → Type 0
Tied σ r a = (t : Term) × (t ∈ a.args) × TiedTo σ r t t

-- it cannot be sent to the head atom b
abbrev pub Barred : Sub → Rule → Atom → Atom → Type 0
Barred σ r a b =
    (a.rel ≡ b.rel → ⊥) ⊎ ((p : Pair) × (p ∈ place_pairs a.args b.args) × TiedTo σ r p.0 p.1)

pub record Stuck (σ : Sub) (r : Rule) (a : Atom) : Type 0 where
  pub tied : Tied σ r a
  pub barred : (b : Atom) → b ∈ r.head → Barred σ r a b
