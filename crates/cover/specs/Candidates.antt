-- How the search goes from candidate to candidate, in the words of its own functions. That the look-ahead changes no
-- answer, and that the first map is that of the first candidate of the first atom that serves, is in `proofs/Ahead`.
use Rattle.std.specs.Prelude.{Bool, true, false, not, ◌&&◌, [], ◌∷◌}
use Rattle.std.proofs.Math.Option.{Option, some}
use Rattle.covering.specs.Lists.{any, is_some, bind, first_of}
use Rattle.covering.specs.Term.{Term, var, con, Atom, Question, terms, eq_term}
use Rattle.covering.specs.Search.{Part, place_atom, find_map}
use Rattle.cover.specs.declared.search.Tried.{Tried}
use Rattle.cover.specs.declared.search.Tried.TheVariants.{Apart, Placed, Met}

-- the atom a is placed on b, and A after it
unfoldable pub placed_on : Atom → Question → Question → Part → Atom → Option Part
placed_on a A B p b = bind (place_atom p a b) (find_map A B)

-- the same of A's first atom, where it has one: what is asked of one candidate at a time
unfoldable pub found_on : Question → Question → Part → Atom → Option Part
found_on [] B p b = some p
found_on (a ∷ A) B p b = placed_on a A B p b

-- the next atom a is tried on the candidates C, one after the other; A is left after it
unfoldable pub tried : Atom → Question → Question → Question → Part → Option Part
tried a A B C p = first_of (placed_on a A B p) C

-- the atom has a candidate in B: one that it can be placed on, as the map is now
unfoldable pub has_candidate : Part → Question → Atom → Bool
has_candidate p B a = any (λ b. is_some (place_atom p a b)) B

-- a term that is a variable which goes nowhere yet
abbrev pub new_to : Part → Term → Bool
new_to p (var n) = not (is_some (p n))
new_to p (con c) = false

-- the atom a brings the atoms A something new: such a variable that stands in them
unfoldable pub leads_on : Part → Atom → Question → Bool
leads_on p a A = any (λ t. new_to p t && any (eq_term t) (terms A)) a.args

-- what became of a candidate: the atom and those after it are placed
abbrev pub is_placed : Tried → Bool
is_placed Apart = false
is_placed Placed = true
is_placed Met = false

-- the atom meets it, and those after it cannot be placed
abbrev pub is_met : Tried → Bool
is_met Apart = false
is_met Placed = false
is_met Met = true
