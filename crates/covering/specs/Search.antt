-- The covering test: a search for the first map. "At each atom the search must place it on a candidate or pass on to
-- the next candidate." That it finds a map exactly where there is one, and the first when atoms are taken in order
-- and candidates in order, is proved in `proofs/Decides` and `proofs/First`.
use Rattle.std.specs.Prelude.{Bool, cond, List, [], ◌∷◌, ℕ, eqb}
use Rattle.std.proofs.Math.Option.{Option, none, some}
use Rattle.covering.specs.Lists.{is_some, bind, first_of}
use Rattle.covering.specs.Term.{Term, var, con, Atom, Question, eq_term}

-- a map of some variables
abbrev pub Part : Type 0
Part = ℕ → Option Term

abbrev pub nowhere : Part
nowhere n = none

-- p, and n goes to u
abbrev pub also : Part → ℕ → Term → Part
also p n u m = cond (eqb n m) (some u) (p m)

-- a variable goes where it went before, or, where it went nowhere yet, to u from now on
abbrev pub agree : Part → ℕ → Term → Option Term → Option Part
agree p n u none = some (also p n u)
agree p n u (some t) = cond (eq_term t u) (some p) none

abbrev pub place_term : Part → Term → Term → Option Part
place_term p (var n) u = agree p n u (p n)
place_term p (con c) u = cond (eq_term (con c) u) (some p) none

abbrev pub place_terms : Part → List Term → List Term → Option Part
place_terms p [] [] = some p
place_terms p [] (u ∷ us) = none
place_terms p (t ∷ ts) [] = none
place_terms p (t ∷ ts) (u ∷ us) = bind (place_term p t u) (λ q. place_terms q ts us)

-- "An atom goes only to one with the same relation and number of used places."
abbrev pub place_atom : Part → Atom → Atom → Option Part
place_atom p a b = let r = place_terms p a.args b.args in cond (eqb a.rel b.rel) r none

-- the atoms of A are placed on atoms of B, in order, each on the first candidate from which the rest can be placed
unfoldable pub find_map : Question → Question → Part → Option Part
find_map [] B p = some p
find_map (a ∷ A) B p = first_of (λ b. bind (place_atom p a b) (λ q. find_map A B q)) B

-- the first map that there is
unfoldable pub first_map : Question → Question → Option Part
first_map A B = find_map A B nowhere

unfoldable pub covers : Question → Question → Bool
covers A B = is_some (first_map A B)
