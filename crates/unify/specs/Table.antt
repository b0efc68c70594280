-- The classes in a table, as the code keeps them: at each variable's number the term that stands for its class.
use Rattle.std.specs.Prelude.{cond, List, [], ◌∷◌, map, ℕ, zero, suc, eqb, get_or}
use Rattle.std.proofs.Math.Option.{Option, none, some}
use Rattle.covering.specs.Lists.{bind}
use Rattle.covering.specs.Term.{Term, var, con, Sub}
use Rattle.unification.specs.Classes.{Pair, point}

abbrev pub Table : Type 0
Table = List Term

-- each of n variables, from i on, in a class of its own
abbrev pub own : ℕ → ℕ → Table
own i zero = []
own i (suc n) = var i ∷ own (suc i) n

abbrev pub look : Table → Term → Term
look m (var n) = get_or m n (var n)
look m (con c) = con c

-- the classes that a table holds
abbrev pub tabled : Table → Sub
tabled m n = get_or m n (var n)

-- what stood for the one class is replaced by what stands for the other, in the whole table
abbrev pub join_table : Table → Term → Term → Option Table
join_table m (var v) (var w) = some (map (point v (var w)) m)
join_table m (var v) (con d) = some (map (point v (con d)) m)
join_table m (con c) (var w) = some (map (point w (con c)) m)
join_table m (con c) (con d) = cond (eqb c d) (some m) none

abbrev pub unify_table : List Pair → Table → Option Table
unify_table [] m = some m
unify_table (p ∷ ps) m = bind (join_table m (look m p.0) (look m p.1)) (λ n. unify_table ps n)
