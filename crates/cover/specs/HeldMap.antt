-- How the code holds a map of variables: a byte for each, 255 where the variable goes nowhere yet. The contracts of
-- the search's own functions are said with it; the desk's do not need it.
use Rattle.std.specs.Prelude.{◌≡◌, Bool, true, false, cond, ◌&&◌, List, ℕ, zero, suc, ◌<◌, eqb, ltb, length, get_or, set}
use Rattle.std.proofs.Math.Option.{Option, none, some}
use Rattle.covering.specs.Search.{Part}
use Rattle.covering.specs.Record.{term_of}

unfoldable pub part_of : List ℕ → Part
part_of m n = let b = get_or m n 255 in cond (eqb b 255) none (some (term_of b))

-- the byte t, where it is a variable that goes nowhere yet, goes to u from now on
unfoldable pub put : List ℕ → ℕ → ℕ → List ℕ
put m t u = cond (ltb t 96 && eqb (get_or m t 0) 255) (set m t u) m

-- the map m after the first j places of F, an atom's, were sent to those of S
unfoldable pub sent_to : List ℕ → List ℕ → List ℕ → ℕ → List ℕ
sent_to m F S zero = m
sent_to m F S (suc j) = put (sent_to m F S j) (get_or F j 0) (get_or S j 0)

-- h has, for each of the j places that is a variable, where it went just before it was sent
pub record HadBefore (m F S : List ℕ) (j : ℕ) (h : List ℕ) : Type 0 where
  pub room : length h ≡ 6
  pub had : (n : ℕ) → n < j → get_or F n 0 < 96 → get_or h n 0 ≡ get_or (sent_to m F S n) (get_or F n 0) 0

-- the last of j places taken back first: each variable of F's goes again where h has it
unfoldable pub taken_back : List ℕ → List ℕ → List ℕ → ℕ → List ℕ
taken_back m F h zero = m
taken_back m F h (suc j) =
    let t = get_or F j 0 in
    taken_back (cond (ltb t 96) (set m t (get_or h j 0)) m) F h j

-- what a search says: the map as it is now, or that there is none
abbrev pub said : Bool → List ℕ → Option Part
said true m = some (part_of m)
said false m = none

-- a search for o, lent the map `came`: "yes with the map found, or no with the map as it came"
pub record Searched (o : Option Part) (came left : List ℕ) (r : Bool) : Type 0 where
  pub finds : said r left ≡ o
  pub back : r ≡ false → left ≡ came
  pub long : length left ≡ length came
