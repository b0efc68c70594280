-- What covering is (01, "Words").
use Rattle.std.specs.Prelude.{◌≡◌, map}
use Rattle.covering.specs.Lists.{◌∈◌}
use Rattle.covering.specs.Term.{Atom, Question, Sub, on_term, on_atom}
use Rattle.covering.specs.Asking.{Asking}

-- "sends every atom of A to an atom of B"
abbrev pub Sends : Sub → Question → Question → Type 0
Sends s A B = (a : Atom) → a ∈ A → on_atom s a ∈ B

-- "A covers B if some map of A's variables to B's terms, constants fixed, sends every atom of A to an atom of B.
-- Two variables may go to one term."
pub record Covers (A B : Question) : Type 0 where
  pub by : Sub
  pub sends : Sends by A B

-- "Two questions are equivalent if each covers the other."
abbrev pub Equivalent : Question → Question → Type 0
Equivalent A B = Covers A B × Covers B A

-- With answer places (02, a): "covering must send it to the other's", term for term. So where "only one does", have
-- them, or one has more of them, "covering is no".
pub record CoversAsking (p q : Asking) : Type 0 where
  pub by : Sub
  pub answers : map (on_term by) p.answer ≡ q.answer
  pub sends : Sends by p.atoms q.atoms
