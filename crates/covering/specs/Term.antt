-- Terms, atoms, questions and what a substitution does to them (01, "Words"). Nothing here knows of bytes, of four
-- places or of 64 variables: numbers are natural numbers, and lists are as long as they are.
use Rattle.std.specs.Prelude.{Bool, true, false, ◌&&◌, List, [], ◌∷◌, ◌++◌, map, ℕ, ◌<◌, eqb}
use Rattle.covering.specs.Lists.{◌∈◌}

-- "A term is a variable or a constant."
pub data Term : Type 0 where
  var : ℕ → Term
  con : ℕ → Term

-- "An atom is a relation with one to four terms." How many there may be is the record's matter (`Record`).
pub record Atom : Type 0 where
  pub rel : ℕ
  pub args : List Term

-- "Question, body and head are conjunctions." Facts are such lists too, with a constant for a named thing.
abbrev pub Question : Type 0
Question = List Atom

-- all terms of a question, as they stand
abbrev pub terms : Question → List Term
terms [] = []
terms (a ∷ A) = a.args ++ terms A

-- all variables of a question are below k
abbrev pub Below : ℕ → Question → Type 0
Below k A = (n : ℕ) → var n ∈ terms A → n < k

-- "some map of A's variables to B's terms, constants fixed"
abbrev pub Sub : Type 0
Sub = ℕ → Term

abbrev pub on_term : Sub → Term → Term
on_term s (var n) = s n
on_term s (con c) = con c

abbrev pub on_atom : Sub → Atom → Atom
on_atom s a = record { rel = a.rel; args = map (on_term s) a.args }

abbrev pub on_question : Sub → Question → Question
on_question s A = map (on_atom s) A

-- first r, then s
abbrev pub comp : Sub → Sub → Sub
comp s r n = on_term s (r n)

-- whether two terms, two lists of terms, two atoms are the same
abbrev pub eq_term : Term → Term → Bool
eq_term (var m) (var n) = eqb m n
eq_term (var m) (con d) = false
eq_term (con c) (var n) = false
eq_term (con c) (con d) = eqb c d

abbrev pub eq_terms : List Term → List Term → Bool
eq_terms [] [] = true
eq_terms [] (u ∷ us) = false
eq_terms (t ∷ ts) [] = false
eq_terms (t ∷ ts) (u ∷ us) = eq_term t u && eq_terms ts us

abbrev pub eq_atom : Atom → Atom → Bool
eq_atom a b = eqb a.rel b.rel && eq_terms a.args b.args

abbrev pub is_var : Term → Bool
is_var (var n) = true
is_var (con c) = false
