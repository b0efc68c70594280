-- Questions with answer places (02, a): "a question may have one to four answer places. A leading record with relation
-- byte 255 carries their terms before the question's atoms". Such a question is asked for rows; one without answer
-- places is asked for a yes. "As source document 002 suggests, it is an atom of a relation that no rule has": so that
-- covering, steps and chains know of one kind of question alone.
use Rattle.std.specs.Prelude.{◌≡◌, cond, List, [], ◌∷◌, ℕ, eqb, length}
use Rattle.covering.specs.Lists.{◌∈◌}
use Rattle.covering.specs.Term.{Term, var, Atom, Question, terms}

-- the terms to answer with, none of them where a yes is asked for; and the question's atoms
pub record Asking : Type 0 where
  pub answer : List Term
  pub atoms : Question

-- "a relation that no rule has"
abbrev pub answer_relation : ℕ
answer_relation = 255

-- "a question may have one to four answer places", "still at most four" where atoms have six (02, i)
abbrev pub answer_most : ℕ
answer_most = 4

abbrev pub answer_atom : List Term → Atom
answer_atom ts = record { rel = answer_relation; args = ts }

-- "before the question's atoms"
abbrev pub with_answer : List Term → Question → Question
with_answer [] A = A
with_answer (t ∷ ts) A = answer_atom (t ∷ ts) ∷ A

-- the question as one conjunction
abbrev pub joined : Asking → Question
joined q = with_answer q.answer q.atoms

-- and a conjunction as a question with answer places
abbrev pub asking : Question → Asking
asking [] = record { answer = []; atoms = [] }
asking (a ∷ A) =
    cond (eqb a.rel answer_relation) (record { answer = a.args; atoms = A })
    (record { answer = []; atoms = a ∷ A })

-- how many answer records it has: one, or none
abbrev pub records : List Term → ℕ
records [] = 0
records (t ∷ ts) = 1

-- no atom is an answer record: of rules, of ledgers and of what stands after the record
abbrev pub NoRecord : Question → Type 0
NoRecord A = (a : Atom) → a ∈ A → ¬ (a.rel ≡ answer_relation)

-- every answer variable stands in an atom
abbrev pub Stands : Asking → Type 0
Stands q = (n : ℕ) → var n ∈ q.answer → var n ∈ terms q.atoms

-- a question of n answer places: its answer record, if n is not 0, comes first, there is no other, and every answer
-- variable stands in an atom
pub record Shaped (n : ℕ) (M : Question) : Type 0 where
  pub places : length (asking M).answer ≡ n
  pub is : joined (asking M) ≡ M
  pub free : NoRecord (asking M).atoms
  pub stands : Stands (asking M)
