-- What the lister is asked and what it answers, as the code holds it. The contract of `next` needs `FoundIs`
-- and what is asked of the rule and the question; the others are the functions' own.
use Rattle.std.specs.Prelude.{◌≡◌, Bool, true, List, ℕ, suc, ◌+◌, ◌*◌, ◌≤◌, ◌<◌, length, get_or, Some, None}
use Rattle.std.specs.Prelude.{Option as Answer}
use Rattle.std.proofs.Math.Option.{Option, none, some}
use Rattle.covering.specs.Lists.{◌∈◌}
use Rattle.covering.specs.Term.{Term, Atom, Question}
use Rattle.covering.specs.Record.{stored, AtomFits, TermFits}
use Rattle.covering.specs.Buffer.{held_in, AtomsIn, record_room}
use Rattle.book.specs.declared.Parts.{Parts}
use Rattle.lister.specs.Counts.{most_choices}
use Rattle.lister.specs.Leaving.{left_by, any_sent}
use Rattle.unification.specs.Choice.{count}
use Rattle.unify.specs.InBytes.{in_book, classes_of}

-- what an answer says: the choice's number, or nothing
abbrev pub found_of : Option (ℕ × Question) → Answer ℕ
found_of none = None
found_of (some e) = Some e.0

-- what the room lent for the rewriting, which came as X, then holds: its record, or X still
abbrev pub room_of : Option (ℕ × Question) → List ℕ → List ℕ
room_of none X = X
room_of (some e) X = held_in stored record_room e.1

-- the answer r and the room Y tell what was sought
pub record FoundIs (sought : Option (ℕ × Question)) (X : List ℕ) (r : Answer ℕ) (Y : List ℕ) : Type 0 where
  pub answer : r ≡ found_of sought
  pub room : Y ≡ room_of sought X

-- a rule of a sound book: sound atoms, one to four in its head and at most four in its body
pub record RuleIn (B : List ℕ) (p : Parts) : Type 0 where
  pub body : AtomsIn in_book B p.body p.bodies
  pub head : AtomsIn in_book B p.head p.heads
  pub few_body : p.bodies ≤ 4
  pub some_head : 1 ≤ p.heads
  pub few_head : p.heads ≤ 4

-- a question of at most eight sound atoms and an answer record
pub record QuestionIn (Q : List ℕ) : Type 0 where
  pub atoms : AtomsIn in_book Q 1 (get_or Q 0 0)
  pub few : get_or Q 0 0 ≤ 9

-- the atoms left so far are sound atoms, as the question's are
pub record LeftIn (A : Question) : Type 0 where
  pub each : (a : Atom) → a ∈ A → AtomFits in_book a

-- what stands for a class fits a record
abbrev pub ClassesFit : List ℕ → Type 0
ClassesFit table = (t : Term) → t ∈ classes_of table → TermFits stored t

-- what stands for the rule's variables, moved down again
pub record UpperHalf (table upper : List ℕ) : Type 0 where
  pub moved : (n : ℕ) → n < 48 → get_or upper n 0 ≡ get_or table (n + 48) 0
  pub others : (n : ℕ) → 48 ≤ n → get_or upper n 0 ≡ get_or table n 0
  pub size : length upper ≡ length table

-- what the builder is given: the `more` atoms of Q from i on are to get a digit; the choice's number so far; whether
-- some atom was sent; the atoms left and the classes so far. There is room: nine atoms in all, and one less once one
-- was sent.
pub record Asks (Q B : List ℕ) (p : Parts) (i more number : ℕ) (sent : Bool) (A : Question) (table : List ℕ) : Type 0 where
  pub atoms : AtomsIn in_book Q i more
  pub rule : RuleIn B p
  pub left : LeftIn A
  pub few : length A + more ≤ 9
  pub fewer : sent ≡ true → length A + more ≤ 8
  pub small : suc number * count p.heads more ≤ most_choices
  pub size : length table ≡ 96
  pub classes : ClassesFit table

-- the same as the code holds it: the atoms passed, and those of them that are sent by a bit for each
pub record Builds (Q B : List ℕ) (p : Parts) (passed more number sent : ℕ) (table : List ℕ) : Type 0 where
  pub asks : Asks Q B p (1 + passed * 7) more number (any_sent sent) (left_by Q passed sent) table
  pub all : passed + more ≡ get_or Q 0 0
  pub bits : sent ≤ number
