-- Taking the rewritings one at a time (01, "Exploring"): "go through rules in book order, choices in theirs".
use Rattle.std.specs.Prelude.{◌≡◌, List, [], ◌∷◌, ℕ, suc, Some, None}
use Rattle.std.specs.Prelude.{Option as Answer}
use Rattle.std.proofs.Math.Option.{Option, none, some}
use Rattle.covering.specs.Term.{Question}
use Rattle.covering.specs.Record.{stored}
use Rattle.covering.specs.Buffer.{held_in, record_room}
use Rattle.covering.specs.Rule.{Rule}
use Rattle.unification.specs.Step.{next}
use Rattle.explore.specs.declared.Taken.{Taken}
use Rattle.exploration.specs.Run.{apart}

-- a rewriting with the numbers of its rule and of its choice
pub record NumberedRewriting : Type 0 where
  pub rule : ℕ
  pub choice : ℕ
  pub rewriting : Question

-- what was found for the k-th rule, else what is found later
abbrev pub or_later : ℕ → Option (ℕ × Question) → Option NumberedRewriting → Option NumberedRewriting
or_later k none later = later
or_later k (some e) later = some (record { rule = k; choice = e.0; rewriting = e.1 })

-- the first rewriting of M by these rules, the k-th one and those after it, from choice n of the k-th on
unfoldable pub next_among : Question → ℕ → ℕ → List Rule → Option NumberedRewriting
next_among M k n [] = none
next_among M k n (r ∷ rules) = or_later k (next apart r M n) (next_among M (suc k) 0 rules)

-- what the answer says of it
abbrev pub taken : Option NumberedRewriting → Answer Taken
taken none = None
taken (some e) = Some (record { rule = e.rule; choice = e.choice })

-- what the room lent for the rewriting, which came as X, then holds: its record, or X still
abbrev pub room_of : Option NumberedRewriting → List ℕ → List ℕ
room_of none X = X
room_of (some e) X = held_in stored record_room e.rewriting

-- the answer t and the room Y tell it
pub record TakenIs (o : Option NumberedRewriting) (X : List ℕ) (t : Answer Taken) (Y : List ℕ) : Type 0 where
  pub answer : t ≡ taken o
  pub room : Y ≡ room_of o X
