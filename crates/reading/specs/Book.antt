-- What a stored book says (01, "Stored book"): the decoding has a value for every list of bytes. When it is to be
-- believed is the matter of `Refusals` and `Verdict`.
use Rattle.std.specs.Prelude.{cond, List, [], ◌∷◌, ℕ, zero, suc, ◌+◌, ◌*◌, take, drop}
use Rattle.covering.specs.Term.{Question}
use Rattle.covering.specs.Asking.{Asking}
use Rattle.covering.specs.Record.{Layout, holding, args_at, atoms_at}
use Rattle.covering.specs.Rule.{Rule}
use Rattle.reading.specs.Word.{byte}
use Rattle.reading.specs.Header.{header_size, relations, constants, rules, atoms, allowed, question_at, atom_size}
use Rattle.reading.specs.Header.{atoms_range, atom_places, variables, announced, answer_records, question_atoms_at}

pub record Book : Type 0 where
  -- the number of places of each relation
  pub places : List ℕ
  pub constants : ℕ
  pub rules : List Rule
  -- with its answer places, if it has any
  pub question : Asking
  pub allowed : ℕ

-- "A rule: two bytes, the body's and the head's atom counts, .., then body atoms, then head atoms."
abbrev pub body_count : List ℕ → ℕ → ℕ
body_count B s = byte B s

abbrev pub head_count : List ℕ → ℕ → ℕ
head_count B s = byte B (s + 1)

abbrev pub body_at : List ℕ → ℕ → ℕ
body_at B s = s + 2

abbrev pub head_at : List ℕ → ℕ → ℕ
head_at B s = s + 2 + atom_size B * body_count B s

-- where the rule at s ends
abbrev pub rule_end : List ℕ → ℕ → ℕ
rule_end B s = s + 2 + atom_size B * (body_count B s + head_count B s)

unfoldable pub rule_at : List ℕ → ℕ → Rule
rule_at B s =
    record {
      body = atoms_at (holding (atom_places B)) B (body_at B s) (body_count B s);
      head = atoms_at (holding (atom_places B)) B (head_at B s) (head_count B s);
    }

-- n rules, one after the other, from s on: the rules, and where they end
unfoldable pub rules_from : List ℕ → ℕ → ℕ → List Rule
rules_from B s zero = []
rules_from B s (suc n) = rule_at B s ∷ rules_from B (rule_end B s) n

unfoldable pub after : List ℕ → ℕ → ℕ → ℕ
after B s zero = s
after B s (suc n) = after B (rule_end B s) n

-- "The offsets are 18, 18 + P, and wherever the rules end."; "relations at 20" (02, i)
abbrev pub rules_start : List ℕ → ℕ
rules_start B = header_size B + relations B

-- where rule k starts; at k = R, where the rules end
abbrev pub rule_start : List ℕ → ℕ → ℕ
rule_start B k = after B (rules_start B) k

-- the number of places of relation r
abbrev pub places_of : List ℕ → ℕ → ℕ
places_of B r = byte B (header_size B + r)

-- the question's atoms, "used places first" of the record before them, if there is one
abbrev pub question_atoms : List ℕ → Question
question_atoms B = atoms_at (holding (atom_places B)) B (question_atoms_at B) (atoms B)

unfoldable pub question_in : List ℕ → Asking
question_in B =
    record {
      answer = cond (announced B) (args_at B (question_at B + 1) (atom_places B)) [];
      atoms = question_atoms B;
    }

unfoldable pub book_of : List ℕ → Book
book_of B =
    record {
      places = take (relations B) (drop (header_size B) B);
      constants = constants B;
      rules = rules_from B (rules_start B) (rules B);
      question = question_in B;
      allowed = allowed B;
    }

-- what the atoms of this book keep to, its answer record among them
abbrev pub layout_of : List ℕ → Layout
layout_of B =
    record {
      atoms = atoms_range.most + answer_records B;
      relations = relations B;
      answers = announced B;
      places = atom_places B;
      variables = variables B;
      constants = constants B;
    }
