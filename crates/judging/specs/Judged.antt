-- What the functions that judge a book's parts know already of the parts before. The contract of `check` does not
-- need it.
use Rattle.std.specs.Prelude.{◌≡◌, cond, List, ℕ, ◌<◌, T, length}
use Rattle.std.proofs.Math.Option.{Option, none}
use Rattle.reading.specs.declared.Header.{Header}
use Rattle.reading.specs.Header.{rules, question_at, header_of, announced}
use Rattle.reading.specs.Book.{rules_start}
use Rattle.reading.specs.Verdict.{in_table, offsets_right, wrong_rule, wrong_answer}

-- of a book that refusals 2 to 4 do not hit: its header
pub record HeaderRight (B : List ℕ) (h : Header) : Type 0 where
  pub is : h ≡ header_of B
  pub table : T (in_table (header_of B))
  pub offsets : T (offsets_right (header_of B) (length B))
  pub question_fits : question_at B < 65536

-- and whose rules are right
abbrev pub RulesRight : List ℕ → Type 0
RulesRight B = wrong_rule B (question_at B) (rules_start B) (rules B) ≡ none

-- 7 in the answer record of a book that has one
abbrev pub wrong_record : List ℕ → Option ℕ
wrong_record B = cond (announced B) (wrong_answer B (question_at B)) none
