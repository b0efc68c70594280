-- When a book is refused (01, "Refusal numbers"; 02, a): for each of the numbers 2 to 7 and 11 what "number n applies
-- at place p" says, in the table's words. A place is an offset from the book's first byte.
use Rattle.std.specs.Prelude.{◌≡◌, Bool, cond, ◌&&◌, ◌||◌, List, ℕ, zero, suc, ◌+◌, ◌*◌, ◌-◌, ◌<◌, ◌≤◌, T, eqb, ltb, leb, length}
use Rattle.covering.specs.Lists.{◌∈◌}
use Rattle.covering.specs.Term.{var, terms}
use Rattle.covering.specs.Asking.{answer_relation, answer_most}
use Rattle.covering.specs.Record.{new_places}
use Rattle.reading.specs.Word.{byte}
use Rattle.reading.specs.Header.{header_size, relations, constants, rules, atoms, allowed, relations_at, rules_at}
use Rattle.reading.specs.Header.{question_at, Outside, relations_range, constants_range, rules_range, total_word}
use Rattle.reading.specs.Header.{atoms_range, allowed_range, places_range, body_range, head_range, atom_size}
use Rattle.reading.specs.Header.{tenth_word, is_new, form_of, atom_places, variables, end_without, end_with}
use Rattle.reading.specs.Header.{announced, question_atoms_at}
use Rattle.reading.specs.Book.{body_count, head_count, body_at, head_at, rule_end, rule_start, places_of, question_atoms}

-- 2: "book under 18 bytes"; "2 for a new book under 20 bytes" (02, i). A byte past the end reads as 0, so that a book
-- under 12 bytes has a form too: it is under 18 bytes in either.
abbrev pub Short : List ℕ → Type 0
Short B = length B < header_size B

-- 3: "P, C, R, N or L outside the table"; "3 for a tenth word other than 6" (02, i)
pub data OutsideTable (B : List ℕ) : Type 0 where
  relations_out : Outside relations_range (relations B) → OutsideTable B
  constants_out : Outside constants_range (constants B) → OutsideTable B
  rules_out : Outside rules_range (rules B) → OutsideTable B
  atoms_out : Outside atoms_range (atoms B) → OutsideTable B
  allowed_out : Outside allowed_range (allowed B) → OutsideTable B
  tenth_not : T (is_new B) → (tenth_word B ≡ new_places → ⊥) → OutsideTable B

-- 4: "relations' offset not 18; rules' offset not 18 + P; question's offset below the rules'; total not question's
-- offset + 5N; total not the book's length". "A total five larger announces" an answer record, so the fourth part is
-- that the total is neither. In the new form 18 is 20, and five is seven. The sums are of natural numbers, not cut to
-- 16 bits.
pub data OffsetWrong (B : List ℕ) : Type 0 where
  relations_not : (relations_at B ≡ header_size B → ⊥) → OffsetWrong B
  rules_not : (rules_at B ≡ header_size B + relations B → ⊥) → OffsetWrong B
  question_below : question_at B < rules_at B → OffsetWrong B
  total_not : (total_word B ≡ end_without (form_of B) (question_at B) (atoms B) → ⊥)
      → (total_word B ≡ end_with (form_of B) (question_at B) (atoms B) → ⊥) → OffsetWrong B
  length_not : (total_word B ≡ length B → ⊥) → OffsetWrong B

-- 5: "a relation's places not 1 to 4", or 1 to 6 in the new form, at "that byte"
pub record PlacesWrong (B : List ℕ) (p : ℕ) : Type 0 where
  pub relation : ℕ
  pub below : relation < relations B
  pub at : p ≡ header_size B + relation
  pub wrong : Outside (places_range (form_of B)) (places_of B relation)

-- 6: "a rule's counts not 1 to 4, or the rule runs past the question's offset", at "the rule's first byte"; "or the
-- rules end before that offset", at "where they end". "A rule whose two count bytes don't both fit runs past": it ends
-- two bytes after its start at the least, whatever stands there.
pub data RuleWrong (B : List ℕ) (p : ℕ) : Type 0 where
  the_body_count : (k : ℕ) → k < rules B → p ≡ rule_start B k → Outside body_range (body_count B p) → RuleWrong B p
  the_head_count : (k : ℕ) → k < rules B → p ≡ rule_start B k → Outside head_range (head_count B p) → RuleWrong B p
  runs_past : (k : ℕ) → k < rules B → p ≡ rule_start B k → question_at B < rule_end B p → RuleWrong B p
  end_before : p ≡ rule_start B (rules B) → p < question_at B → RuleWrong B p

-- where the atoms of the book stand: in bodies, in heads and in the question
pub data AtomOf (B : List ℕ) (i : ℕ) : Type 0 where
  in_body : (k j : ℕ) → k < rules B → j < body_count B (rule_start B k)
      → i ≡ body_at B (rule_start B k) + atom_size B * j → AtomOf B i
  in_head : (k j : ℕ) → k < rules B → j < head_count B (rule_start B k)
      → i ≡ head_at B (rule_start B k) + atom_size B * j → AtomOf B i
  in_question : (j : ℕ) → j < atoms B → i ≡ question_atoms_at B + atom_size B * j → AtomOf B i

-- "A used place holds 0 to 31 for a variable or 128 to 127 + C for a constant; an unused place holds 255." Of k
-- variables the last is k - 1.
abbrev pub used_allowed : ℕ → ℕ → ℕ → Bool
used_allowed k C b = ltb b k || (leb 128 b && ltb b (128 + C))

abbrev pub place_allowed : ℕ → ℕ → Bool → ℕ → Bool
place_allowed k C used b = cond used (used_allowed k C b) (eqb b 255)

-- 7: "a relation number or place byte not allowed", at "that byte": here of the atom at i. The relation says how many
-- places are used, so of an atom with a bad relation number that byte alone is judged.
pub data AtomWrong (B : List ℕ) (i p : ℕ) : Type 0 where
  relation : relations B ≤ byte B i → p ≡ i → AtomWrong B i p
  place : byte B i < relations B → (w : ℕ) → w < atom_places B → p ≡ i + 1 + w
      → (T (place_allowed (variables B) (constants B) (ltb w (places_of B (byte B i))) (byte B p)) → ⊥)
      → AtomWrong B i p

-- The answer record at i: "used places first and at least one used", "but still at most four answer places" (02, i). So
-- the first place is used, and the next ones up to the first 255 are, of the first four alone.
unfoldable pub used_places : List ℕ → ℕ → ℕ → ℕ
used_places B i zero = 0
used_places B i (suc n) = let r = suc (used_places B (i + 1) n) in cond (eqb (byte B i) 255) 0 r

abbrev pub answer_places : List ℕ → ℕ → ℕ
answer_places B i = suc (used_places B (i + 2) (answer_most - 1))

-- 7 "for its bytes": the relation byte is 255, and its places are allowed as a question atom's are
pub data AnswerWrong (B : List ℕ) (p : ℕ) : Type 0 where
  relation : T (announced B) → (byte B (question_at B) ≡ answer_relation → ⊥) → p ≡ question_at B → AnswerWrong B p
  place : T (announced B) → (w : ℕ) → w < atom_places B → p ≡ question_at B + 1 + w
      → (T (place_allowed (variables B) (constants B) (ltb w (answer_places B (question_at B))) (byte B p)) → ⊥)
      → AnswerWrong B p

pub data ByteWrong (B : List ℕ) (p : ℕ) : Type 0 where
  in_atom : (i : ℕ) → AtomOf B i → AtomWrong B i p → ByteWrong B p
  in_answer : AnswerWrong B p → ByteWrong B p

-- 11: "an answer variable in no question atom, .. place its byte"
pub record LooseVariable (B : List ℕ) (p : ℕ) : Type 0 where
  pub announces : T (announced B)
  pub place : ℕ
  pub below : place < atom_places B
  pub at : p ≡ question_at B + 1 + place
  pub variable : byte B p < variables B
  pub nowhere : var (byte B p) ∈ terms (question_atoms B) → ⊥

-- "| no. | when | place |"
pub data ApplicableToBook (B : List ℕ) : ℕ → ℕ → Type 0 where
  two : Short B → ApplicableToBook B 2 0
  three : OutsideTable B → ApplicableToBook B 3 0
  four : OffsetWrong B → ApplicableToBook B 4 0
  five : {p : ℕ} → PlacesWrong B p → ApplicableToBook B 5 p
  six : {p : ℕ} → RuleWrong B p → ApplicableToBook B 6 p
  seven : {p : ℕ} → ByteWrong B p → ApplicableToBook B 7 p
  eleven : {p : ℕ} → LooseVariable B p → ApplicableToBook B 11 p
