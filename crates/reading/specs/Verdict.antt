-- What becomes of a book (01, "Refusal numbers"): "The smallest applicable number among 1 to 7 wins, and within it the
-- earliest place."; 11 comes "after 7 and before 8" (02, a). First as a statement over the conditions of `Refusals`,
-- then as a computation. That the computation meets the statement, for every list of bytes, is proved in
-- `proofs/Exact`.
use Rattle.std.specs.Prelude.{◌≡◌, Bool, cond, not, ◌&&◌, ◌||◌, ◌⊎◌, List, ℕ, zero, suc, ◌+◌, ◌<◌, ◌≤◌, eqb, ltb, leb, length}
use Rattle.std.proofs.Math.Option.{Option, none, some}
use Rattle.covering.specs.Lists.{any, or_else}
use Rattle.covering.specs.Term.{var, Question, terms, eq_term}
use Rattle.covering.specs.Asking.{answer_relation}
use Rattle.reading.specs.declared.Header.{Header}
use Rattle.reading.specs.Refusal.{Refusal}
use Rattle.reading.specs.Word.{byte}
use Rattle.reading.specs.Header.{header_size, relations, constants, rules, atoms, question_at, header_of, inside}
use Rattle.reading.specs.Header.{relations_range, constants_range, rules_range, atoms_range, allowed_range}
use Rattle.reading.specs.Header.{places_range, body_range, head_range, atom_size, atom_places, variables}
use Rattle.reading.specs.Header.{BookForm, form_for, form_of, end_without, end_with, announced, question_atoms_at}
use Rattle.reading.specs.Book.{body_count, head_count, body_at, rule_end, rules_start, places_of, question_atoms}
use Rattle.reading.specs.Refusals.{place_allowed, answer_places, ApplicableToBook}

-- "0 means complete"; of the book alone, that nothing is wrong with it
abbrev pub accepted : Refusal
accepted = record { number = 0; place = 0 }

-- number n at place p comes no later than number m at place q
abbrev pub NoLater : Refusal → ℕ → ℕ → Type 0
NoLater r m q = (r.number < m) ⊎ ((r.number ≡ m) × (r.place ≤ q))

-- "The smallest applicable number .. wins, and within it the earliest place."
pub data IsVerdict (B : List ℕ) (r : Refusal) : Type 0 where
  sound : r ≡ accepted → ((n p : ℕ) → ApplicableToBook B n p → ⊥) → IsVerdict B r
  refused : ApplicableToBook B r.number r.place → ((m q : ℕ) → ApplicableToBook B m q → NoLater r m q)
      → IsVerdict B r

-- the place i, where the test is not passed
abbrev pub unless : Bool → ℕ → Option ℕ
unless b i = cond b none (some i)

-- the form of a book with this header
abbrev pub form_in : Header → BookForm
form_in h = form_for h.table

-- 3: "P, C, R, N or L outside the table"; "a tenth word other than 6"
unfoldable pub in_table : Header → Bool
in_table h =
    inside relations_range h.relations
    && (inside constants_range h.constants
    && (inside rules_range h.rules
    && (inside atoms_range h.atoms && (inside allowed_range h.allowed && eqb h.places (form_in h).places))))

-- 4: the total is one of the two, without an answer record and with one
abbrev pub total_right : Header → Bool
total_right h =
    eqb h.total (end_without (form_in h) h.question h.atoms)
    || eqb h.total (end_with (form_in h) h.question h.atoms)

-- of a book of so many bytes: the five parts of the table's line, in its order
unfoldable pub offsets_right : Header → ℕ → Bool
offsets_right h size =
    eqb h.table (form_in h).header
    && (eqb h.start ((form_in h).header + h.relations)
    && (leb h.start h.question && (total_right h && eqb h.total size)))

-- 5: the first wrong byte among the n from i on
unfoldable pub wrong_places : List ℕ → ℕ → ℕ → Option ℕ
wrong_places B i zero = none
wrong_places B i (suc n) =
    let r = wrong_places B (i + 1) n in or_else (unless (inside (places_range (form_of B)) (byte B i)) i) r

-- 6: the rule at s has its counts and ends no later than e
unfoldable pub rule_right : List ℕ → ℕ → ℕ → Bool
rule_right B e s =
    inside body_range (body_count B s) && (inside head_range (head_count B s) && leb (rule_end B s) e)

-- the first wrong rule among the n from s on, or where they end, if that is before e
unfoldable pub wrong_rule : List ℕ → ℕ → ℕ → ℕ → Option ℕ
wrong_rule B e s zero = unless (leb e s) s
wrong_rule B e s (suc n) = let r = wrong_rule B e (rule_end B s) n in or_else (unless (rule_right B e s) s) r

-- 7: the first wrong byte among the n places from place w on, of an atom whose places start at i, u of them used
unfoldable pub wrong_place : List ℕ → ℕ → ℕ → ℕ → ℕ → Option ℕ
wrong_place B u i w zero = none
wrong_place B u i w (suc n) =
    let r = wrong_place B u i (w + 1) n in
    or_else (unless (place_allowed (variables B) (constants B) (ltb w u) (byte B (i + w))) (i + w)) r

-- in the atom at i
unfoldable pub wrong_in_atom : List ℕ → ℕ → Option ℕ
wrong_in_atom B i =
    let r = wrong_place B (places_of B (byte B i)) (i + 1) 0 (atom_places B) in
    cond (ltb (byte B i) (relations B)) r (some i)

-- in n atoms from i on
unfoldable pub wrong_in_atoms : List ℕ → ℕ → ℕ → Option ℕ
wrong_in_atoms B i zero = none
wrong_in_atoms B i (suc n) = let r = wrong_in_atoms B (i + atom_size B) n in or_else (wrong_in_atom B i) r

-- in the atoms of n rules from s on
unfoldable pub wrong_in_rules : List ℕ → ℕ → ℕ → Option ℕ
wrong_in_rules B s zero = none
wrong_in_rules B s (suc n) =
    let r = wrong_in_rules B (rule_end B s) n in
    or_else (wrong_in_atoms B (body_at B s) (body_count B s + head_count B s)) r

-- in the answer record at i
unfoldable pub wrong_answer : List ℕ → ℕ → Option ℕ
wrong_answer B i =
    let r = wrong_place B (answer_places B i) (i + 1) 0 (atom_places B) in
    or_else (unless (eqb (byte B i) answer_relation) i) r

-- in the question: its answer record, where the book has one, then its atoms
unfoldable pub wrong_in_question : List ℕ → Option ℕ
wrong_in_question B =
    let answer = wrong_answer B (question_at B) in
    or_else (cond (announced B) answer none) (wrong_in_atoms B (question_atoms_at B) (atoms B))

unfoldable pub wrong_byte : List ℕ → Option ℕ
wrong_byte B = or_else (wrong_in_rules B (rules_start B) (rules B)) (wrong_in_question B)

-- 11: the byte b is none of k variables, or it stands in one of these atoms
abbrev pub stands_in : ℕ → Question → ℕ → Bool
stands_in k A b = not (ltb b k) || any (eq_term (var b)) (terms A)

-- the first variable among the n places from i on that stands in none of these atoms
unfoldable pub loose_from : List ℕ → Question → ℕ → ℕ → Option ℕ
loose_from B A i zero = none
loose_from B A i (suc n) =
    let r = loose_from B A (i + 1) n in or_else (unless (stands_in (variables B) A (byte B i)) i) r

unfoldable pub loose_variable : List ℕ → Option ℕ
loose_variable B =
    let loose = loose_from B (question_atoms B) (question_at B + 1) (atom_places B) in cond (announced B) loose none

-- number n at the place that was found, or what comes after
abbrev pub refuse : ℕ → Option ℕ → Refusal → Refusal
refuse n none r = r
refuse n (some p) r = record { number = n; place = p }

-- number n at the place that was found, or nothing
abbrev pub told : ℕ → Option ℕ → Refusal
told n o = refuse n o accepted

-- what is wrong after the header
unfoldable pub contents : List ℕ → Refusal
contents B =
    refuse 5 (wrong_places B (header_size B) (relations B))
    (refuse 6 (wrong_rule B (question_at B) (rules_start B) (rules B))
    (refuse 7 (wrong_byte B) (told 11 (loose_variable B))))

-- the numbers in their order, each with the earliest place at which it applies
unfoldable pub verdict : List ℕ → Refusal
verdict B =
    refuse 2 (unless (leb (header_size B) (length B)) 0)
    (refuse 3 (unless (in_table (header_of B)) 0)
    (refuse 4 (unless (offsets_right (header_of B) (length B)) 0) (contents B)))

-- a book that is not refused
abbrev pub SoundBook : List ℕ → Type 0
SoundBook B = (verdict B).number ≡ 0
