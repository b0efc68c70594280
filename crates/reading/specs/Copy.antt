-- Copying a book from form to form (02, i): "Provide old to new and back, one already in the wanted form copied; there
-- and back gives the first bytes again." What has no old form is first stated, and then computed; that the computation
-- finds the earliest such byte is proved in `proofs/OldForm`.
use Rattle.std.specs.Prelude.{◌≡◌, Bool, cond, ◌||◌, List, ◌++◌, ℕ, zero, suc, ◌+◌, ◌≤◌, ◌<◌, T, eqb, ltb, leb, length, drop, get_or}
use Rattle.std.proofs.Math.Option.{Option, none, some}
use Rattle.covering.specs.Lists.{◌∈◌, or_else}
use Rattle.covering.specs.Term.{var, terms}
use Rattle.covering.specs.Asking.{joined}
use Rattle.covering.specs.Rule.{Rule}
use Rattle.reading.specs.Word.{byte}
use Rattle.reading.specs.Header.{old, new, header_size, relations, rules, atoms, question_at, atom_places, atom_size}
use Rattle.reading.specs.Header.{announced, answer_records}
use Rattle.reading.specs.Book.{Book, body_count, head_count, body_at, rule_end, rules_start, places_of, book_of}
use Rattle.reading.specs.Refusals.{AtomOf}
use Rattle.reading.specs.Verdict.{unless, verdict}
use Rattle.reading.specs.Written.{book_bytes}

-- "13, no old form, exactly when a sound book has a relation of over four places or a variable above 31": of the book
-- that is meant
pub data NeedsNew (b : Book) : Type 0 where
  relation : (r : ℕ) → r < length b.places → old.places < get_or b.places r 0 → NeedsNew b
  in_body : (r : Rule) (n : ℕ) → r ∈ b.rules → var n ∈ terms r.body → old.variables ≤ n → NeedsNew b
  in_head : (r : Rule) (n : ℕ) → r ∈ b.rules → var n ∈ terms r.head → old.variables ≤ n → NeedsNew b
  in_question : (n : ℕ) → var n ∈ terms (joined b.question) → old.variables ≤ n → NeedsNew b

-- a byte of a place that is a variable above 31
abbrev pub LateVariable : ℕ → Type 0
LateVariable x = (old.variables ≤ x) × (x < 128)

-- and of the bytes, its place: a relation's count above 4, whether the relation stands in an atom or not, or a variable
-- above 31 of an atom or of the answer record
pub data NoOldForm (B : List ℕ) (p : ℕ) : Type 0 where
  relation : (r : ℕ) → r < relations B → p ≡ header_size B + r → old.places < places_of B r → NoOldForm B p
  in_atom : (i w : ℕ) → AtomOf B i → w < atom_places B → p ≡ i + 1 + w → LateVariable (byte B p) → NoOldForm B p
  in_answer : T (announced B) → (w : ℕ) → w < atom_places B → p ≡ question_at B + 1 + w → LateVariable (byte B p)
      → NoOldForm B p

-- the first relation of over four places among the n from i on
unfoldable pub wide_places : List ℕ → ℕ → ℕ → Option ℕ
wide_places B i zero = none
wide_places B i (suc n) = let r = wide_places B (i + 1) n in or_else (unless (leb (byte B i) old.places) i) r

-- a byte that is no variable above 31
abbrev pub term_old : ℕ → Bool
term_old x = ltb x old.variables || leb 128 x

-- the first variable above 31 among the n places from i on
unfoldable pub late_from : List ℕ → ℕ → ℕ → Option ℕ
late_from B i zero = none
late_from B i (suc n) = let r = late_from B (i + 1) n in or_else (unless (term_old (byte B i)) i) r

-- in n atoms from i on
unfoldable pub late_in_atoms : List ℕ → ℕ → ℕ → Option ℕ
late_in_atoms B i zero = none
late_in_atoms B i (suc n) =
    let r = late_in_atoms B (i + atom_size B) n in or_else (late_from B (i + 1) (atom_places B)) r

-- in n rules from s on
unfoldable pub late_in_rules : List ℕ → ℕ → ℕ → Option ℕ
late_in_rules B s zero = none
late_in_rules B s (suc n) =
    let r = late_in_rules B (rule_end B s) n in
    or_else (late_in_atoms B (body_at B s) (body_count B s + head_count B s)) r

-- 13: relations first, then the rules, then the question with its answer record
unfoldable pub no_old_form : List ℕ → Option ℕ
no_old_form B =
    let late = late_in_atoms B (question_at B) (answer_records B + atoms B) in
    let variable = or_else (late_in_rules B (rules_start B) (rules B)) late in
    or_else (wide_places B (header_size B) (relations B)) variable

-- a copy's bytes, or a refusal's number and place
pub data Copied : Type 0 where
  copied : List ℕ → Copied
  refused : ℕ → ℕ → Copied

-- "in copying, 1 for room under 2,003 bytes"
abbrev pub copy_room : ℕ
copy_room = 2003

-- "then 13, no old form", at the byte that has none
abbrev pub old_copy : List ℕ → Option ℕ → Copied
old_copy B none = copied (book_bytes old (book_of B))
old_copy B (some p) = refused 13 p

-- 1 at place 0 and without looking at the book; then "the book's own 2 to 7 and 11"; then what becomes of a sound book
unfoldable pub after_book : List ℕ → ℕ → Copied → Copied
after_book B room c =
    let own = cond (eqb (verdict B).number 0) c (refused (verdict B).number (verdict B).place) in
    cond (ltb room copy_room) (refused 1 0) own

unfoldable pub to_new : List ℕ → ℕ → Copied
to_new B room = let c = copied (book_bytes new (book_of B)) in after_book B room c

unfoldable pub to_old : List ℕ → ℕ → Copied
to_old B room = let c = old_copy B (no_old_form B) in after_book B room c

-- 0 and the length written, or the refusal's number and place
abbrev pub copy_answer : Copied → ℕ × ℕ
copy_answer (copied l) = (0, length l)
copy_answer (refused n p) = (n, p)

-- the output's bytes at exit: the copy and what stood after it; "a refused copy is unwritten"
abbrev pub copy_written : Copied → List ℕ → List ℕ
copy_written (copied l) out = l ++ drop (length l) out
copy_written (refused n p) out = out

-- What a function gives that copies: `out` is the output at entry, `after` at exit.
pub record Copies (c : Copied) (out : List ℕ) (number place : ℕ) (after : List ℕ) : Type 0 where
  pub answers : (number, place) ≡ copy_answer c
  pub writes : after ≡ copy_written c out

-- the contracts of the two operations
abbrev pub CopiesNew : List ℕ → List ℕ → ℕ → ℕ → List ℕ → Type 0
CopiesNew book out = Copies (to_new book (length out)) out

abbrev pub CopiesOld : List ℕ → List ℕ → ℕ → ℕ → List ℕ → Type 0
CopiesOld book out = Copies (to_old book (length out)) out
