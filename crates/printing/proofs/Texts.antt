-- Laws of what is printed of terms, atoms and members that stand in bytes: what is put first and what after it, and
-- what is known of the bytes after it. Assumes nothing.
use mathlib.Core.Path.{◌≡◌, refl, sym, ◌∙◌, ap, ap₂, subst}
use mathlib.Core.Bool.{Bool, cond}
use mathlib.Core.List.{List, [], ◌∷◌, ◌++◌}
use Prim.Native.Nat.{ℕ, zero, suc, ◌+◌, ◌-◌, ◌≤◌, ◌<◌}
use native.Mathlib.Omega.{arith}
use borrow.Author.Tests.{eq-eqb, ne_eqb}
use lib.Dec.{T}
use lib.ListN.{length, get_or, length-append}
use Rattle.covering.specs.Lists.{gather}
use Rattle.covering.specs.Term.{Term, var, con, Question}
use Rattle.covering.specs.Record.{new_places, stored, term_of, args_at, atom_at, atoms_at, is_atom, are_atoms}
use Rattle.covering.proofs.Bytes.{term_var, term_con, atom_first}
use Rattle.covering.proofs.Places.{args_none, args_step, relation_at, args_at_lem, atoms_none, atoms_more, sound_more}
use Rattle.covering.proofs.Fitting.{term_is_used}
use Rattle.covering.proofs.RoundTrip.{stored_apart}
use Rattle.exploration.specs.Union.{members_from, member_end}
use Rattle.exploration.specs.Standing.{Counted, MemberAt, WrittenAt}
use Rattle.exploration.proofs.UnionBytes.{member_none, member_next, written_next}
use Rattle.reading.specs.Word.{byte}
use Rattle.covering.specs.Asking.{answer_relation, asking, records}
use Rattle.printing.specs.Printed.{ascii, decimal, marked, separated, term_text, relation_text, atom_text, member_line}
use Rattle.printing.specs.Printed.{line, always_text}
use Rattle.printing.specs.Printable.{always_bytes}

less_one : (n : ℕ) → 0 < n → n ≡ suc (n - 1)
less_one n h = omega arith

-- a term
pub var_text : (n : ℕ) → term_text (var n) ≡ ascii "v" ++ decimal n
unfolding term_text
var_text n = refl

pub con_text : (n : ℕ) → term_text (con n) ≡ ascii "c" ++ decimal n
unfolding term_text
con_text n = refl

module _ (b n : ℕ) where
  pub variable_text : b < 128 → n ≡ b → term_text (term_of b) ≡ ascii "v" ++ decimal n
  variable_text h e = ap term_text (term_var b h) ∙ var_text b ∙ ap (λ k. ascii "v" ++ decimal k) (sym e)

  pub constant_text : 128 ≤ b → n ≡ b - 128 → term_text (term_of b) ≡ ascii "c" ++ decimal n
  constant_text h e = ap term_text (term_con b h) ∙ con_text (b - 128) ∙ ap (λ k. ascii "c" ++ decimal k) (sym e)

-- a relation
module _ (r : ℕ) where
  pub answer_text : r ≡ answer_relation → relation_text r ≡ ascii "a"
  unfolding relation_text
  answer_text e = rw (eq-eqb r answer_relation e)

  pub numbered_text : (n : ℕ) → (r ≡ answer_relation → ⊥) → n ≡ r → relation_text r ≡ ascii "r" ++ decimal n
  unfolding relation_text
  numbered_text n ne e = rw (ne_eqb r answer_relation ne) (ap (λ k. ascii "r" ++ decimal k) (sym e))

-- terms, with a comma before each
abbrev pub terms_text : List ℕ → ℕ → ℕ → List ℕ
terms_text B i w = marked (ascii ",") term_text (args_at B i w)

module _ (B : List ℕ) (i : ℕ) where
  abbrev b : ℕ
  b = get_or B i 0

  pub args_next : (w : ℕ) → (get_or B i 0 ≡ 255 → ⊥) → args_at B i (suc w) ≡ term_of (get_or B i 0) ∷ args_at B (i + 1) w
  args_next w used =
      args_step B i w ∙ ap (λ (t : Bool). cond t [] (term_of b ∷ args_at B (i + 1) w)) (ne_eqb b 255 used)

  module _ (w : ℕ) where
    pub terms_none : w ≡ 0 → marked (ascii ",") term_text (args_at B i w) ≡ []
    terms_none e = ap (terms_text B i) e ∙ ap (marked (ascii ",") term_text) (args_none B i)

    pub terms_end : 0 < w → get_or B i 0 ≡ 255 → marked (ascii ",") term_text (args_at B i w) ≡ []
    terms_end h e =
        ap (terms_text B i) (less_one w h)
        ∙ ap (marked (ascii ",") term_text)
        (args_step B i (w - 1)
        ∙ ap (λ (t : Bool). cond t [] (term_of b ∷ args_at B (i + 1) (w - 1))) (eq-eqb b 255 e))

    pub terms_more : (j v : ℕ) → j ≡ i + 1 → v ≡ w - 1 → 0 < w → (get_or B i 0 ≡ 255 → ⊥)
        → marked (ascii ",") term_text (args_at B i w)
        ≡ (ascii "," ++ term_text (term_of (get_or B i 0))) ++ marked (ascii ",") term_text (args_at B j v)
    terms_more j v next less h used =
        ap (terms_text B i) (less_one w h)
        ∙ ap (marked (ascii ",") term_text) (args_next (w - 1) used)
        ∙ ap₂ (λ k m. (ascii "," ++ term_text (term_of b)) ++ terms_text B k m) (sym next) (sym less)

-- a line of two numbers
module _ (a : List ℕ) (m : ℕ) (b : List ℕ) (n : ℕ) where
  pub line_is : line a m b n ≡ a ++ (decimal m ++ (b ++ (decimal n ++ ascii "\n")))
  unfolding line
  line_is = refl

  pub line_length : length (line a m b n) ≡ length a + length (decimal m) + length b + length (decimal n) + 1
  line_length =
      ap length line_is
      ∙ length-append a (decimal m ++ (b ++ (decimal n ++ ascii "\n")))
      ∙ omega (
        arith,
        length-append (decimal m) (b ++ (decimal n ++ ascii "\n")),
        length-append b (decimal n ++ ascii "\n"),
        length-append (decimal n) (ascii "\n"),
      )

-- an atom
module _ (B : List ℕ) (i : ℕ) where
  first_used : T (is_atom stored B i) → get_or B (i + 1) 0 ≡ 255 → ⊥
  first_used s = term_is_used stored stored_apart (get_or B (i + 1) 0) (atom_first stored B i s)

  atom_is : atom_text (atom_at stored B i)
      ≡ relation_text (get_or B i 0) ++ (ascii "(" ++ (separated (ascii ",") term_text (args_at B (i + 1) 6) ++ ascii ")"))
  unfolding atom_text
  atom_is =
      ap₂
      (λ (r : ℕ) (ts : List Term). relation_text r ++ (ascii "(" ++ (separated (ascii ",") term_text ts ++ ascii ")")))
      (relation_at stored B i)
      (args_at_lem stored B i)

  pub atom_text_lem : T (is_atom stored B i)
      → atom_text (atom_at stored B i)
      ≡ relation_text (get_or B i 0)
      ++ (ascii "("
      ++ ((term_text (term_of (get_or B (i + 1) 0)) ++ marked (ascii ",") term_text (args_at B (i + 2) 5)) ++ ascii ")"))
  atom_text_lem s =
      atom_is
      ∙ ap
      (λ (ts : List Term).
      relation_text (get_or B i 0) ++ (ascii "(" ++ (separated (ascii ",") term_text ts ++ ascii ")")))
      (args_next B (i + 1) 5 (first_used s) ∙ ap (λ (k : ℕ). term_of (get_or B (i + 1) 0) ∷ args_at B k 5) (omega arith))

  pub atom_length : T (is_atom stored B i)
      → length (atom_text (atom_at stored B i))
      ≡ 2 + length (relation_text (get_or B i 0)) + length (term_text (term_of (get_or B (i + 1) 0)))
      + length (marked (ascii ",") term_text (args_at B (i + 2) 5))
  atom_length s =
      let relation = relation_text (get_or B i 0) in
      let first = term_text (term_of (get_or B (i + 1) 0)) in
      let rest = terms_text B (i + 2) 5 in
      ap length (atom_text_lem s)
      ∙ omega (
        arith,
        length-append relation (ascii "(" ++ ((first ++ rest) ++ ascii ")")),
        length-append (first ++ rest) (ascii ")"),
        length-append first rest,
      )

-- atoms, with a space before each
abbrev pub atoms_text : List ℕ → ℕ → ℕ → List ℕ
atoms_text B i n = marked (ascii " ") atom_text (atoms_at stored B i n)

module _ (B : List ℕ) (i n : ℕ) where
  pub atoms_end : n ≡ 0 → marked (ascii " ") atom_text (atoms_at stored B i n) ≡ []
  atoms_end e = ap (marked (ascii " ") atom_text) (atoms_none stored B i n e)

  pub atoms_next : (j v : ℕ) → j ≡ i + 7 → v ≡ n - 1 → 0 < n
      → marked (ascii " ") atom_text (atoms_at stored B i n)
      ≡ (ascii " " ++ atom_text (atom_at stored B i)) ++ marked (ascii " ") atom_text (atoms_at stored B j v)
  atoms_next j v next less h =
      ap (marked (ascii " ") atom_text) (atoms_more stored B i n h)
      ∙ ap₂ (λ k m. (ascii " " ++ atom_text (atom_at stored B i)) ++ atoms_text B k m) (sym next) (sym less)

  -- the others are atoms
  pub atoms_rest : (j v : ℕ) → j ≡ i + 7 → v ≡ n - 1 → 0 < n → T (are_atoms stored B i n) → T (are_atoms stored B j v)
  atoms_rest j v next less h s =
      subst (λ k. T (are_atoms stored B k v)) (sym next)
      (subst (λ m. T (are_atoms stored B (i + 7) m)) (sym less) (sound_more stored B i n h s).1)

-- atoms with a space between two
module _ (B : List ℕ) (i n : ℕ) where
  pub all_none : n ≡ 0 → separated (ascii " ") atom_text (atoms_at stored B i n) ≡ []
  all_none e = ap (separated (ascii " ") atom_text) (atoms_none stored B i n e)

  pub all_some : 0 < n
      → separated (ascii " ") atom_text (atoms_at stored B i n)
      ≡ atom_text (atom_at stored B i) ++ marked (ascii " ") atom_text (atoms_at stored B (i + 7) (n - 1))
  all_some h = ap (separated (ascii " ") atom_text) (atoms_more stored B i n h)

  pub all_length : 0 < n
      → length (separated (ascii " ") atom_text (atoms_at stored B i n))
      ≡ length (atom_text (atom_at stored B i)) + length (marked (ascii " ") atom_text (atoms_at stored B (i + 7) (n - 1)))
  all_length h = ap length (all_some h) ∙ length-append (atom_text (atom_at stored B i)) (atoms_text B (i + 7) (n - 1))

-- what stands for no atoms
module _ (count answers : ℕ) where
  pub always_not : (count ≡ 0 → ⊥) → always_bytes count answers ≡ []
  unfolding always_bytes
  always_not h = go count h
    where
      go : (k : ℕ) → (k ≡ 0 → ⊥) → always_bytes k answers ≡ []
      go zero h = absurd (h refl)
      go (suc k) h = refl

  pub always_alone : count ≡ 0 → answers ≡ 0 → always_bytes count answers ≡ ascii "always"
  unfolding always_bytes
  always_alone e f = ap₂ always_bytes e f

  pub always_after : count ≡ 0 → (answers ≡ 0 → ⊥) → always_bytes count answers ≡ ascii " always"
  unfolding always_bytes
  always_after e h = ap (λ (k : ℕ). always_bytes k answers) e ∙ go answers h
    where
      go : (k : ℕ) → (k ≡ 0 → ⊥) → always_bytes 0 k ≡ ascii " always"
      go zero h = absurd (h refl)
      go (suc k) h = refl

always_is : (ts : List Term) (A : Question) → always_text ts A ≡ always_bytes (length A) (records ts)
unfolding always_bytes
always_is ts (a ∷ A) = refl
always_is [] [] = refl
always_is (t ∷ ts) [] = refl

-- a member
module _ {answers count : ℕ} (M : Question) (c : Counted answers count M) where
  pub member_text : member_line M ≡ separated (ascii " ") atom_text M ++ (always_bytes count answers ++ ascii "\n")
  unfolding member_line
  member_text =
      ap (λ (l : List ℕ). separated (ascii " ") atom_text M ++ (l ++ ascii "\n"))
      (always_is (asking M).answer (asking M).atoms ∙ ap₂ always_bytes c.atoms_are c.records_are)

  pub member_length : length (member_line M)
      ≡ length (separated (ascii " ") atom_text M) + length (always_bytes count answers) + 1
  member_length =
      ap length member_text
      ∙ length-append (separated (ascii " ") atom_text M) (always_bytes count answers ++ ascii "\n")
      ∙ omega (arith, length-append (always_bytes count answers) (ascii "\n"))

-- members, each with so many answer records
module _ (answers : ℕ) (W : List ℕ) (i n : ℕ) where
  pub members_end : n ≡ 0 → gather member_line (members_from new_places answers W i n) ≡ []
  members_end e =
      ap (λ (k : ℕ). gather member_line (members_from new_places answers W i k)) e ∙ ap (gather member_line) (member_none new_places answers W i)

  -- the first of them, and the others from j on
  module _ (j v : ℕ) (next : j ≡ member_end new_places answers W i) (less : v ≡ n - 1) (h : 0 < n) where
    pub members_next : gather member_line (members_from new_places answers W i n)
        ≡ member_line (atoms_at stored W (i + 1) (answers + byte W i))
        ++ gather member_line (members_from new_places answers W j v)
    members_next =
        ap (λ (k : ℕ). gather member_line (members_from new_places answers W i k)) (less_one n h)
        ∙ ap (gather member_line) (member_next new_places answers W i (n - 1))
        ∙ ap₂
        (λ k m.
        member_line (atoms_at stored W (i + 1) (answers + byte W i)) ++ gather member_line (members_from new_places answers W k m))
        (sym next) (sym less)

    pub first_stands : WrittenAt new_places answers W i n → MemberAt new_places answers W i × WrittenAt new_places answers W j v
    first_stands s =
        let both = written_next new_places answers W i (n - 1) (subst (WrittenAt new_places answers W i) (less_one n h) s) in (
          both.0,
          subst (λ k. WrittenAt new_places answers W k v) (sym next)
              (subst (WrittenAt new_places answers W (member_end new_places answers W i)) (sym less) both.1),
        )

  pub first_member : 0 < n → WrittenAt new_places answers W i n → MemberAt new_places answers W i
  first_member h s = (first_stands (member_end new_places answers W i) (n - 1) refl refl h s).0
