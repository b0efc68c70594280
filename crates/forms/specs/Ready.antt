-- What is known of a book, and of a rule of it, that is to be put in a form.
use Rattle.std.specs.Prelude.{List, ℕ, ◌≤◌, length, cond, ltb}
use Rattle.covering.specs.Lists.{◌∈◌}
use Rattle.covering.specs.Term.{Atom}
use Rattle.covering.specs.Record.{holding}
use Rattle.covering.specs.Buffer.{AtomsIn}
use Rattle.reading.specs.Header.{BookForm, atom_places}
use Rattle.reading.specs.Book.{body_at, body_count, head_at, head_count, rule_at, book_of}
use Rattle.reading.specs.Refusal.{Refusal}
use Rattle.reading.specs.Verdict.{verdict, SoundBook}
use Rattle.reading.specs.Copy.{copy_room}
use Rattle.reading.specs.Written.{BookFits}

-- the rule at s: its atoms stand in the book, and none of them uses more places than the form has
pub record RuleReady (B : List ℕ) (s : ℕ) (f : BookForm) : Type 0 where
  pub body : AtomsIn (holding (atom_places B)) B (body_at B s) (body_count B s)
  pub head : AtomsIn (holding (atom_places B)) B (head_at B s) (head_count B s)
  pub few_body : (a : Atom) → a ∈ (rule_at B s).body → length a.args ≤ f.places
  pub few_head : (a : Atom) → a ∈ (rule_at B s).head → length a.args ≤ f.places

-- a sound book whose meaning has this form
pub record BookReady (B : List ℕ) (f : BookForm) : Type 0 where
  pub sound : SoundBook B
  pub fits : BookFits f (book_of B)

-- of a copy: "1 for room under 2,003 bytes, then the book's own 2 to 7 and 11"
abbrev pub first_refusal : List ℕ → ℕ → Refusal
first_refusal B room = cond (ltb room copy_room) (record { number = 1; place = 0 }) (verdict B)
