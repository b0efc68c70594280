-- A row is a fact: a question gives a row in some facts exactly when, as one conjunction, it holds in them with the row
-- before them. A question without answer places has the row of no things, and then nothing stands before the facts.
-- Assumes nothing.
use mathlib.Core.Path.{◌≡◌, refl, sym, ◌∙◌, ap}
use mathlib.Core.Logic.{◌⊎◌, inl, inr, ◌↔◌}
use mathlib.Core.List.Memᴰ
use mathlib.Core.List.{List, [], ◌∷◌, map, cons≢nil}
use Prim.Native.Nat.{ℕ}
use native.Mathlib.Omega.{arith}
use lib.ListN.{length, length-map}
use Rattle.covering.specs.Lists.{◌∈◌}
use Rattle.covering.specs.Term.{Term, var, con, Atom, Question, on_term, on_atom}
use Rattle.covering.specs.Covers.{Covers}
use Rattle.covering.specs.Asking.{Asking, answer_atom, with_answer, joined, NoRecord}
use Rattle.covering.proofs.Lists.{map_none}
use Rattle.covering.proofs.Terms.{on_term_var, atom_path}
use Rattle.covering.proofs.Asked.{after_in, after_out}
use Rattle.exploration.specs.Rows.{Gives}

-- the facts with the row before them, of the answer's relation
abbrev pub with_row : List ℕ → Question → Question
with_row row F = with_answer (map con row) F

-- a row has a thing for each answer place
pub gives_length : {q : Asking} {row : List ℕ} {F : Question} → Gives q row F → length row ≡ length q.answer
gives_length {q} {row} {F} g =
    sym (length-map row con) ∙ ap length (sym g.is) ∙ length-map q.answer (on_term g.by)

pub gives_covers : (q : Asking) (row : List ℕ) (F : Question) → Gives q row F → Covers (joined q) (with_row row F)
gives_covers q row F g = record { by = g.by; sends = at q.answer row g.is }
  where
    at : (ts : List Term) (row : List ℕ) → map (on_term g.by) ts ≡ map con row → (a : Atom)
        → a ∈ with_answer ts q.atoms → on_atom g.by a ∈ with_row row F
    at [] row e a m = after_in (map con row) F (g.sends a m)
    at (t ∷ ts) [] e a m = absurd (cons≢nil e)
    at (t ∷ ts) (c ∷ row) e a m = one (Memᴰ.cases_cons m)
      where
        one : (a ≡ answer_atom (t ∷ ts)) ⊎ (a ∈ q.atoms) → on_atom g.by a ∈ with_row (c ∷ row) F
        one (inl i) = Memᴰ.head (ap (on_atom g.by) i ∙ atom_path refl e)
        one (inr n) = after_in (map con (c ∷ row)) F (g.sends a n)

pub covers_gives : (q : Asking) (row : List ℕ) (F : Question) → NoRecord q.atoms → NoRecord F
    → length row ≡ length q.answer → Covers (joined q) (with_row row F) → Gives q row F
covers_gives q row F free-q free-F long c =
    record {
      by = c.by;
      is = at q.answer row long c.sends;
      sends =
          λ a m. after_out (map con row) F (c.sends a (after_in q.answer q.atoms m)) (λ e. free-q a m e);
    }
  where
    at : (ts : List Term) (row : List ℕ) → length row ≡ length ts
        → ((a : Atom) → a ∈ with_answer ts q.atoms → on_atom c.by a ∈ with_row row F)
        → map (on_term c.by) ts ≡ map con row
    at [] [] l h = refl
    at [] (d ∷ row) l h = absurd (omega arith)
    at (t ∷ ts) [] l h = absurd (omega arith)
    at (t ∷ ts) (d ∷ row) l h = one (Memᴰ.cases_cons (h (answer_atom (t ∷ ts)) (Memᴰ.head refl)))
      where
        one : (on_atom c.by (answer_atom (t ∷ ts)) ≡ answer_atom (map con (d ∷ row)))
            ⊎ (on_atom c.by (answer_atom (t ∷ ts)) ∈ F)
            → map (on_term c.by) (t ∷ ts) ≡ map con (d ∷ row)
        one (inl e) = ap (λ (a : Atom). a.args) e
        one (inr m) = absurd (free-F _ m refl)

pub row_holds : (q : Asking) (row : List ℕ) (F : Question) → NoRecord q.atoms → NoRecord F
    → length row ≡ length q.answer → Gives q row F ↔ Covers (joined q) (with_row row F)
row_holds q row F free-q free-F long = (gives_covers q row F, covers_gives q row F free-q free-F long)

-- a question without atoms gives the row of its constants in all facts
pub always : (row : List ℕ) (F : Question) → Gives (record { answer = map con row; atoms = [] }) row F
always row F =
    record {
      by = var;
      is = map_none (on_term var) (map con row) (λ t m. on_term_var t);
      sends = λ a m. absurd (Memᴰ.not-nil m);
    }
