-- Laws of a test of the terms that stand in bytes, an atom and a place at a time: one for each way through the code.
-- There b is the code's answer, of which is known what it says and what it is. Assumes nothing.
use mathlib.Core.Path.{◌≡◌, refl, sym, ◌∙◌, ap, ap₂, subst}
use mathlib.Core.Bool.{Bool, true, false, ◌||◌}
use mathlib.Core.List.{List, [], ◌∷◌, map}
use Prim.Native.Nat.{ℕ, zero, suc, ◌+◌, ◌*◌, ◌-◌, ◌<◌, ◌≤◌}
use native.Mathlib.Omega.{arith}
use lib.Dec.{T}
use lib.ListN.{get_or}
use Rattle.std.specs.List.{list_any, range_with_len}
use Rattle.covering.specs.Lists.{any, all}
use Rattle.covering.specs.Term.{Term, Question, Sub, on_term, on_question, terms}
use Rattle.covering.specs.Record.{stored, term_of, args_at, atom_at, atoms_at, used_first, is_atom, are_atoms}
use Rattle.covering.proofs.Bytes.{args_more, args_end, atom_used}
use Rattle.covering.proofs.Places.{atoms_none, atoms_step, atoms_more, sound_more, args_none, args_at_lem, terms_sent}
use Rattle.covering.proofs.Lists.{all_append, any_append}
use Rattle.unify.specs.InBytes.{in_book}

no_args : (B : List ℕ) (i w : ℕ) → w ≡ 0 → args_at B i w ≡ []
no_args B i w e = ap (args_at B i) e ∙ args_none B i

-- the places of an atom, of which j of w are passed: whether some term passes the test, whether each does once s sent
-- it on
module _ (p : Term → Bool) (B : List ℕ) (i j w : ℕ) (lt : j < w) where
  pub some_place_end : get_or B (i + j) 0 ≡ 255 → any p (args_at B (i + j) (w - j)) ≡ false
  some_place_end free = rw (args_end B i j w lt free)

  pub some_place_hit : (get_or B (i + j) 0 ≡ 255 → ⊥) → p (term_of (get_or B (i + j) 0)) ≡ true
      → any p (args_at B (i + j) (w - j)) ≡ true
  some_place_hit used e = rw (args_more B i j w lt used, e)

  pub some_place_miss : (get_or B (i + j) 0 ≡ 255 → ⊥) → p (term_of (get_or B (i + j) 0)) ≡ false
      → any p (args_at B (i + j) (w - j)) ≡ any p (args_at B (i + (j + 1)) (w - (j + 1)))
  some_place_miss used e = rw (args_more B i j w lt used, e)

  pub each_place_end : (s : Sub) → get_or B (i + j) 0 ≡ 255 → all p (map (on_term s) (args_at B (i + j) (w - j))) ≡ true
  each_place_end s free = rw (args_end B i j w lt free)

  pub each_place_fails : (s : Sub) → (get_or B (i + j) 0 ≡ 255 → ⊥)
      → {t : Term} → t ≡ on_term s (term_of (get_or B (i + j) 0))
      → {b : Bool} → b ≡ p t → b ≡ false
      → all p (map (on_term s) (args_at B (i + j) (w - j))) ≡ false
  each_place_fails s used is e f = rw (args_more B i j w lt used, ap p (sym is) ∙ sym e ∙ f)

  pub each_place_passes : (s : Sub) → (get_or B (i + j) 0 ≡ 255 → ⊥)
      → {t : Term} → t ≡ on_term s (term_of (get_or B (i + j) 0))
      → {b : Bool} → b ≡ p t → b ≡ true
      → all p (map (on_term s) (args_at B (i + j) (w - j)))
      ≡ all p (map (on_term s) (args_at B (i + (j + 1)) (w - (j + 1))))
  each_place_passes s used is e f = rw (args_more B i j w lt used, ap p (sym is) ∙ sym e ∙ f)

-- no place is left
pub some_place_none : (p : Term → Bool) (B : List ℕ) (i w : ℕ) → w ≡ 0 → any p (args_at B i w) ≡ false
some_place_none p B i w e = rw (no_args B i w e)

pub each_place_none : (p : Term → Bool) (s : Sub) (B : List ℕ) (i w : ℕ) → w ≡ 0
    → all p (map (on_term s) (args_at B i w)) ≡ true
each_place_none p s B i w e = rw (no_args B i w e)

-- the atoms from i on, of which k of n are passed
abbrev pub from_atom : List ℕ → ℕ → ℕ → ℕ → Question
from_atom B i n k = atoms_at stored B (i + k * 7) (n - k)

pub from_first : (B : List ℕ) (i n : ℕ) → atoms_at stored B i n ≡ from_atom B i n 0
from_first B i n = ap₂ (atoms_at stored B) (omega arith) (omega arith)

pub next_atom : (B : List ℕ) (i n k : ℕ) → k < n
    → from_atom B i n k ≡ atom_at stored B (i + k * 7) ∷ from_atom B i n (k + 1)
next_atom B i n k h =
    atoms_more stored B (i + k * 7) (n - k) (omega arith)
    ∙ ap (λ A. atom_at stored B (i + k * 7) ∷ A) (ap₂ (atoms_at stored B) (omega arith) (omega arith))

-- the atom after the first k is sound
pub nth_sound : (B : List ℕ) (n k i : ℕ) → k < n → T (are_atoms in_book B i n) → T (is_atom in_book B (i + k * 7))
nth_sound B (suc n) zero i lt t =
    subst (λ x. T (is_atom in_book B x)) (omega arith) (sound_more in_book B i (suc n) (omega arith) t).0
nth_sound B (suc n) (suc k) i lt t =
    subst (λ x. T (is_atom in_book B x)) same (nth_sound B n k (i + 7) (omega arith) rest)
  where
    rest : T (are_atoms in_book B (i + 7) n)
    rest = subst (λ m. T (are_atoms in_book B (i + 7) m)) (omega arith) (sound_more in_book B i (suc n) (omega arith) t).1

    same : i + 7 + k * 7 ≡ i + suc k * 7
    same = omega arith
nth_sound B zero k i lt t = absurd (omega arith)

-- its used places come first
pub nth_used : (B : List ℕ) (n k i : ℕ) → k < n → T (are_atoms in_book B i n) → T (used_first in_book B (i + k * 7 + 1) 6)
nth_used B n k i lt t = atom_used in_book B (i + k * 7) (nth_sound B n k i lt t)

-- whether each of their terms passes the test, once s sent it on
module _ (p : Term → Bool) (B : List ℕ) (i n k : ℕ) (s : Sub) where
  pub each_term_none : n ≤ k → all p (terms (on_question s (from_atom B i n k))) ≡ true
  each_term_none h = rw (atoms_none stored B (i + k * 7) (n - k) (omega arith))

  pub each_term_fails : k < n
      → {b : Bool} → b ≡ all p (map (on_term s) (args_at B (i + k * 7 + 1) 6)) → b ≡ false
      → all p (terms (on_question s (from_atom B i n k))) ≡ false
  each_term_fails h e f = rw (terms_sent stored B (i + k * 7) (n - k) (omega arith) s, all_append p, sym e ∙ f)

  pub each_term_passes : k < n
      → {b : Bool} → b ≡ all p (map (on_term s) (args_at B (i + k * 7 + 1) 6)) → b ≡ true
      → all p (terms (on_question s (from_atom B i n k))) ≡ all p (terms (on_question s (from_atom B i n (k + 1))))
  each_term_passes h e f =
      ap (λ A. all p (terms (on_question s A))) (next_atom B i n k h)
      ∙ rw (args_at_lem stored B (i + k * 7), all_append p, sym e ∙ f)

one_more : (i a : ℕ) → i + (a + 1) * 7 ≡ i + a * 7 + 7
one_more i a = omega arith

-- the atoms from i on by their numbers: whether a term of one passes the test
pub some_term : (p : Term → Bool) (B : List ℕ) (i n : ℕ) → list_any (λ k. any p (args_at B (i + k * 7 + 1) 6)) (range_with_len 0 n)
    ≡ any p (terms (atoms_at stored B i n))
some_term p B i n = go n 0 ∙ ap (λ k. any p (terms (atoms_at stored B k n))) (omega arith)
  where
    go : (n a : ℕ) → list_any (λ k. any p (args_at B (i + k * 7 + 1) 6)) (range_with_len a n)
        ≡ any p (terms (atoms_at stored B (i + a * 7) n))
    go zero a = rw (atoms_none stored B (i + a * 7) zero refl)
    go (suc n) a =
        ap (λ r. any p (args_at B (i + a * 7 + 1) 6) || r)
        (go n (a + 1) ∙ ap (λ k. any p (terms (atoms_at stored B k n))) (one_more i a))
        ∙ sym (ap (λ A. any p (terms A)) (atoms_step stored B (i + a * 7) n) ∙ rw (args_at_lem stored B (i + a * 7), any_append p))
