-- Laws of looking for a term, a place and an atom at a time: one for each way through the code. Assumes nothing.
use mathlib.Core.Path.{◌≡◌, refl, sym, ap, ap₂, ◌∙◌}
use mathlib.Core.Bool.{Bool, true, false, ◌||◌}
use mathlib.Core.List.{List}
use Prim.Native.Nat.{ℕ, ◌+◌, ◌*◌, ◌-◌, ◌<◌, ◌≤◌}
use native.Mathlib.Omega.{arith}
use borrow.Author.Tests.{eq-eqb, ne_eqb}
use lib.ListN.{length, get_or, take, drop, length-take, length-drop}
use lib.Seq.{get_or-take, get_or-drop}
use Rattle.covering.specs.Lists.{any}
use Rattle.covering.specs.Term.{Term, eq_term, terms}
use Rattle.covering.specs.Record.{stored, term_of, args_at, atoms_at}
use Rattle.covering.proofs.Bytes.{args_more, args_end, term_same}
use Rattle.covering.proofs.Places.{atoms_none, args_none, terms_first}
use Rattle.covering.proofs.Lists.{any_append}

-- a byte of a part of some bytes is one of them
pub in_part : (B : List ℕ) (i m j : ℕ) → j < length (take m (drop i B))
    → (j < m) × (get_or (take m (drop i B)) j 0 ≡ get_or B (i + j) 0)
in_part B i m j lt =
    let h : j < m = omega (arith, length-take {A = ℕ}) in
    (h, get_or-take m (drop i B) j 0 h ∙ get_or-drop i B j 0)

-- the w places from i on, of which j are passed: whether t is in one of the others
module _ (t : ℕ) (B : List ℕ) (i w : ℕ) where
  abbrev pub among : ℕ → Bool
  among j = any (eq_term (term_of t)) (args_at B (i + j) (w - j))

  -- the part of the bytes that the places are
  abbrev pub part : List ℕ
  part = take (i + w - i) (drop i B)

  module _ (j : ℕ) (lt : j < length part) where
    here : (j < w) × (get_or part j 0 ≡ get_or B (i + j) 0)
    here = let p = in_part B i (i + w - i) j lt in (omega (arith, p.0), p.1)

    pub place_ends : get_or part j 0 ≡ 255 → among j ≡ false
    place_ends free = rw (args_end B i j w here.0 (sym here.1 ∙ free)) refl

    pub place_hit : (get_or part j 0 ≡ 255 → ⊥) → get_or part j 0 ≡ t → among j ≡ true
    place_hit used e =
        rw (
          args_more B i j w here.0 (λ f. used (here.1 ∙ f)),
          term_same t (get_or B (i + j) 0),
          eq-eqb t (get_or B (i + j) 0) (sym e ∙ here.1),
        ) refl

    pub place_miss : (get_or part j 0 ≡ 255 → ⊥) → (get_or part j 0 ≡ t → ⊥) → among j ≡ among (j + 1)
    place_miss used ne =
        rw (
          args_more B i j w here.0 (λ f. used (here.1 ∙ f)),
          term_same t (get_or B (i + j) 0),
          ne_eqb t (get_or B (i + j) 0) (λ e. ne (here.1 ∙ sym e)),
        ) refl

  pub place_none : (j : ℕ) → i + w ≤ length B → length part ≤ j → among j ≡ false
  place_none j h end =
      ap (λ k. any (eq_term (term_of t)) (args_at B (i + j) k)) none ∙ ap (any (eq_term (term_of t))) (args_none B (i + j))
    where
      none : w - j ≡ 0
      none = omega (arith, length-take {A = ℕ}, length-drop i B)

-- n atoms from i on, of which k are passed: the same of the terms of the others
module _ (p : Term → Bool) (B : List ℕ) (i n : ℕ) where
  abbrev pub within : ℕ → Bool
  within k = any p (terms (atoms_at stored B (i + k * 7) (n - k)))

  module _ (k : ℕ) (lt : k < n) where
    split : within k ≡ (any p (args_at B (i + k * 7 + 1) 6) || within (k + 1))
    split =
        ap (any p) (terms_first stored B (i + k * 7) (n - k) (omega arith))
        ∙ any_append p (args_at B (i + k * 7 + 1) 6) _
        ∙ ap (λ (b : Bool). any p (args_at B (i + k * 7 + 1) 6) || b) next
      where
        next : any p (terms (atoms_at stored B (i + k * 7 + 7) (n - k - 1))) ≡ within (k + 1)
        next = ap₂ (λ (j m : ℕ). any p (terms (atoms_at stored B j m))) (omega arith) (omega arith)

    pub atom_hit : {b : Bool} → b ≡ any p (args_at B (i + k * 7 + 1) 6) → b ≡ true → within k ≡ true
    atom_hit e f = split ∙ ap (λ b. b || within (k + 1)) (sym e ∙ f)

    pub atom_miss : {b : Bool} → b ≡ any p (args_at B (i + k * 7 + 1) 6) → b ≡ false → within k ≡ within (k + 1)
    atom_miss e f = split ∙ ap (λ b. b || within (k + 1)) (sym e ∙ f)

  pub atom_none : (k : ℕ) → n ≤ k → within k ≡ false
  atom_none k h = ap (λ A. any p (terms A)) (atoms_none stored B (i + k * 7) (n - k) (omega arith))
