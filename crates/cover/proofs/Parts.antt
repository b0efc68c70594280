-- A part of some bytes: its places, its terms and its atoms are those of the bytes, as many as lie within it. What
-- lends an atom, its places or the atoms still to place cites these. Assumes nothing.
use mathlib.Core.Path.{◌≡◌, refl, ◌∙◌, ap}
use mathlib.Core.List.{List, [], ◌∷◌}
use Prim.Native.Nat.{ℕ, zero, suc, ◌+◌, ◌*◌, ◌-◌, ◌≤◌, ◌<◌}
use native.Mathlib.Omega.{arith}
use native.Mathlib.Nat.{zero-add}
use mathlib.Core.Bool.{false}
use lib.Dec.{T}
use lib.ListN.{get_or, take, drop}
use lib.Seq.{get_or-take, get_or-drop}
use Rattle.covering.specs.Record.{stored, term_of, args_at, atom_at, atoms_at, is_term, unused}
use Rattle.covering.specs.Record.{used_first, are_places, is_atom, are_atoms}
use Rattle.covering.proofs.Bytes.{args_more, args_end, unused_passes, unused_fails, used_stops, used_more}

-- the places of an atom, of which j of w are passed
module _ (B : List ℕ) (j w : ℕ) (lt : j < w) where
  pub args_on : (get_or B j 0 ≡ 255 → ⊥) → args_at B j (w - j) ≡ term_of (get_or B j 0) ∷ args_at B (j + 1) (w - (j + 1))
  args_on used = simp zero-add at (args_more B 0 j w lt (rw zero-add used))

  pub args_off : get_or B j 0 ≡ 255 → args_at B j (w - j) ≡ []
  args_off free = simp zero-add at (args_end B 0 j w lt (rw zero-add free))

  pub unused_on : get_or B j 0 ≡ 255 → unused B j (w - j) ≡ unused B (j + 1) (w - (j + 1))
  unused_on free = simp zero-add at (unused_passes B 0 j w lt (rw zero-add free))

  pub unused_off : (get_or B j 0 ≡ 255 → ⊥) → unused B j (w - j) ≡ false
  unused_off used = simp zero-add at (unused_fails B 0 j w lt (rw zero-add used))

  pub used_off : is_term stored (get_or B j 0) ≡ false → used_first stored B j (w - j) ≡ unused B j (w - j)
  used_off e = simp zero-add at (used_stops B 0 j w lt stored (rw zero-add e))

  pub used_on : T (used_first stored B j (w - j)) → (get_or B j 0 ≡ 255 → ⊥)
      → T (is_term stored (get_or B j 0)) × T (used_first stored B (j + 1) (w - (j + 1)))
  used_on t used = simp zero-add at (used_more B 0 j w lt stored (rw zero-add t) (rw zero-add used))

-- the m bytes from d on
module _ (B : List ℕ) (d m : ℕ) where
  abbrev pub part : List ℕ
  part = take m (drop d B)

  pub byte : (j : ℕ) → j < m → get_or part j 0 ≡ get_or B (d + j) 0
  byte j h = get_or-take m (drop d B) j 0 h ∙ get_or-drop d B j 0

  pub args_part : (w i : ℕ) → i + w ≤ m → args_at part i w ≡ args_at B (d + i) w
  unfolding args_at
  args_part zero i h = refl
  args_part (suc w) i h =
      let next : args_at part (i + 1) w ≡ args_at B (d + i + 1) w
      = args_part w (i + 1) (omega arith) ∙ ap (λ (x : ℕ). args_at B x w) (omega arith) in
      rw (byte i (omega arith), next)

  unused_part : (w i : ℕ) → i + w ≤ m → unused part i w ≡ unused B (d + i) w
  unfolding unused
  unused_part zero i h = refl
  unused_part (suc w) i h =
      let next : unused part (i + 1) w ≡ unused B (d + i + 1) w
      = unused_part w (i + 1) (omega arith) ∙ ap (λ (x : ℕ). unused B x w) (omega arith) in
      rw (byte i (omega arith), next)

  pub used_part : (w i : ℕ) → i + w ≤ m → used_first stored part i w ≡ used_first stored B (d + i) w
  unfolding used_first
  used_part zero i h = refl
  used_part (suc w) i h =
      let next : used_first stored part (i + 1) w ≡ used_first stored B (d + i + 1) w
      = used_part w (i + 1) (omega arith) ∙ ap (λ (x : ℕ). used_first stored B x w) (omega arith) in
      rw (byte i (omega arith), next, unused_part (suc w) i h)

  pub atom_part : (i : ℕ) → i + 7 ≤ m → atom_at stored part i ≡ atom_at stored B (d + i)
  unfolding atom_at
  atom_part i h =
      let next : args_at part (i + 1) 6 ≡ args_at B (d + i + 1) 6
      = args_part 6 (i + 1) (omega arith) ∙ ap (λ (x : ℕ). args_at B x 6) (omega arith) in
      rw (byte i (omega arith), next)

  pub is_part : (i : ℕ) → i + 7 ≤ m → is_atom stored part i ≡ is_atom stored B (d + i)
  unfolding is_atom are_places
  is_part i h =
      let first : get_or part (i + 1) 0 ≡ get_or B (d + i + 1) 0
      = byte (i + 1) (omega arith) ∙ ap (λ (x : ℕ). get_or B x 0) (omega arith) in
      let next : used_first stored part (i + 1) 6 ≡ used_first stored B (d + i + 1) 6
      = used_part 6 (i + 1) (omega arith) ∙ ap (λ (x : ℕ). used_first stored B x 6) (omega arith) in
      rw (byte i (omega arith), first, next)

  pub atoms_part : (n i : ℕ) → i + n * 7 ≤ m → atoms_at stored part i n ≡ atoms_at stored B (d + i) n
  unfolding atoms_at
  atoms_part zero i h = refl
  atoms_part (suc n) i h =
      let next : atoms_at stored part (i + 7) n ≡ atoms_at stored B (d + i + 7) n
      = atoms_part n (i + 7) (omega arith) ∙ ap (λ (x : ℕ). atoms_at stored B x n) (omega arith) in
      rw (atom_part i (omega arith), next)

  pub are_part : (n i : ℕ) → i + n * 7 ≤ m → are_atoms stored part i n ≡ are_atoms stored B (d + i) n
  unfolding are_atoms
  are_part zero i h = refl
  are_part (suc n) i h =
      let next : are_atoms stored part (i + 7) n ≡ are_atoms stored B (d + i + 7) n
      = are_part n (i + 7) (omega arith) ∙ ap (λ (x : ℕ). are_atoms stored B x n) (omega arith) in
      rw (is_part i (omega arith), next)

  -- what stands at its front
  module _ (h : 7 ≤ m) where
    pub first_part : atom_at stored part 0 ≡ atom_at stored B d
    first_part = atom_part 0 (omega arith) ∙ ap (atom_at stored B) (omega arith)

    pub first_is : is_atom stored part 0 ≡ is_atom stored B d
    first_is = is_part 0 (omega arith) ∙ ap (is_atom stored B) (omega arith)

  module _ (h : 6 ≤ m) where
    pub terms_part : args_at part 0 6 ≡ args_at B d 6
    terms_part = args_part 6 0 (omega arith) ∙ ap (λ (x : ℕ). args_at B x 6) (omega arith)

    pub terms_used : used_first stored part 0 6 ≡ used_first stored B d 6
    terms_used = used_part 6 0 (omega arith) ∙ ap (λ (x : ℕ). used_first stored B x 6) (omega arith)

-- an atom of a record, after n others, lent by itself
pub nth_part : (B : List ℕ) (n : ℕ)
    → atom_at stored (take (8 + n * 7 - (1 + n * 7)) (drop (1 + n * 7) B)) 0 ≡ atom_at stored B (1 + n * 7)
nth_part B n = first_part B (1 + n * 7) (8 + n * 7 - (1 + n * 7)) (omega arith)
