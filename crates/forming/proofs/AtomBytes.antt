-- An atom by its bytes: the same bytes are the same atom and, of sound atoms, the other way round. The bytes of an
-- atom on a substitution are its places' bytes on it. Assumes nothing.
use mathlib.Core.Path.{◌≡◌, refl, sym, ◌∙◌, ap, ap₂, subst}
use mathlib.Core.Bool.{Bool, true, false, cond}
use mathlib.Core.Logic.{◌⊎◌, inl, inr}
use mathlib.Core.List.Memᴰ
use mathlib.Core.List.{List, [], ◌∷◌, map, append-nil, head-eq_of_cons-eq}
use Prim.Native.Nat.{ℕ, zero, suc, ◌+◌, ◌*◌, ◌≤◌, ◌<◌}
use native.Mathlib.Omega.{arith}
use native.Mathlib.Nat.{add-zero}
use borrow.Author.Count.{below_more}
use borrow.Author.Tests.{eq-eqb, ne_eqb, ltb-true, ltb-false}
use lib.Dec.{T, eqb, ltb, eqb→eq}
use lib.ListN.{length, get_or, take, drop, set}
use lib.Pointwise.{pointwise, bytes_decides}
use lib.Seq.{get_or-take, get_or-drop, get_or-set_same, get_or-set_other}
use Rattle.covering.specs.Lists.{◌∈◌}
use Rattle.covering.specs.Term.{Term, Atom, Sub, on_term, on_atom, eq_atom}
use Rattle.covering.specs.Record.{Layout, stored, size, term_of, args_at, atom_at, atoms_at, is_term, unused, used_first}
use Rattle.covering.specs.Record.{is_atom, are_atoms, byte_of, places_bytes, atom_bytes, AtomFits}
use Rattle.covering.specs.Buffer.{AtomIn}
use Rattle.forming.specs.Building.{sub_of}
use Rattle.covering.proofs.Tests.{either, both, fst_of, snd_of, true→T, T→true, no→false, false→no}
use Rattle.covering.proofs.Terms.{atom_path, eq_atom→eq, eq_atom_refl}
use Rattle.covering.proofs.Bytes.{term_var, term_con, atom_used, term_constant}
use Rattle.covering.proofs.RoundTrip.{atoms_read, atoms_back, TellsApart}
use Rattle.covering.proofs.Lengths.{atom_long}
use Rattle.covering.proofs.Fitting.{term_is_used}

further : (i k : ℕ) → i + suc k ≡ i + 1 + k
further i k = omega arith

-- a sound atom's bytes
pub atom_bytes_lem : (L : Layout) → TellsApart L → (B : List ℕ) (i : ℕ) → AtomIn L B i
    → take (size L) (drop i B) ≡ atom_bytes L (atom_at L B i)
unfolding atoms_at are_atoms
atom_bytes_lem L ap-L B i a =
    ap (λ n. take n (drop i B)) (sym one)
    ∙ sym (atoms_back L ap-L B 1 i (omega (arith, a.fits)) (both (is_atom L B i) true a.sound tt))
    ∙ append-nil (atom_bytes L (atom_at L B i))
  where
    one : 1 * size L ≡ size L
    one = omega arith

module _ (L : Layout) (B C : List ℕ) where
  args_same : (w i k : ℕ) → ((j : ℕ) → j < w → get_or B (i + j) 0 ≡ get_or C (k + j) 0) → args_at B i w ≡ args_at C k w
  unfolding args_at
  args_same zero i k h = refl
  args_same (suc w) i k h =
      ap₂
      (λ (b : ℕ) (r : List Term). cond (eqb b 255) [] (term_of b ∷ r))
      here
      (args_same w (i + 1) (k + 1) (λ j lt. rw (← further i j, ← further k j) (h (suc j) (omega arith))))
    where
      here : get_or B i 0 ≡ get_or C k 0
      here = simp add-zero at (h 0 (omega arith))

  module _ (i k : ℕ) where
    pub same_bytes : ((j : ℕ) → j < size L → get_or B (i + j) 0 ≡ get_or C (k + j) 0)
        → eq_atom (atom_at L B i) (atom_at L C k) ≡ true
    unfolding atom_at
    same_bytes h =
        ap (λ a. eq_atom (atom_at L B i) a) (sym same) ∙ T→true _ (eq_atom_refl (atom_at L B i))
      where
        same : atom_at L B i ≡ atom_at L C k
        same =
            atom_path
            (simp add-zero at (h 0 (omega arith)))
            (args_same L.places (i + 1) (k + 1)
            (λ j lt. rw (← further i j, ← further k j) (h (suc j) (omega arith))))

-- sound atoms are equal where their bytes are
pub equal_bytes : (L : Layout) → TellsApart L → (B C : List ℕ) (i k m n : ℕ) → AtomIn L B i → AtomIn L C k
    → m ≡ size L → n ≡ size L
    → pointwise eqb (take m (drop i B)) (take n (drop k C)) ≡ eq_atom (atom_at L B i) (atom_at L C k)
equal_bytes L ap-L B C i k m n a b e f =
    ap₂ (λ (x y : ℕ). pointwise eqb (take x (drop i B)) (take y (drop k C))) e f
    ∙ go (either (eq_atom (atom_at L B i) (atom_at L C k)))
  where
    X : List ℕ
    X = take (size L) (drop i B)

    Y : List ℕ
    Y = take (size L) (drop k C)

    byte : X ≡ Y → (j : ℕ) → j < size L → get_or B (i + j) 0 ≡ get_or C (k + j) 0
    byte e j lt =
        sym (get_or-take (size L) (drop i B) j 0 lt ∙ get_or-drop i B j 0)
        ∙ ap (λ l. get_or l j 0) e
        ∙ (get_or-take (size L) (drop k C) j 0 lt ∙ get_or-drop k C j 0)

    go : (eq_atom (atom_at L B i) (atom_at L C k) ≡ true) ⊎ (eq_atom (atom_at L B i) (atom_at L C k) ≡ false)
        → pointwise eqb X Y ≡ eq_atom (atom_at L B i) (atom_at L C k)
    go (inl e) =
        (bytes_decides X Y).1
        (atom_bytes_lem L ap-L B i a
        ∙ ap (atom_bytes L) (eq_atom→eq _ _ (true→T _ e))
        ∙ sym (atom_bytes_lem L ap-L C k b))
        ∙ sym e
    go (inr e) =
        no→false _ (λ t. false→no _ e (true→T _ (same_bytes L B C i k (byte ((bytes_decides X Y).0 (T→true _ t))))))
        ∙ sym e

-- the places of a sound atom, at an index
module _ (B : List ℕ) where
  unused_at : (w i k : ℕ) → T (unused B i w) → k < w → get_or B (i + k) 0 ≡ 255
  unfolding unused
  unused_at zero i k t lt = absurd (omega arith)
  unused_at (suc w) i zero t lt = rw add-zero (eqb→eq (get_or B i 0) 255 (fst_of (eqb (get_or B i 0) 255) _ t))
  unused_at (suc w) i (suc k) t lt =
      rw further (unused_at w (i + 1) k (snd_of (eqb (get_or B i 0) 255) _ t) (omega arith))

  pub place_is : (L : Layout) (w i k : ℕ) → T (used_first L B i w) → k < w
      → T (is_term L (get_or B (i + k) 0)) ⊎ (get_or B (i + k) 0 ≡ 255)
  unfolding used_first
  place_is L zero i k t lt = absurd (omega arith)
  place_is L (suc w) i k t lt = go k lt (is_term L (get_or B i 0)) refl t (λ j u h. place_is L w (i + 1) j u h)
    where
      Is : ℕ → Type 0
      Is b = T (is_term L b) ⊎ (b ≡ 255)

      go : (k : ℕ) → k < suc w → (q : Bool) → is_term L (get_or B i 0) ≡ q
          → T (cond q (used_first L B (i + 1) w) (unused B i (suc w)))
          → ((j : ℕ) → T (used_first L B (i + 1) w) → j < w → Is (get_or B (i + 1 + j) 0)) → Is (get_or B (i + k) 0)
      go zero lt true e t below = rw add-zero (inl (true→T _ e))
      go (suc k) lt true e t below = rw further (below k t (omega arith))
      go k lt false e t below = inr (unused_at (suc w) i k t lt)

-- a byte of a sound atom of the desk, after the first, is a variable's, a constant's or 255
pub place_byte : (B : List ℕ) (i j : ℕ) → T (is_atom stored B i) → 0 < j → j < 7 → 96 ≤ get_or B (i + j) 0
    → 128 ≤ get_or B (i + j) 0
place_byte B i zero t pos lt le = elim pos [ ]
place_byte B i (suc k) t pos lt le = go (place_is B stored 6 (i + 1) k (atom_used stored B i t) (omega arith))
  where
    e : i + suc k ≡ i + 1 + k
    e = further i k

    go : T (is_term stored (get_or B (i + 1 + k) 0)) ⊎ (get_or B (i + 1 + k) 0 ≡ 255) → 128 ≤ get_or B (i + suc k) 0
    go (inl u) = rw e (term_constant stored _ u (rw e at le))
    go (inr f) = rw (e, f) (omega arith)

free_at : (w k : ℕ) → k < w → get_or (places_bytes w []) k 0 ≡ 255
free_at zero k lt = absurd (omega arith)
free_at (suc w) zero lt = refl
free_at (suc w) (suc k) lt = free_at w k (omega arith)

-- the bytes of a sound atom's places, each on the substitution: a place that is not used stays 255
module _ (L : Layout) (ap-L : TellsApart L) (s : Sub) (B : List ℕ) where
  abbrev pub byte_on : ℕ → ℕ
  byte_on b = byte_of (on_term s (term_of b))

  places_on : (w i k : ℕ) → T (used_first L B i w) → k < w
      → get_or (places_bytes w (map (on_term s) (args_at B i w))) k 0 ≡ byte_on (get_or B (i + k) 0)
  unfolding used_first args_at term_of
  places_on zero i k t lt = absurd (omega arith)
  places_on (suc w) i k t lt = go k lt (is_term L (get_or B i 0)) refl t (λ j u h. places_on w (i + 1) j u h)
    where
      b : ℕ
      b = get_or B i 0

      go : (k : ℕ) → k < suc w → (q : Bool) → is_term L b ≡ q
          → T (cond q (used_first L B (i + 1) w) (unused B i (suc w)))
          → ((j : ℕ) → T (used_first L B (i + 1) w) → j < w
          → get_or (places_bytes w (map (on_term s) (args_at B (i + 1) w))) j 0 ≡ byte_on (get_or B (i + 1 + j) 0))
          → get_or (places_bytes (suc w) (map (on_term s) (args_at B i (suc w)))) k 0 ≡ byte_on (get_or B (i + k) 0)
      go zero lt true e t below =
          rw (ne_eqb b 255 (term_is_used L ap-L b (true→T _ e)), add-zero) refl
      go (suc k) lt true e t below =
          rw (ne_eqb b 255 (term_is_used L ap-L b (true→T _ e)), further i k) (below k t (omega arith))
      go k lt false e t below =
          rw (eq-eqb b 255 first, unused_at B (suc w) i k t lt) (free_at (suc w) k lt)
        where
          first : b ≡ 255
          first = simp add-zero at (unused_at B (suc w) i 0 t (omega arith))

  pub atom_on_relation : (i : ℕ) → get_or (atom_bytes L (on_atom s (atom_at L B i))) 0 0 ≡ get_or B i 0
  unfolding atom_bytes atom_at
  atom_on_relation i = refl

  pub atom_on_place : (i j : ℕ) → T (is_atom L B i) → 0 < j → j < size L
      → get_or (atom_bytes L (on_atom s (atom_at L B i))) j 0 ≡ byte_on (get_or B (i + j) 0)
  unfolding atom_bytes atom_at
  atom_on_place i zero t pos lt = elim pos [ ]
  atom_on_place i (suc k) t pos lt =
      rw (further i k) (places_on L.places (i + 1) k (atom_used L B i t) (omega arith))

-- what a table has for a variable
pub table_at : (table : List ℕ) (n : ℕ) → sub_of table n ≡ term_of (get_or table n 0)
unfolding sub_of
table_at table n = refl

-- a byte on a table
pub variable_on : (table : List ℕ) (t : ℕ) → t < 128 → byte_of (on_term (sub_of table) (term_of t)) ≡ get_or table t 0
unfolding sub_of
variable_on table t h = ap (λ u. byte_of (on_term (sub_of table) u)) (term_var t h) ∙ back (get_or table t 0)
  where
    back : (b : ℕ) → byte_of (term_of b) ≡ b
    back b = go (either (ltb b 128))
      where
        go : (ltb b 128 ≡ true) ⊎ (ltb b 128 ≡ false) → byte_of (term_of b) ≡ b
        go (inl e) = ap byte_of (term_var b (ltb-true b 128 e))
        go (inr e) = let le = ltb-false b 128 e in ap byte_of (term_con b le) ∙ omega arith

pub constant_on : (s : Sub) (t : ℕ) → 128 ≤ t → byte_of (on_term s (term_of t)) ≡ t
constant_on s t h = ap (λ u. byte_of (on_term s u)) (term_con t h) ∙ omega arith

-- one store more of a list that is filled from the left
pub set_agrees : (A D : List ℕ) (j v : ℕ) → j < length A → ((m : ℕ) → m < j → get_or A m 0 ≡ get_or D m 0)
    → v ≡ get_or D j 0 → (m : ℕ) → m < j + 1 → get_or (set A j v) m 0 ≡ get_or D m 0
set_agrees A D j v lt h e =
    below_more
    (λ m. get_or (set A j v) m 0 ≡ get_or D m 0)
    j
    (λ m k. get_or-set_other A j m v 0 (λ q. absurd (omega arith)) ∙ h m k)
    (get_or-set_same A j v 0 lt ∙ e)

-- an atom's own bytes
pub bytes_in : (L : Layout) → TellsApart L → (B : List ℕ) (a : Atom) → AtomFits L a → B ≡ atom_bytes L a
    → AtomIn L B 0 × (atom_at L B 0 ≡ a)
unfolding atoms_at are_atoms
bytes_in L ap-L B a f e =
    let r = atoms_read L ap-L B 0 (a ∷ []) [] only (e ∙ sym (append-nil (atom_bytes L a)) ∙ sym (append-nil _)) in
    let here : AtomIn L B 0 =
    record { fits = rw (e, atom_long L a) (omega arith); sound = fst_of (is_atom L B 0) true r.1 } in
    (here, head-eq_of_cons-eq r.0)
  where
    only : (b : Atom) → b ∈ a ∷ [] → AtomFits L b
    only b m = subst (AtomFits L) (sym (Memᴰ.eq_of_singleton m)) f
