-- Atoms of w places written with v: the terms as they are, the rest 255. Over both numbers of places. Assumes nothing.
use mathlib.Core.Path.{◌≡◌, refl, sym, ◌∙◌, ap, ap₂}
use mathlib.Core.Bool.{Bool, true, false, cond, ◌&&◌}
use mathlib.Core.Logic.{◌⊎◌, inl, inr}
use mathlib.Core.List.{List, [], ◌∷◌, ◌++◌}
use Prim.Native.Nat.{ℕ, zero, suc, ◌+◌, ◌*◌, ◌-◌, ◌≤◌, ◌<◌}
use native.Mathlib.Omega.{arith}
use borrow.Author.Tests.{ltb-true, ltb-false, lt-ltb, le-ltb}
use lib.Dec.{T, eqb, ltb, eqb→eq}
use lib.ListN.{length, get_or, drop, replicate, length-replicate}
use Rattle.covering.specs.Lists.{gather}
use Rattle.covering.specs.Term.{Question}
use Rattle.covering.specs.Record.{Layout, holding, stored, size, term_of, args_at, atom_at, unused}
use Rattle.covering.specs.Record.{used_first, is_term, is_atom, places_bytes, atom_bytes, record_bytes}
use Rattle.covering.specs.Buffer.{held_in, place_or}
use Rattle.covering.specs.Put.{Puts}
use Rattle.covering.proofs.Tests.{either, fst_of, snd_of, true→T, false→no}
use Rattle.covering.proofs.Bytes.{atom_used}
use Rattle.covering.proofs.RoundTrip.{TellsApart, holding_apart, byte_back}
use Rattle.covering.proofs.Fitting.{term_is_used}
use Rattle.covering.proofs.Lengths.{record_is, record_long, atoms_long}
use Rattle.covering.proofs.Slices.{rest_free}

none_used : (v j : ℕ) → j < v → get_or (places_bytes v []) j 0 ≡ 255
none_used zero j h = absurd (omega arith)
none_used (suc v) zero h = refl
none_used (suc v) (suc j) h = none_used v j (omega arith)

all_unused : (B : List ℕ) (i w j : ℕ) → T (unused B i w) → j < w → get_or B (i + j) 0 ≡ 255
unfolding unused
all_unused B i zero j t h = absurd (omega arith)
all_unused B i (suc w) zero t h =
    let here : i + 0 ≡ i = omega arith in
    ap (λ (k : ℕ). get_or B k 0) here ∙ eqb→eq _ _ (fst_of (eqb (get_or B i 0) 255) _ t)
all_unused B i (suc w) (suc j) t h =
    let next : i + suc j ≡ i + 1 + j = omega arith in
    ap (λ (k : ℕ). get_or B k 0) next
    ∙ all_unused B (i + 1) w j (snd_of (eqb (get_or B i 0) 255) _ t) (omega arith)

or_unused : (B : List ℕ) (i w j : ℕ) → T (unused B i w) → place_or B i w j ≡ 255
or_unused B i w j t = go (either (ltb j w))
  where
    go : (ltb j w ≡ true) ⊎ (ltb j w ≡ false) → place_or B i w j ≡ 255
    go (inl h) = rw h (all_unused B i w j t (ltb-true j w h))
    go (inr h) = rw h

both_next : (k w : ℕ) → ltb (suc k) (suc w) ≡ ltb k w
both_next k w = go (either (ltb k w))
  where
    go : (ltb k w ≡ true) ⊎ (ltb k w ≡ false) → ltb (suc k) (suc w) ≡ ltb k w
    go (inl h) = let l = ltb-true k w h in lt-ltb (suc k) (suc w) (omega arith) ∙ sym h
    go (inr h) = let l = ltb-false k w h in le-ltb (suc k) (suc w) (omega arith) ∙ sym h

module _ (L : Layout) (ap-L : TellsApart L) (B : List ℕ) where
  -- the byte in each of the v places
  pub place_byte : (w v i j : ℕ) → T (used_first L B i w) → length (args_at B i w) ≤ v → j < v
      → get_or (places_bytes v (args_at B i w)) j 0 ≡ place_or B i w j
  unfolding used_first unused args_at
  place_byte zero v i j t le h = none_used v j h ∙ sym (or_unused B i 0 j tt)
  place_byte (suc w) v i j t le h =
      go (eqb b 255) refl (is_term L b) refl t v j le h (λ u k. place_byte w u (i + 1) k)
    where
      b : ℕ
      b = get_or B i 0

      first : place_or B i (suc w) 0 ≡ b
      first =
          let here : i + 0 ≡ i = omega arith in
          rw (lt-ltb 0 (suc w) (omega arith)) (ap (λ (k : ℕ). get_or B k 0) here)

      next : (k : ℕ) → place_or B (i + 1) w k ≡ place_or B i (suc w) (suc k)
      next k =
          let n : i + 1 + k ≡ i + suc k = omega arith in
          ap₂ (λ (x : Bool) (m : ℕ). cond x (get_or B m 0) 255) (sym (both_next k w)) n

      go : (e : Bool) → eqb b 255 ≡ e → (q : Bool) → is_term L b ≡ q
          → T (cond q (used_first L B (i + 1) w) (eqb b 255 && unused B (i + 1) w))
          → (v j : ℕ) → length (cond e [] (term_of b ∷ args_at B (i + 1) w)) ≤ v → j < v
          → ((v j : ℕ) → T (used_first L B (i + 1) w) → length (args_at B (i + 1) w) ≤ v → j < v
          → get_or (places_bytes v (args_at B (i + 1) w)) j 0 ≡ place_or B (i + 1) w j)
          → get_or (places_bytes v (cond e [] (term_of b ∷ args_at B (i + 1) w))) j 0 ≡ place_or B i (suc w) j
      go true p true q t v j le h below =
          absurd (term_is_used L ap-L b (true→T _ q) (eqb→eq b 255 (true→T _ p)))
      go true p false q t v j le h below = none_used v j h ∙ sym (or_unused B i (suc w) j t)
      go false p true q t zero j le h below = absurd (omega arith)
      go false p true q t (suc v) zero le h below = byte_back b ∙ sym first
      go false p true q t (suc v) (suc j) le h below = below v j t (omega arith) (omega arith) ∙ next j
      go false p false q t v j le h below = absurd (false→no (eqb b 255) p (fst_of (eqb b 255) _ t))

-- each byte of an atom that is written with v places: the relation's, which counts as one place more, and the places'
pub atom_byte : (w v : ℕ) (B : List ℕ) (i j : ℕ) → T (is_atom (holding w) B i)
    → length (atom_at (holding w) B i).args ≤ v → j < 1 + v
    → get_or (atom_bytes (holding v) (atom_at (holding w) B i)) j 0 ≡ place_or B i (1 + w) j
unfolding atom_bytes atom_at
atom_byte w v B i zero t le h =
    let here : i + 0 ≡ i = omega arith in
    rw (lt-ltb 0 (1 + w) (omega arith)) (ap (λ (k : ℕ). get_or B k 0) (sym here))
atom_byte w v B i (suc j) t le h =
    place_byte (holding w) (holding_apart w) B w v (i + 1) j (atom_used (holding w) B i t) le (omega arith)
    ∙ ap₂ (λ (x : Bool) (m : ℕ). cond x (get_or B m 0) 255) (sym (both_next j w) ∙ ap (ltb (suc j)) one) next
  where
    one : suc w ≡ 1 + w
    one = omega arith

    next : i + 1 + j ≡ i + suc j
    next = omega arith

-- atoms put behind their count, in bytes that were 255, are the record of their question
pub put_held : (A : Question) (n m e : ℕ) (X : List ℕ) → length A ≡ n
    → Puts (gather (atom_bytes stored) A) (n ∷ replicate m 255) 1 e X → X ≡ held_in stored (suc m) A
unfolding held_in
put_held A n m e X count p =
    p.puts
    ∙ ap₂ (λ (k : ℕ) (r : List ℕ). k ∷ (gather (atom_bytes stored) A ++ r)) (sym count) left
    ∙ ap (λ (l : List ℕ). l ++ replicate (suc m - length (record_bytes stored A)) 255) (sym (record_is stored A))
  where
    long : length (gather (atom_bytes stored) A) ≡ length A * size stored
    long = atoms_long stored A

    left : drop e (n ∷ replicate m 255) ≡ replicate (suc m - length (record_bytes stored A)) 255
    left =
        let whole : length (n ∷ replicate m 255) ≡ suc m = ap suc (length-replicate m 255) in
        let last : e ≡ suc (length A * size stored) = omega (arith, p.ends, long) in
        let room : length A * size stored ≤ m = omega (arith, p.within, whole, last) in
        let fewer : m - length A * size stored ≡ suc m - length (record_bytes stored A) =
        omega (arith, record_long stored A) in
        ap (λ (k : ℕ). drop k (n ∷ replicate m 255)) last
        ∙ rest_free (length A * size stored) m room
        ∙ ap (λ (k : ℕ). replicate k 255) fewer
