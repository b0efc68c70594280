-- An atom's places where they stand among other bytes, in F from i on and in S from k on. The places that the code lends
-- are parts of such bytes, so what `Sent` and `Meeting` say of those holds of these. Assumes nothing.
use mathlib.Core.Path.{◌≡◌, refl, sym, ◌∙◌, ap, ap₂, subst}
use mathlib.Core.Bool.{cond}
use mathlib.Core.List.{List}
use mathlib.Core.Option.{some}
use Prim.Native.Nat.{ℕ, zero, suc, ◌+◌, ◌≤◌, ◌<◌}
use native.Mathlib.Omega.{arith}
use lib.Dec.{T, ltb}
use lib.ListN.{length, get_or, set}
use Rattle.covering.specs.Lists.{is_some}
use Rattle.covering.specs.Search.{place_atom}
use Rattle.covering.specs.Record.{stored, atom_at, is_atom}
use Rattle.covering.proofs.Bytes.{atom_used}
use Rattle.cover.specs.HeldMap.{part_of, put, sent_to, HadBefore, taken_back}
use Rattle.cover.proofs.Parts.{part, byte, terms_part, terms_used}
use Rattle.cover.proofs.Sent.{back_whole}
use Rattle.cover.proofs.Meeting.{atom_placed}

-- the map m after j places of F from i on were sent to those of S from k on
unfoldable pub sent_from : List ℕ → List ℕ → List ℕ → ℕ → ℕ → ℕ → List ℕ
sent_from m F S i k zero = m
sent_from m F S i k (suc j) = put (sent_from m F S i k j) (get_or F (i + j) 0) (get_or S (k + j) 0)

-- h has, for each of the j places that is a variable, where it went just before it was sent
pub record HadFrom (m F S : List ℕ) (i k j : ℕ) (h : List ℕ) : Type 0 where
  pub room : length h ≡ 6
  pub had : (n : ℕ) → n < j → get_or F (i + n) 0 < 96 → get_or h n 0 ≡ get_or (sent_from m F S i k n) (get_or F (i + n) 0) 0

-- the last of j places taken back first: each variable of F's goes again where h has it
unfoldable pub taken_from : List ℕ → List ℕ → ℕ → List ℕ → ℕ → List ℕ
taken_from m F i h zero = m
taken_from m F i h (suc j) =
    let t = get_or F (i + j) 0 in
    taken_from (cond (ltb t 96) (set m t (get_or h j 0)) m) F i h j

-- of the w bytes from there on they are the same
module _ (m F S : List ℕ) (i k w : ℕ) where
  pub sent_part : (j : ℕ) → j ≤ w → sent_from m F S i k j ≡ sent_to m (part F i w) (part S k w) j
  unfolding sent_from sent_to
  sent_part zero l = refl
  sent_part (suc j) l =
      ap (λ (n : List ℕ). put n (get_or F (i + j) 0) (get_or S (k + j) 0)) (sent_part j (omega arith))
      ∙ ap₂ (put (sent_to m (part F i w) (part S k w) j))
      (sym (byte F i w j (omega arith)))
      (sym (byte S k w j (omega arith)))

  had_part : (j : ℕ) (h : List ℕ) → j ≤ w → HadFrom m F S i k j h → HadBefore m (part F i w) (part S k w) j h
  had_part j h l b = record { room = b.room; had = λ n lt v. go n lt v (byte F i w n (omega arith)) }
    where
      go : (n : ℕ) → n < j → get_or (part F i w) n 0 < 96 → get_or (part F i w) n 0 ≡ get_or F (i + n) 0
          → get_or h n 0 ≡ get_or (sent_to m (part F i w) (part S k w) n) (get_or (part F i w) n 0) 0
      go n lt v e =
          b.had n lt (subst (λ (t : ℕ). t < 96) e v)
          ∙ ap₂ (λ (s : List ℕ) (t : ℕ). get_or s t 0) (sent_part n (omega arith)) (sym e)

taken_part : (F : List ℕ) (i w : ℕ) (h : List ℕ) (j : ℕ) (m : List ℕ) → j ≤ w
    → taken_from m F i h j ≡ taken_back m (part F i w) h j
unfolding taken_from taken_back
taken_part F i w h zero m l = refl
taken_part F i w h (suc j) m l =
    taken_part F i w h j (cond (ltb (get_or F (i + j) 0) 96) (set m (get_or F (i + j) 0) (get_or h j 0)) m) (omega arith)
    ∙ ap (λ (t : ℕ). taken_back (cond (ltb t 96) (set m t (get_or h j 0)) m) (part F i w) h j)
    (sym (byte F i w j (omega arith)))

-- what was sent is taken back, the last place first
pub back_whole_from : (m F S : List ℕ) (i k j : ℕ) (h : List ℕ) → HadFrom m F S i k j h
    → taken_from (sent_from m F S i k j) F i h j ≡ m
back_whole_from m F S i k j h b =
    taken_part F i j h j (sent_from m F S i k j) (omega arith)
    ∙ ap (λ (n : List ℕ). taken_back n (part F i j) h j) (sent_part m F S i k j j (omega arith))
    ∙ back_whole m (part F i j) (part S k j) j h (had_part m F S i k j j h (omega arith) b)

-- an atom that can be placed is placed by sending its places
pub atom_placed_from : (m F S : List ℕ) (i k : ℕ) → length m ≡ 96 → T (is_atom stored F i)
    → T (is_some (place_atom (part_of m) (atom_at stored F i) (atom_at stored S k)))
    → place_atom (part_of m) (atom_at stored F i) (atom_at stored S k) ≡ some (part_of (sent_from m F S (i + 1) (k + 1) 6))
atom_placed_from m F S i k l sound s =
    atom_placed m F S (part F (i + 1) 6) (part S (k + 1) 6) i k l
    (subst T (sym (terms_used F (i + 1) 6 (omega arith))) (atom_used stored F i sound))
    (terms_part F (i + 1) 6 (omega arith)) (terms_part S (k + 1) 6 (omega arith)) s
    ∙ ap (λ (n : List ℕ). some (part_of n)) (sym (sent_part m F S (i + 1) (k + 1) 6 6 (omega arith)))
