-- Members as the code holds them: how many bytes they take, one member more, and what is read back from where they stand.
-- Assumes nothing.
use mathlib.Core.Path.{◌≡◌, refl, sym, ◌∙◌, ap, ap₂}
use mathlib.Core.List.Memᴰ
use mathlib.Core.List.{List, [], ◌∷◌, ◌++◌, append_assoc, append-nil}
use Prim.Native.Nat.{ℕ, ◌+◌, ◌*◌, ◌≤◌}
use native.Mathlib.Omega.{arith}
use lib.ListN.{length, get_or, drop, length-append}
use lib.Seq.{get_or-drop, drop-drop, drop-append_seam}
use Rattle.covering.specs.Lists.{◌∈◌, gather}
use Rattle.covering.specs.Term.{Question}
use Rattle.covering.specs.Record.{stored, size, atoms_at, atom_bytes, record_bytes, Fits}
use Rattle.covering.proofs.Lengths.{record_is, record_long}
use Rattle.covering.proofs.RoundTrip.{atoms_read, stored_apart}
use Rattle.reading.specs.Word.{byte}
use Rattle.exploration.specs.Union.{output_size}
use Rattle.exploration.specs.Held.{held_bytes, held_total, held_end, held_from}

pub held_total_lem : (U : List Question) → held_total U ≡ 8 + length (held_bytes U)
unfolding held_total
held_total_lem U = refl

held_length : (U : List Question) (m : ℕ) → ((M : Question) → M ∈ U → length M ≤ m)
    → length (held_bytes U) ≤ length U * (1 + m * size stored)
held_length [] m h = omega arith
held_length (M ∷ U) m h =
    let one = h M (Memᴰ.head refl) in
    let two : length (held_bytes U) ≤ length U * (1 + m * size stored) =
    held_length U m (λ N x. h N (Memᴰ.tail x)) in
    omega (arith, record_long stored M, length-append (record_bytes stored M) (held_bytes U))

-- 64 members of nine atoms, an answer record among them, take what an output must have room for
pub held_most : (U : List Question) → length U ≤ 64 → ((M : Question) → M ∈ U → length M ≤ 9)
    → held_total U ≤ output_size
held_most U few short = let h = held_length U 9 short in omega (arith, held_total_lem U)

pub held_append : (A R : List Question) → held_bytes (A ++ R) ≡ held_bytes A ++ held_bytes R
held_append [] R = refl
held_append (M ∷ A) R =
    ap (λ (l : List ℕ). record_bytes stored M ++ l) (held_append A R)
    ∙ sym (append_assoc (record_bytes stored M) (held_bytes A) (held_bytes R))

-- one member more at the end
pub held_last : (U : List Question) (P : Question) → held_bytes (U ++ P ∷ []) ≡ held_bytes U ++ record_bytes stored P
held_last U P =
    held_append U (P ∷ []) ∙ ap (λ (l : List ℕ). held_bytes U ++ l) (append-nil (record_bytes stored P))

-- what stands at the front of a part of a buffer, and what after its first bytes
module _ (W : List ℕ) where
  pub front : (i b : ℕ) (R : List ℕ) → drop i W ≡ b ∷ R → byte W i ≡ b
  front i b R e =
      let here : i ≡ i + 0 = omega arith in
      ap (λ (k : ℕ). get_or W k 0) here ∙ sym (get_or-drop i W 0 0) ∙ ap (λ (l : List ℕ). get_or l 0 0) e

  pub past : (i m : ℕ) (S R : List ℕ) → length S ≡ m → drop i W ≡ S ++ R → drop (i + m) W ≡ R
  past i m S R e d =
      sym (drop-drop m i W)
      ∙ ap₂ drop (sym e) d
      ∙ drop-append_seam S R

  -- members read back from where they stand
  pub held_read : (i : ℕ) (U : List Question) (R : List ℕ) → ((M : Question) → M ∈ U → Fits stored M)
      → drop i W ≡ held_bytes U ++ R → held_from W i (length U) ≡ U
  unfolding held_from
  held_read i [] R fits e = refl
  held_read i (M ∷ U) R fits e =
      ap₂ ◌∷◌
      (ap (atoms_at stored W (i + 1)) count
      ∙ (atoms_read stored stored_apart W (i + 1) M (held_bytes U ++ R) (fits M (Memᴰ.head refl)).each rest).0)
      (ap (λ (k : ℕ). held_from W k (length U)) end
      ∙ held_read (i + length (record_bytes stored M)) U R (λ N x. fits N (Memᴰ.tail x)) next)
    where
      here : drop i W ≡ record_bytes stored M ++ (held_bytes U ++ R)
      here = e ∙ append_assoc (record_bytes stored M) (held_bytes U) R

      split : drop i W ≡ length M ∷ (gather (atom_bytes stored) M ++ (held_bytes U ++ R))
      split = here ∙ ap (λ (l : List ℕ). l ++ (held_bytes U ++ R)) (record_is stored M)

      count : byte W i ≡ length M
      count = front i (length M) (gather (atom_bytes stored) M ++ (held_bytes U ++ R)) split

      rest : drop (i + 1) W ≡ gather (atom_bytes stored) M ++ (held_bytes U ++ R)
      rest = past i 1 (length M ∷ []) (gather (atom_bytes stored) M ++ (held_bytes U ++ R)) refl split

      end : held_end W i ≡ i + length (record_bytes stored M)
      end = omega (arith, count, record_long stored M)

      next : drop (i + length (record_bytes stored M)) W ≡ held_bytes U ++ R
      next = past i (length (record_bytes stored M)) (record_bytes stored M) (held_bytes U ++ R) refl here
