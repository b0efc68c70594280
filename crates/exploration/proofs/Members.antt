-- Members read from bytes, one after the other (`specs/Union`): the one at hand, those after it, and where they end.
-- Assumes nothing.
use mathlib.Core.Path.{◌≡◌, refl, sym, ◌∙◌, ap, ap₂}
use mathlib.Core.List.{List, [], ◌∷◌, ◌++◌}
use Prim.Native.Nat.{ℕ, zero, suc, ◌+◌, ◌-◌, ◌≤◌, ◌<◌}
use native.Mathlib.Omega.{arith}
use native.Mathlib.Nat.{sub-eq-zero_of_le}
use lib.ListN.{length, get_or, take, drop, length-append}
use lib.Seq.{get_or-drop, drop-drop}
use Rattle.covering.specs.Term.{Question}
use Rattle.covering.specs.Record.{stored, width, atoms_at, question_of, record_bytes, SoundRecord}
use Rattle.covering.proofs.RoundTrip.{stored_apart}
use Rattle.covering.proofs.Lengths.{count_atoms, record_long}
use Rattle.covering.proofs.Begun.{begun_long, begun_record}
use Rattle.covering.proofs.Places.{question_at_lem}
use Rattle.covering.proofs.Copied.{atoms_copied}
use Rattle.reading.specs.Word.{byte}
use Rattle.covering.proofs.Tests.{one_more}
use Rattle.exploration.specs.Held.{held_bytes, held_from, held_end}

-- the member at hand
module _ (W : List ℕ) (at : ℕ) where
  atoms_from : (j n : ℕ) → atoms_at stored (drop at W) j n ≡ atoms_at stored W (at + j) n
  atoms_from j n =
      atoms_copied stored W (drop at W) (omega arith) j (at + j) n
      (λ v l. get_or-drop at W (j + v) 0 ∙ ap (λ (k : ℕ). get_or W k 0) (omega arith))

  pub count_from : get_or (drop at W) 0 0 ≡ byte W at
  count_from = get_or-drop at W 0 0 ∙ ap (λ (k : ℕ). get_or W k 0) (omega arith)

  -- a question read from a place on is read from the part of the buffer that starts there
  pub question_from : question_of stored (drop at W) ≡ atoms_at stored W (at + 1) (byte W at)
  question_from = question_at_lem stored (drop at W) count_from ∙ atoms_from 1 (byte W at)

  pub member_width : length (record_bytes stored (question_of stored (drop at W))) ≡ width stored (byte W at)
  member_width = begun_long stored (drop at W) ∙ ap (width stored) count_from

  pub member_bytes : SoundRecord stored (drop at W)
      → take (width stored (byte W at)) (drop at W) ≡ record_bytes stored (question_of stored (drop at W))
  member_bytes s =
      ap (λ (n : ℕ). take (width stored n) (drop at W)) (sym count_from) ∙ begun_record stored (drop at W) stored_apart s

  -- it and those after it; and the same of n in all, of which i are passed
  pub members_step : (n : ℕ)
      → held_from W at (suc n) ≡ question_of stored (drop at W) ∷ held_from W (held_end W at) n
  unfolding held_from
  members_step n = ap (λ (N : Question). N ∷ held_from W (held_end W at) n) (sym question_from)

  pub members_more : (n i : ℕ) → i < n
      → held_from W at (n - i) ≡ question_of stored (drop at W) ∷ held_from W (held_end W at) (n - (i + 1))
  members_more n i h = ap (held_from W at) (one_more n i h) ∙ members_step (n - (i + 1))

  pub members_none : (n i : ℕ) → n ≤ i → held_from W at (n - i) ≡ []
  unfolding held_from
  members_none n i h = ap (held_from W at) (sub-eq-zero_of_le h)

-- members from a place on
module _ (W : List ℕ) where
  end_is : (i : ℕ) → held_end W i ≡ i + length (record_bytes stored (atoms_at stored W (i + 1) (byte W i)))
  end_is i =
      omega (
        arith,
        record_long stored (atoms_at stored W (i + 1) (byte W i)),
        count_atoms stored W (byte W i) (i + 1),
      )

  pub members_count : (i n : ℕ) → length (held_from W i n) ≡ n
  unfolding held_from
  members_count i zero = refl
  members_count i (suc n) = ap suc (members_count (held_end W i) n)

  -- where n members from i on end
  abbrev pub ending : ℕ → ℕ → ℕ
  ending i n = i + length (held_bytes (held_from W i n))

  pub ending_none : (i : ℕ) → i ≡ ending i 0
  unfolding held_from
  ending_none i = omega arith

  pub ending_next : (i k : ℕ) → ending (held_end W i) k ≡ ending i (suc k)
  unfolding held_from
  ending_next i k =
      omega (
        arith,
        end_is i,
        length-append (record_bytes stored (atoms_at stored W (i + 1) (byte W i)))
            (held_bytes (held_from W (held_end W i) k)),
      )

  pub members_split : (i k n : ℕ) → held_from W i (k + n) ≡ held_from W i k ++ held_from W (ending i k) n
  unfolding held_from
  members_split i zero n = ap₂ (held_from W) (ending_none i) (none_passed n)
    where
      none_passed : (n : ℕ) → 0 + n ≡ n
      none_passed n = omega arith
  members_split i (suc k) n =
      ap (held_from W i) (one_passed k n)
      ∙ ap (λ (U : List Question). atoms_at stored W (i + 1) (byte W i) ∷ U)
      (members_split (held_end W i) k n
      ∙ ap (λ (j : ℕ). held_from W (held_end W i) k ++ held_from W j n) (ending_next i k))
    where
      one_passed : (k n : ℕ) → suc k + n ≡ suc (k + n)
      one_passed k n = omega arith

-- the same bytes from a place on have the same members
module _ (W X : List ℕ) where
  count_same : (i : ℕ) → drop i X ≡ drop i W → byte X i ≡ byte W i
  count_same i e = sym (count_from X i) ∙ ap (λ (l : List ℕ). get_or l 0 0) e ∙ count_from W i

  pub later : (i : ℕ) → drop i X ≡ drop i W → drop (held_end W i) X ≡ drop (held_end W i) W
  later i e =
      sym (drop-drop (width stored (byte W i)) i X)
      ∙ ap (drop (width stored (byte W i))) e
      ∙ drop-drop (width stored (byte W i)) i W

  pub end_same : (i : ℕ) → drop i X ≡ drop i W → held_end X i ≡ held_end W i
  end_same i e = ap (λ (b : ℕ). i + width stored b) (count_same i e)

  pub members_same : (i n : ℕ) → drop i X ≡ drop i W → held_from X i n ≡ held_from W i n
  unfolding held_from
  members_same i zero e = refl
  members_same i (suc n) e =
      ap₂ ◌∷◌ (sym (question_from X i) ∙ ap (question_of stored) e ∙ question_from W i)
      (ap (λ (j : ℕ). held_from X j n) (end_same i e) ∙ members_same (held_end W i) n (later i e))
