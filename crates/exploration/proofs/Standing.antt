-- Laws of members that stand in bytes (`specs/Standing`): those that were written stand, and what is known of each.
-- Assumes nothing.
use mathlib.Core.Path.{◌≡◌, refl, sym, ◌∙◌, ap, subst}
use mathlib.Core.List.Memᴰ
use mathlib.Core.List.{List, [], ◌∷◌, ◌++◌, append_assoc}
use Prim.Native.Nat.{ℕ, ◌+◌, ◌-◌, ◌≤◌, ◌<◌, suc}
use native.Mathlib.Omega.{arith}
use lib.ListN.{length, get_or, drop, length-drop}
use lib.Seq.{drop-drop, drop_at, get_or-drop}
use Rattle.covering.specs.Lists.{◌∈◌}
use Rattle.covering.specs.Term.{Question}
use Rattle.covering.specs.Record.{stored, record_bytes, Fits, SoundRecord}
use Rattle.covering.proofs.Lengths.{record_is, record_long}
use Rattle.covering.proofs.RoundTrip.{stored_apart}
use Rattle.covering.proofs.Begun.{begun_sound}
use Rattle.reading.specs.Word.{byte}
use Rattle.exploration.specs.Held.{held_bytes, held_end}
use Rattle.exploration.specs.Held.{Standing}
use Rattle.covering.proofs.Tests.{one_more}
use Rattle.exploration.proofs.Members.{count_from}

module _ (W : List ℕ) where
  pub members_stand : (i : ℕ) (U : List Question) (R : List ℕ) → ((M : Question) → M ∈ U → Fits stored M)
      → drop i W ≡ held_bytes U ++ R → Standing W i (length U)
  unfolding Standing
  members_stand i [] R fits e = tt
  members_stand i (M ∷ U) R fits e = (
    subst (SoundRecord stored) (sym here)
        (begun_sound stored stored_apart M (held_bytes U ++ R) (fits M (Memᴰ.head refl))),
    subst (λ (k : ℕ). Standing W k (length U)) end
        (members_stand (i + length (record_bytes stored M)) U R (λ N x. fits N (Memᴰ.tail x)) next),
  )
    where
      here : drop i W ≡ record_bytes stored M ++ (held_bytes U ++ R)
      here = e ∙ append_assoc (record_bytes stored M) (held_bytes U) R

      zeroth : i ≡ i + 0
      zeroth = omega arith

      count : byte W i ≡ length M
      count =
          ap (λ (k : ℕ). get_or W k 0) zeroth
          ∙ sym (get_or-drop i W 0 0)
          ∙ ap (λ (l : List ℕ). get_or l 0 0)
          (here ∙ ap (λ (l : List ℕ). l ++ (held_bytes U ++ R)) (record_is stored M))

      end : i + length (record_bytes stored M) ≡ held_end W i
      end = omega (arith, count, record_long stored M)

      next : drop (i + length (record_bytes stored M)) W ≡ held_bytes U ++ R
      next =
          sym (drop-drop (length (record_bytes stored M)) i W)
          ∙ ap (drop (length (record_bytes stored M))) here
          ∙ drop_at (record_bytes stored M) (held_bytes U ++ R) (length (record_bytes stored M)) refl

-- what is known of the member at a place where one stands
pub record Here (W : List ℕ) (at n : ℕ) : Type 0 where
  pub sound : SoundRecord stored (drop at W)
  pub most : byte W at ≤ 12
  pub within : held_end W at ≤ length W
  pub rest : Standing W (held_end W at) n

pub stands_here : (W : List ℕ) (at n : ℕ) → Standing W at (suc n) → Here W at n
unfolding Standing
stands_here W at n s =
    let e = count_from W at in
    record {
      sound = s.0;
      most = omega (arith, s.0.most, e);
      within = omega (arith, s.0.fits, e, length-drop at W);
      rest = s.1;
    }

-- the same of n in all, of which i are passed
pub stands : (W : List ℕ) (at i n : ℕ) → i < n → Standing W at (n - i) → Here W at (n - (i + 1))
stands W at i n h s = stands_here W at (n - (i + 1)) (subst (Standing W at) (one_more n i h) s)
