-- A union with one member: its record is put into an empty array, and its set beside it. Assumes nothing.
use mathlib.Core.Path.{◌≡◌, refl, sym, subst}
use mathlib.Core.List.Memᴰ
use mathlib.Core.List.{List, [], ◌∷◌, ◌++◌}
use Prim.Native.Nat.{ℕ, ◌+◌, ◌≤◌}
use native.Mathlib.Omega.{arith}
use lib.ListN.{length, get_or, take, drop}
use Rattle.covering.specs.Lists.{◌∈◌}
use Rattle.covering.specs.Term.{Question}
use Rattle.covering.specs.Record.{stored, record_bytes, Fits}
use Rattle.covering.proofs.Lengths.{record_long}
use Rattle.records.specs.Relations.{relations_of}
use Rattle.exploration.specs.Union.{first_at, output_size}
use Rattle.exploration.proofs.HeldBytes.{held_total_lem}
use Rattle.admit.specs.WorkingArray.{Working, HoldsState, state_in, alone}
use Rattle.admit.specs.Sets.{SetsFrom, Beside}
use Rattle.admit.proofs.Holding.{held_appended}
use Rattle.admit.proofs.Stand.{held_members}
use Rattle.admit.proofs.Array.{state_held, held_working}

module _ (W : List ℕ) (size : length W ≡ output_size) (P : Question) (fits : Fits stored P) (short : length P ≤ 9) where
  empty : HoldsState W first_at 0 0 (record { members = []; explored = 0 })
  empty =
      record { size = size; bytes = refl; ends = sym (held_total_lem []); members = refl; explored = refl }

  room : first_at + length (record_bytes stored P) ≤ output_size
  room = omega (arith, record_long stored P, short)

  module _ (X : List ℕ) (r : ℕ) (end : r ≡ first_at + length (record_bytes stored P))
      (put : X ≡ take first_at W ++ (record_bytes stored P ++ drop r W))
    where
      held : HoldsState X r 1 0 (alone P)
      held =
          subst (λ (Z : List ℕ). HoldsState Z r 1 0 (alone P)) (sym put)
          (subst (λ (k : ℕ). HoldsState (take first_at W ++ (record_bytes stored P ++ drop k W)) k 1 0 (alone P))
          (sym end) (held_appended empty (omega arith) P room))

      each : (G : Question → Type 0) → G P → (M : Question) → M ∈ P ∷ [] → G M
      each G g M m = subst G (sym (Memᴰ.eq_of_singleton m)) g

      pub first_state : state_in X (record { len = r; count = 1; front = 0 }) ≡ alone P
      first_state = state_held held (each (Fits stored) fits)

      pub first_working : Working X (record { len = r; count = 1; front = 0 })
      first_working =
          held_working held (each (Fits stored) fits) (each (λ M. length M ≤ 9) short) (omega arith) (omega arith)

      pub first_beside : (S : List ℕ) → length S ≡ 64 → get_or S 0 0 ≡ relations_of P → Beside S X 1
      unfolding SetsFrom
      first_beside S long e =
          record {
            size = long;
            sets = subst (SetsFrom S 0) (sym (held_members X held (each (Fits stored) fits))) (e, tt);
          }
