-- Laws of the working array (`specs/WorkingArray`): a record put after the last one is one member more. Assumes nothing.
use mathlib.Core.Path.{◌≡◌, refl, sym, ◌∙◌, ap}
use mathlib.Core.List.{List, [], ◌∷◌, ◌++◌, append_assoc}
use Prim.Native.Nat.{ℕ, ◌+◌, ◌≤◌}
use native.Mathlib.Omega.{arith}
use lib.ListN.{length, take, drop, length-append, length-drop, take-append-drop}
use lib.Seq.{take_at, drop_at, drop-append-le, length-take-le}
use Rattle.covering.specs.Term.{Question}
use Rattle.covering.specs.Record.{stored, record_bytes}
use Rattle.exploration.specs.Run.{State}
use Rattle.exploration.specs.Union.{first_at, output_size}
use Rattle.exploration.specs.Held.{held_bytes}
use Rattle.admit.specs.WorkingArray.{HoldsState}
use Rattle.exploration.proofs.HeldBytes.{held_total_lem, held_last}

module _ {W : List ℕ} {len count front : ℕ} {s : State} (h : HoldsState W len count front s) where
  -- what stands before the end
  module _ (fits : len ≤ output_size) where
    low : first_at ≤ len
    low = omega (arith, h.ends, held_total_lem s.members)

    taken : length (take len W) ≡ len
    taken = length-take-le len W (omega (arith, h.size))

    inner : length (drop first_at (take len W)) ≡ length (held_bytes s.members)
    inner = length-drop first_at (take len W) ∙ omega (arith, taken, h.ends, held_total_lem s.members)

    pub front_stands : drop first_at (take len W) ≡ held_bytes s.members
    front_stands =
        sym (take_at (drop first_at (take len W)) (drop len W) (length (held_bytes s.members)) inner)
        ∙ ap (take (length (held_bytes s.members))) whole
        ∙ take_at (held_bytes s.members) (drop len W) (length (held_bytes s.members)) refl
      where
        whole : drop first_at (take len W) ++ drop len W ≡ held_bytes s.members ++ drop len W
        whole =
            sym (drop-append-le first_at (take len W) (drop len W) (omega (arith, taken, low)))
            ∙ ap (drop first_at) (take-append-drop len W)
            ∙ h.bytes

    -- appending: the record is put after the last one
    module _ (P : Question) where
      abbrev width : ℕ
      width = length (record_bytes stored P)

      abbrev longer : List ℕ
      longer = take len W ++ (record_bytes stored P ++ drop (len + width) W)

      pub held_appended : len + length (record_bytes stored P) ≤ output_size
          → HoldsState (take len W ++ (record_bytes stored P ++ drop (len + length (record_bytes stored P)) W))
          (len + length (record_bytes stored P)) (count + 1) front
          (record { members = s.members ++ P ∷ []; explored = s.explored })
      held_appended room =
          record {
            size =
                length-append (take len W) (record_bytes stored P ++ drop (len + width) W)
                ∙ omega (
                  arith,
                  taken,
                  length-append (record_bytes stored P) (drop (len + width) W),
                  length-drop (len + width) W,
                  h.size,
                );
            bytes =
                drop-append-le first_at (take len W) (record_bytes stored P ++ drop (len + width) W)
                (omega (arith, taken, low))
                ∙ ap (λ (l : List ℕ). l ++ (record_bytes stored P ++ drop (len + width) W)) front_stands
                ∙ sym (append_assoc (held_bytes s.members) (record_bytes stored P) (drop (len + width) W))
                ∙ ap (λ (l : List ℕ). l ++ drop (len + width) W) (sym (held_last s.members P))
                ∙ ap (λ (l : List ℕ). held_bytes (s.members ++ P ∷ []) ++ l) (sym past);
            ends =
                omega (
                  arith,
                  h.ends,
                  held_total_lem s.members,
                  held_total_lem (s.members ++ P ∷ []),
                  ap length (held_last s.members P),
                  length-append (held_bytes s.members) (record_bytes stored P),
                );
            members = omega (arith, h.members, length-append s.members (P ∷ []));
            explored = h.explored;
          }
        where
          past : drop (len + width) longer ≡ drop (len + width) W
          past =
              ap (drop (len + width)) (sym (append_assoc (take len W) (record_bytes stored P) (drop (len + width) W)))
              ∙ drop_at (take len W ++ record_bytes stored P) (drop (len + width) W) (len + width)
              (length-append (take len W) (record_bytes stored P) ∙ omega (arith, taken))
