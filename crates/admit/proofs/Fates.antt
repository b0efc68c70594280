-- What becomes of one rewriting, by what the code finds of it (`specs/WorkingArray`, `FateIs`), and what it is of the union
-- in the array (`UnionFateIs`). Assumes nothing.
use mathlib.Core.Path.{◌≡◌, refl, sym, ◌∙◌, ap, ap₂, subst}
use mathlib.Core.Bool.{Bool, true, false, not}
use mathlib.Core.Logic.{◌⊎◌, inl, inr}
use mathlib.Core.List.Memᴰ
use mathlib.Core.List.{List, [], ◌∷◌, ◌++◌}
use Prim.Native.Nat.{ℕ, ◌+◌, ◌≤◌, ◌<◌}
use native.Mathlib.Omega.{arith}
use lib.Dec.{T}
use lib.ListN.{length, take, drop, set, length-set, length-append}
use Rattle.covering.specs.Lists.{◌∈◌}
use Rattle.covering.specs.Term.{Question}
use Rattle.covering.specs.Search.{covers}
use Rattle.covering.specs.Record.{stored, record_bytes, Fits}
use Rattle.covering.proofs.Tests.{true→T, false→T}
use Rattle.admit.specs.declared.Extent.{Extent}
use Rattle.admit.specs.declared.Fate.{Fate}
use Rattle.admit.specs.declared.Fate.TheVariants.{Dropped, Appended}
use Rattle.reading.specs.declared.Reason.{Reason}
use Rattle.reading.specs.declared.Reason.TheVariants.{TooLong, NoRoom}
use Rattle.std.specs.Prelude.{Result, Ok, Err}
use Rattle.exploration.specs.Run.{State, Limits, limits_for, too_long, no_room, covered, appended, admit, admitted, remaining}
use Rattle.exploration.specs.Steps.{New}
use Rattle.exploration.specs.Union.{first_at, output_size}
use Rattle.exploration.specs.Held.{held_bytes, held_from}
use Rattle.admit.specs.WorkingArray.{Working, rest, FateIs, UnionFateIs, HoldsState, state_in}
use Rattle.admit.specs.Sets.{SetsFrom, Beside}
use Rattle.records.specs.Relations.{relations_of}
use Rattle.exploration.proofs.Admits.{was_covered, was_long, was_full, was_admitted, admit_is}
use Rattle.exploration.proofs.Members.{members_count}
use Rattle.admit.proofs.Array.{state_held, held_working, len_most}
use Rattle.exploration.proofs.HeldBytes.{held_total_lem, held_most, held_last}
use Rattle.admit.proofs.Holding.{held_appended}
use Rattle.admit.proofs.Beside.{sets_more}

module _ (answers : ℕ) (one : answers ≤ 1) {W : List ℕ} {e : Extent} (w : Working W e) (P : Question) where
  abbrev U : List Question
  U = held_from W first_at e.count

  pub fate_dropped : {b : Bool} → b ≡ covered covers P (held_from W first_at e.count) → b ≡ true
      → FateIs (limits_for answers) W e P W e (Ok Dropped)
  fate_dropped h d =
      (admit_is covers (limits_for answers) (was_covered (true→T (covered covers P U) (sym h ∙ d))), refl, refl)

  module _ {b : Bool} (h : b ≡ covered covers P (held_from W first_at e.count)) (d : b ≡ false) where
    not_covered : T (not (covered covers P U))
    not_covered = false→T (covered covers P U) (sym h ∙ d)

    pub fate_long : 8 + answers < length P → FateIs (limits_for answers) W e P W e (Err TooLong)
    fate_long long = (too_long, admit_is covers (limits_for answers) (was_long not_covered long), refl)

    module _ (short : length P ≤ 8 + answers) {X : List ℕ} {f : Extent} (x : Working X f)
        (kept : state_in X f ≡ rest (state_in W e) P)
      where
        new : New covers (limits_for answers) (state_in W e) P
        new = record { uncovered = not_covered; short = short }

        left : f.count ≡ length (remaining covers P U)
        left =
            sym (members_count X first_at f.count) ∙ ap (λ (s : State). length s.members) kept

        pub fate_full : 64 ≤ f.count → FateIs (limits_for answers) W e P X f (Err NoRoom)
        fate_full full = (no_room, admit_is covers (limits_for answers) (was_full new (omega (arith, left))), refl)

        module _ (fits : Fits stored P) (room : f.count < 64) where
          abbrev longer : List Question
          longer = held_from X first_at f.count ++ P ∷ []

          in_longer : (G : Question → Type 0) → ((M : Question) → M ∈ held_from X first_at f.count → G M) → G P
              → (M : Question) → M ∈ longer → G M
          in_longer G each one M m = go (Memᴰ.append_cases (held_from X first_at f.count) m)
            where
              go : (M ∈ held_from X first_at f.count) ⊎ (M ∈ P ∷ []) → G M
              go (inl y) = each M y
              go (inr y) = subst G (sym (Memᴰ.eq_of_singleton y)) one

          all_short : (M : Question) → M ∈ longer → length M ≤ 9
          all_short = in_longer (λ M. length M ≤ 9) x.short (omega arith)

          -- there is room for its record
          pub room_left : f.len + length (record_bytes stored P) ≤ output_size
          room_left =
              let t =
              held_most longer
              (omega (arith, length-append (held_from X first_at f.count) (P ∷ []), members_count X first_at f.count))
              all_short in
              omega (
                arith,
                x.held.ends,
                held_total_lem (held_from X first_at f.count),
                held_total_lem longer,
                ap length (held_last (held_from X first_at f.count) P),
                length-append (held_bytes (held_from X first_at f.count)) (record_bytes stored P),
              )

          -- with the record put after the last one
          module _ (Y : List ℕ) (r : ℕ) (end : r ≡ f.len + length (record_bytes stored P))
              (put : Y ≡ take f.len X ++ (record_bytes stored P ++ drop r X))
            where
              next : State
              next = record { members = longer; explored = f.front }

              held : HoldsState Y r (f.count + 1) f.front next
              unfolding next
              held =
                  subst (λ (Z : List ℕ). HoldsState Z r (f.count + 1) f.front next) (sym put)
                  (subst
                  (λ (k : ℕ). HoldsState (take f.len X ++ (record_bytes stored P ++ drop k X)) k (f.count + 1) f.front
                  next)
                  (sym end)
                  (held_appended x.held (len_most x) P room_left))

              is_appended : next ≡ appended covers (state_in W e) P
              unfolding next
              is_appended =
                  ap (λ (s : State). record { members = s.members ++ P ∷ []; explored = s.explored }) kept

              all_fit : (M : Question) → M ∈ next.members → Fits stored M
              unfolding next
              all_fit = in_longer (Fits stored) x.fits fits

              pub fate_appended : FateIs (limits_for answers) W e P Y
                  (record { len = r; count = f.count + 1; front = f.front }) (Ok Appended)
              unfolding next
              fate_appended = (
                admit_is covers (limits_for answers) (was_admitted (record { new = new; fits = omega (arith, left) }))
                    ∙ ap admitted (sym (state_held held all_fit ∙ is_appended)),
                held_working held all_fit all_short (omega arith) (omega (arith, x.ahead)),
              )

              -- and its set is stored beside those of the others
              pub sets_appended : {S : List ℕ} {v : ℕ} → Beside S X f.count → v ≡ relations_of P
                  → Beside (set S f.count v) Y (f.count + 1)
              unfolding next
              sets_appended {S} {v} s is =
                  record {
                    size = length-set S f.count v ∙ s.size;
                    sets =
                        subst (SetsFrom (set S f.count v) 0)
                        (sym (ap (λ (t : State). t.members) (state_held held all_fit)))
                        (sets_more S (held_from X first_at f.count) P 0 f.count v
                        (omega (arith, members_count X first_at f.count))
                        (omega (arith, s.size))
                        is s.sets);
                  }

-- what became of it in an array that held the union s
pub union_fate : (lim : Limits) (W : List ℕ) (e : Extent) (P : Question) (X : List ℕ) (f : Extent) (s : State)
    (r : Result Fate Reason) → state_in W e ≡ s → FateIs lim W e P X f r → UnionFateIs lim s P (state_in X f) r
union_fate lim W e P X f s (Ok Dropped) was h = (
  ap (λ (u : State). admit covers lim u P) (sym was) ∙ h.0,
  ap₂ (λ (Z : List ℕ) (g : Extent). state_in Z g) h.1 h.2 ∙ was,
)
union_fate lim W e P X f s (Ok Appended) was h = ap (λ (u : State). admit covers lim u P) (sym was) ∙ h.0
union_fate lim W e P X f s (Err r) was h = (h.0, ap (λ (u : State). admit covers lim u P) (sym was) ∙ h.1, h.2)
