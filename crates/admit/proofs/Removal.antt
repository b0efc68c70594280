-- Laws of the removal (`specs/WorkingArray`): members passed one after the other, kept or not. Assumes nothing.
use mathlib.Core.Path.{◌≡◌, refl, sym, ◌∙◌, ap, subst}
use mathlib.Core.Bool.{Bool, true, false, cond, not}
use mathlib.Core.List.{List, ◌∷◌, ◌++◌, append_assoc, append-nil}
use Prim.Native.Nat.{ℕ, ◌+◌, ◌*◌, ◌-◌, ◌≤◌, ◌<◌}
use native.Mathlib.Omega.{arith}
use native.Mathlib.Nat.{sub-zero}
use lib.ListN.{length, get_or, take, drop, length-append, length-drop}
use lib.Seq.{drop-drop, drop_at, take_at, length-take-le}
use Rattle.covering.specs.Term.{Question}
use Rattle.covering.specs.Search.{covers}
use Rattle.covering.specs.Record.{stored, question_of, record_bytes, SoundRecord, width}
use Rattle.reading.specs.Word.{byte}
use Rattle.exploration.specs.Run.{remaining}
use Rattle.exploration.specs.Held.{held_bytes, held_from, held_end}
use Rattle.exploration.proofs.Members.{count_from, member_width, member_bytes, members_more, members_none}
use Rattle.admit.specs.WorkingArray.{Remain}
use Rattle.exploration.specs.Held.{Standing}
use Rattle.exploration.proofs.Standing.{Here, stands}
use Rattle.covering.proofs.Slices.{part_is}

-- The removal midway: i of the n members from `from` on are passed, the next one stands at `at`, the next kept one
-- goes to `end`, and `kept` were kept. What was kept and what is yet to be judged make up the whole.
pub record Midway (W : List ℕ) (from to n : ℕ) (P : Question) (X : List ℕ) (at end kept i : ℕ) : Type 0 where
  pub passed : i ≤ n
  pub size : length X ≡ length W
  pub lower : end ≤ at
  pub few : kept ≤ i
  pub standing : Standing W at (n - i)
  pub same : drop at X ≡ drop at W
  pub bytes : take end X ++ held_bytes (remaining covers P (held_from W at (n - i)))
      ≡ take to W ++ held_bytes (remaining covers P (held_from W from n))
  pub ends : end + length (held_bytes (remaining covers P (held_from W at (n - i))))
      ≡ to + length (held_bytes (remaining covers P (held_from W from n)))
  pub count : kept + length (remaining covers P (held_from W at (n - i))) ≡ length (remaining covers P (held_from W from n))
  pub place : at + length (held_bytes (held_from W at (n - i))) ≡ from + length (held_bytes (held_from W from n))

module _ (W : List ℕ) (from to n : ℕ) (P : Question) where
  pub midway_start : to ≤ from → Standing W from n → Midway W from to n P W from to 0 0
  midway_start l s =
      record {
        passed = omega arith;
        size = refl;
        lower = l;
        few = omega arith;
        standing = rw sub-zero s;
        same = refl;
        bytes = rw sub-zero;
        ends = rw sub-zero;
        count = rw sub-zero (omega arith);
        place = rw sub-zero;
      }

  module _ {X : List ℕ} {at end kept i : ℕ} (m : Midway W from to n P X at end kept i) where
    pub midway_done : n ≤ i → Remain W from to n P X (record { from = at; to = end; kept = kept })
    midway_done h =
        let none = members_none W at n i h in
        record {
          size = m.size;
          lower = m.lower;
          bytes =
              sym (append-nil (take end X))
              ∙ ap (λ (U : List Question). take end X ++ held_bytes (remaining covers P U)) (sym none)
              ∙ m.bytes;
          ends =
              omega (arith, m.ends, ap (λ (U : List Question). length (held_bytes (remaining covers P U))) none);
          count = omega (arith, m.count, ap (λ (U : List Question). length (remaining covers P U)) none);
          passed = omega (arith, m.place, ap (λ (U : List Question). length (held_bytes U)) none);
          after = m.same;
        }

    module _ (h : i < n) where
      pub here : Here W at (n - (i + 1))
      here = stands W at i n h m.standing

      -- the member at hand, in the array as it is now
      pub same_count : get_or X at 0 ≡ byte W at
      same_count =
          sym (count_from X at) ∙ ap (λ (l : List ℕ). get_or l 0 0) m.same ∙ count_from W at

      abbrev others : List Question
      others = held_from W (held_end W at) (n - (i + 1))

      abbrev this : Question
      this = question_of stored (drop at W)

      without_is : (b : Bool) → covers P (question_of stored (drop at W)) ≡ b
          → remaining covers P (held_from W at (n - i))
          ≡ cond (not b) (this ∷ remaining covers P others) (remaining covers P others)
      without_is b e =
          ap (remaining covers P) (members_more W at n i h)
          ∙ ap (λ (c : Bool). cond (not c) (this ∷ remaining covers P others) (remaining covers P others)) e

      place_next : held_end W at + length (held_bytes others) ≡ from + length (held_bytes (held_from W from n))
      place_next =
          omega (
            arith,
            m.place,
            ap (λ (U : List Question). length (held_bytes U)) (members_more W at n i h),
            length-append (record_bytes stored this) (held_bytes others),
            member_width W at,
          )

      -- the rewriting covers it: passed
      pub midway_gone : covers P (question_of stored (drop at W)) ≡ true
          → Midway W from to n P X (at + (1 + byte W at * 7)) end kept (i + 1)
      midway_gone e =
          let w = without_is true e in
          record {
            passed = omega arith;
            size = m.size;
            lower = omega (arith, m.lower);
            few = omega (arith, m.few);
            standing = here.rest;
            same =
                sym (drop-drop (1 + byte W at * 7) at X)
                ∙ ap (drop (1 + byte W at * 7)) m.same
                ∙ drop-drop (1 + byte W at * 7) at W;
            bytes = ap (λ (U : List Question). take end X ++ held_bytes U) (sym w) ∙ m.bytes;
            ends = omega (arith, m.ends, ap (λ (U : List Question). length (held_bytes U)) w);
            count = omega (arith, m.count, ap length w);
            place = place_next;
          }

      -- it does not: moved down
      pub midway_kept : covers P (question_of stored (drop at W)) ≡ false → (Y : List ℕ)
          → Y
          ≡ take end X ++ (take (1 + byte W at * 7) (drop at X) ++ drop (end + (1 + byte W at * 7)) X)
          → Midway W from to n P Y (at + (1 + byte W at * 7)) (end + (1 + byte W at * 7)) (kept + 1) (i + 1)
      midway_kept e Y y =
          record {
            passed = omega arith;
            size =
                ap length moved
                ∙ omega (
                  arith,
                  length-append (take end X) (record_bytes stored this ++ drop (end + width) X),
                  length-append (record_bytes stored this) (drop (end + width) X),
                  length-drop (end + width) X,
                  taken,
                  member_width W at,
                  inside,
                  m.size,
                );
            lower = omega (arith, m.lower);
            few = omega (arith, m.few);
            standing = here.rest;
            same =
                ap (λ (k : ℕ). drop k Y) past
                ∙ sym (drop-drop (at - end) (end + width) Y)
                ∙ ap (drop (at - end)) tail
                ∙ drop-drop (at - end) (end + width) X
                ∙ ap (λ (k : ℕ). drop k X) (sym past)
                ∙ sym (drop-drop width at X)
                ∙ ap (drop width) m.same
                ∙ drop-drop width at W;
            bytes =
                ap (λ (l : List ℕ). l ++ held_bytes (remaining covers P others)) front
                ∙ append_assoc (take end X) (record_bytes stored this) (held_bytes (remaining covers P others))
                ∙ ap (λ (U : List Question). take end X ++ held_bytes U) (sym w)
                ∙ m.bytes;
            ends =
                omega (
                  arith,
                  m.ends,
                  ap (λ (U : List Question). length (held_bytes U)) w,
                  length-append (record_bytes stored this) (held_bytes (remaining covers P others)),
                  member_width W at,
                );
            count = omega (arith, m.count, ap length w);
            place = place_next;
          }
        where
          width : ℕ
          width = 1 + byte W at * 7

          w : remaining covers P (held_from W at (n - i)) ≡ this ∷ remaining covers P others
          w = without_is false e

          inside : end + width ≤ length X
          inside = omega (arith, m.lower, here.within, m.size)

          taken : length (take end X) ≡ end
          taken = length-take-le end X (omega (arith, inside))

          moved : Y ≡ take end X ++ (record_bytes stored this ++ drop (end + width) X)
          moved =
              y
              ∙ ap (λ (l : List ℕ). take end X ++ (l ++ drop (end + width) X))
              (ap (take width) m.same ∙ member_bytes W at here.sound)

          grown : Y ≡ (take end X ++ record_bytes stored this) ++ drop (end + width) X
          grown = moved ∙ sym (append_assoc (take end X) (record_bytes stored this) (drop (end + width) X))

          long : length (take end X ++ record_bytes stored this) ≡ end + width
          long = omega (arith, length-append (take end X) (record_bytes stored this), taken, member_width W at)

          front : take (end + width) Y ≡ take end X ++ record_bytes stored this
          front =
              ap (take (end + width)) grown
              ∙ take_at (take end X ++ record_bytes stored this) (drop (end + width) X) (end + width) long

          tail : drop (end + width) Y ≡ drop (end + width) X
          tail =
              ap (drop (end + width)) grown
              ∙ drop_at (take end X ++ record_bytes stored this) (drop (end + width) X) (end + width) long

          past : at + width ≡ end + width + (at - end)
          past = omega (arith, m.lower)

      -- The same two, as the loop's turn finds them: by the member's count and its question in the array as it is now.
      judged : (b : Bool) → b ≡ covers P (question_of stored (take (length X - at) (drop at X)))
          → covers P (question_of stored (drop at W)) ≡ b
      judged b e = sym (e ∙ ap (λ (l : List ℕ). covers P (question_of stored l)) (part_is X at ∙ m.same))

      -- a turn of the loop, which goes on by the width v of the member at hand
      module _ {v : ℕ} (q : v ≡ width stored (get_or X at 0)) where
        as_wide : v ≡ width stored (byte W at)
        as_wide = q ∙ ap (width stored) same_count

        pub turn_gone : (b : Bool) → b ≡ covers P (question_of stored (take (length X - at) (drop at X))) → b ≡ true
            → Midway W from to n P X (at + v) end kept (i + 1)
        turn_gone b e t =
            subst (λ (k : ℕ). Midway W from to n P X (at + k) end kept (i + 1)) (sym as_wide)
            (midway_gone (judged b e ∙ t))

        pub turn_kept : (b : Bool) → b ≡ covers P (question_of stored (take (length X - at) (drop at X))) → b ≡ false
            → (Y : List ℕ) → Y ≡ take end X ++ (take v (drop at X) ++ drop (end + v) X)
            → Midway W from to n P Y (at + v) (end + v) (kept + 1) (i + 1)
        turn_kept b e t Y =
            subst
            (λ (k : ℕ). Y ≡ take end X ++ (take k (drop at X) ++ drop (end + k) X)
            → Midway W from to n P Y (at + k) (end + k) (kept + 1) (i + 1))
            (sym as_wide) (midway_kept (judged b e ∙ t) Y)

      -- it stands within the array
      pub within : at + (1 + get_or X at 0 * 7) ≤ length X
      within = omega (arith, same_count, here.within, m.size)

      pub part_same : take (length X - at) (drop at X) ≡ drop at W
      part_same = part_is X at ∙ m.same

      pub sound_part : SoundRecord stored (take (length X - at) (drop at X))
      sound_part = subst (SoundRecord stored) (sym part_same) here.sound

      -- and the next one starts by its width on
      pub place_as : {v : ℕ} → v ≡ width stored (get_or X at 0) → at + v ≡ held_end W at
      place_as q = ap (λ (k : ℕ). at + k) (as_wide q)

  -- the same midway, by other names of what it is about
  pub midway_as : {X Y : List ℕ} {at i end kept k l : ℕ} → Y ≡ X → k ≡ end → l ≡ kept
      → Midway W from to n P X at end kept i → Midway W from to n P Y at k l i
  midway_as {X} {Y} {at} {i} {end} {kept} {k} {l} e f g m =
      subst (λ (Z : List ℕ). Midway W from to n P Z at k l i) (sym e)
      (subst (λ (j : ℕ). Midway W from to n P X at j l i) (sym f)
      (subst (λ (j : ℕ). Midway W from to n P X at end j i) (sym g) m))
