-- Laws of a working array in order (`specs/WorkingArray`, `Working`): members that stand, split and read elsewhere; an array
-- that holds a state is in order, and its state is that one; the removal of all that a rewriting covers. Assumes
-- nothing.
use mathlib.Core.Path.{◌≡◌, sym, ◌∙◌, ap, ap₂, subst}
use mathlib.Core.List.{List, ◌++◌, append_assoc}
use mathlib.Core.Bool.{not}
use Prim.Native.Nat.{ℕ, zero, suc, ◌+◌, ◌-◌, ◌≤◌}
use native.Mathlib.Omega.{arith}
use lib.ListN.{length, take, drop, length-append, take-append-drop}
use lib.Seq.{drop_at, take_at, length-take-le}
use Rattle.covering.specs.Lists.{◌∈◌}
use Rattle.covering.specs.Term.{Question}
use Rattle.covering.specs.Search.{covers}
use Rattle.covering.specs.Record.{stored, Fits, SoundRecord}
use Rattle.covering.proofs.Lists.{keep_few, keep_append, keep_out}
use Rattle.admit.specs.declared.Extent.{Extent}
use Rattle.admit.specs.declared.Moved.{Moved}
use Rattle.exploration.specs.Run.{State, remaining}
use Rattle.exploration.specs.Union.{first_at, output_size}
use Rattle.exploration.specs.Held.{held_bytes, held_from, held_end}
use Rattle.admit.specs.WorkingArray.{Working, Stands, rest, HoldsState, state_in, Remain}
use Rattle.admit.specs.Sets.{SetsFrom, Beside}
use Rattle.exploration.specs.Held.{Standing}
use Rattle.exploration.proofs.HeldBytes.{held_total_lem, held_most, held_append}
use Rattle.admit.proofs.Stand.{held_stands, held_members}
use Rattle.admit.proofs.Beside.{keep_whole, sets_split, Lent, lent_part}
use Rattle.exploration.proofs.Members.{members_count, ending, ending_none, ending_next, members_split}
use Rattle.exploration.proofs.Members.{later, end_same, members_same}

-- members that stand, split and read elsewhere
module _ (W : List ℕ) where
  pub standing_split : (i k n : ℕ) → Standing W i (k + n) → Standing W i k × Standing W (ending W i k) n
  unfolding Standing
  standing_split i zero n s = (
    tt,
    subst (λ (j : ℕ). Standing W j n) (ending_none W i) (subst (Standing W i) (none_passed n) s),
  )
    where
      none_passed : (n : ℕ) → 0 + n ≡ n
      none_passed n = omega arith
  standing_split i (suc k) n s =
      let t : SoundRecord stored (drop i W) × Standing W (held_end W i) (k + n) = subst (Standing W i) (one_passed k n) s in
      let r = standing_split (held_end W i) k n t.1 in
      ((t.0, r.0), subst (λ (j : ℕ). Standing W j n) (ending_next W i k) r.1)
    where
      one_passed : (k n : ℕ) → suc k + n ≡ suc (k + n)
      one_passed k n = omega arith

  pub standing_same : (X : List ℕ) (i n : ℕ) → drop i X ≡ drop i W → Standing W i n → Standing X i n
  unfolding Standing
  standing_same X i zero e s = tt
  standing_same X i (suc n) e s = (
    subst (SoundRecord stored) (sym e) s.0,
    subst (λ (j : ℕ). Standing X j n) (sym (end_same W X i e))
        (standing_same X (held_end W i) n (later W X i e) s.1),
  )

-- an array that holds a state
module _ {W : List ℕ} {len count front : ℕ} {s : State} (h : HoldsState W len count front s)
    (fits : (M : Question) → M ∈ s.members → Fits stored M)
  where
    pub state_held : state_in W (record { len = len; count = count; front = front }) ≡ s
    state_held =
        ap₂ (λ (U : List Question) (k : ℕ). record { members = U; explored = k }) (held_members W h fits) h.explored

    pub held_working : ((M : Question) → M ∈ s.members → length M ≤ 9) → count ≤ 64 → front ≤ count
        → Working W (record { len = len; count = count; front = front })
    held_working short few ahead =
        record {
          held = subst (HoldsState W len count front) (sym state_held) h;
          few = few;
          ahead = ahead;
          fits = λ M m. fits M (subst (λ (U : List Question). M ∈ U) (held_members W h fits) m);
          short = λ M m. short M (subst (λ (U : List Question). M ∈ U) (held_members W h fits) m);
        }

-- what a working array gives the functions over it
module _ {W : List ℕ} {e : Extent} (w : Working W e) where
  pub stands_all : Standing W first_at e.count
  stands_all = held_stands W w.held w.fits

  -- its members, as they stand
  pub stands_held : Stands W (held_from W first_at e.count)
  stands_held =
      record {
        size = w.held.size;
        standing = subst (Standing W first_at) (sym count) stands_all;
        are = ap (held_from W first_at) count;
      }
    where
      count : length (held_from W first_at e.count) ≡ e.count
      count = members_count W first_at e.count

  -- 64 members of nine atoms are 2,952 bytes
  pub len_most : e.len ≤ output_size
  len_most =
      let c = members_count W first_at e.count in
      let t = held_most (held_from W first_at e.count) (omega (arith, c, w.few)) w.short in
      omega (arith, w.held.ends)

  whole : e.count ≡ e.front + (e.count - e.front)
  whole = omega (arith, w.ahead)

  abbrev pub others : ℕ
  others = e.count - e.front

  pub parts_stand : Standing W first_at e.front × Standing W (ending W first_at e.front) (e.count - e.front)
  parts_stand = standing_split W first_at e.front others (subst (Standing W first_at) whole stands_all)

  parts_are : held_from W first_at e.count
      ≡ held_from W first_at e.front ++ held_from W (ending W first_at e.front) others
  parts_are = ap (held_from W first_at) whole ∙ members_split W first_at e.front others

  -- the others stand where they stood when the explored ones are through
  pub others_stand : (P : Question) {X : List ℕ} {a : Moved} → Remain W first_at first_at e.front P X a
      → Standing X a.from (e.count - e.front)
  others_stand P {X} {a} k =
      standing_same W X a.from others k.after
      (subst (λ (i : ℕ). Standing W i others) (sym k.passed) parts_stand.1)

  others_members : (P : Question) {X : List ℕ} {a : Moved} → Remain W first_at first_at e.front P X a
      → held_from X a.from others ≡ held_from W (ending W first_at e.front) others
  others_members P {X} {a} k =
      members_same W X a.from others k.after ∙ ap (λ (i : ℕ). held_from W i others) k.passed

  -- the sets beside the array, of the explored ones and of the others
  module _ {S : List ℕ} (s : Beside S W e.count) where
    in_parts : SetsFrom S 0 (held_from W first_at e.front)
        × SetsFrom S (0 + length (held_from W first_at e.front)) (held_from W (ending W first_at e.front) others)
    in_parts = sets_split S _ _ 0 (subst (SetsFrom S 0) parts_are s.sets)

    pub explored_lent : Lent W (take e.front S) first_at e.front
    explored_lent = lent_part S W 0 e.front first_at (omega (arith, s.size, w.few, w.ahead)) parts_stand.0 in_parts.0

    pub others_lent : (P : Question) {X : List ℕ} {a : Moved} → Remain W first_at first_at e.front P X a
        → Lent X (take (e.count - e.front) (drop e.front S)) a.from (e.count - e.front)
    others_lent P {X} {a} k =
        lent_part S X e.front others a.from (omega (arith, s.size, w.few, w.ahead)) (others_stand P k)
        (subst (SetsFrom S e.front) (sym (others_members P k))
        (subst (λ (i : ℕ). SetsFrom S i (held_from W (ending W first_at e.front) others)) passed in_parts.1))
      where
        passed : 0 + length (held_from W first_at e.front) ≡ e.front
        passed = omega (arith, members_count W first_at e.front)

    -- what is said of as many members as sets are lent
    module _ (P : Question) {X : List ℕ} {a : Moved} where
      pub of_explored : Remain W first_at first_at (length (take e.front S)) P X a → Remain W first_at first_at e.front P X a
      of_explored k = subst (λ (n : ℕ). Remain W first_at first_at n P X a) explored_lent.long k

      pub of_others : Remain W first_at first_at e.front P X a → {Y : List ℕ} {b : Moved}
          → Remain X a.from a.to (length (take (e.count - e.front) (drop e.front S))) P Y b
          → Remain X a.from a.to (e.count - e.front) P Y b
      of_others k {Y} {b} l = subst (λ (n : ℕ). Remain X a.from a.to n P Y b) (others_lent P k).long l

  -- the removal: first the explored ones, then the others
  module _ (P : Question) {X Y : List ℕ} {a b : Moved} (k : Remain W first_at first_at e.front P X a)
      (l : Remain X a.from a.to (e.count - e.front) P Y b)
    where
      abbrev U : List Question
      U = held_from W first_at e.count

      abbrev explored : List Question
      explored = held_from W first_at e.front

      abbrev unexplored : List Question
      unexplored = held_from W (ending W first_at e.front) others

      second : held_from X a.from others ≡ unexplored
      second = others_members P k

      kept : State
      kept =
          record {
            members = remaining covers P explored ++ remaining covers P unexplored;
            explored = length (remaining covers P explored);
          }

      front_is : take e.front U ≡ explored
      front_is =
          ap (take e.front) parts_are
          ∙ take_at explored unexplored e.front (members_count W first_at e.front)

      kept_is : kept ≡ rest (state_in W e) P
      unfolding kept
      kept_is =
          ap₂ (λ (A : List Question) (n : ℕ). record { members = A; explored = n })
          (sym (ap (remaining covers P) parts_are ∙ keep_append (λ M. not (covers P M)) explored unexplored))
          (ap (λ (A : List Question). length (remaining covers P A)) (sym front_is))

      in_all : (M : Question) → M ∈ kept.members → M ∈ U
      in_all M m =
          (keep_out (λ N. not (covers P N)) U (subst (λ (s : State). M ∈ s.members) kept_is m)).0

      bytes : take b.to Y ≡ take first_at W ++ held_bytes kept.members
      unfolding kept
      bytes =
          l.bytes
          ∙ ap₂ ◌++◌ k.bytes (ap (λ (A : List Question). held_bytes (remaining covers P A)) second)
          ∙ append_assoc (take first_at W) (held_bytes (remaining covers P explored))
          (held_bytes (remaining covers P unexplored))
          ∙ ap (λ (r : List ℕ). take first_at W ++ r)
          (sym (held_append (remaining covers P explored) (remaining covers P unexplored)))

      lengths : length (held_bytes kept.members)
          ≡ length (held_bytes (remaining covers P explored)) + length (held_bytes (remaining covers P unexplored))
      unfolding kept
      lengths =
          ap length (held_append (remaining covers P explored) (remaining covers P unexplored))
          ∙ length-append (held_bytes (remaining covers P explored)) (held_bytes (remaining covers P unexplored))

      removed : HoldsState Y b.to (a.kept + b.kept) a.kept kept
      unfolding kept
      removed =
          record {
            size = l.size ∙ k.size ∙ w.held.size;
            bytes =
                ap (drop first_at) (sym (take-append-drop b.to Y))
                ∙ ap (λ (r : List ℕ). drop first_at (r ++ drop b.to Y)) bytes
                ∙ ap (drop first_at) (append_assoc (take first_at W) (held_bytes kept.members) (drop b.to Y))
                ∙ drop_at (take first_at W) (held_bytes kept.members ++ drop b.to Y) first_at
                (length-take-le first_at W (omega (arith, w.held.size)));
            ends =
                omega (
                  arith,
                  l.ends,
                  k.ends,
                  ap (λ (A : List Question). length (held_bytes (remaining covers P A))) second,
                  held_total_lem kept.members,
                  lengths,
                );
            members =
                omega (
                  arith,
                  k.count,
                  l.count,
                  ap (λ (A : List Question). length (remaining covers P A)) second,
                  length-append (remaining covers P explored) (remaining covers P unexplored),
                );
            explored = k.count;
          }

      pub removed_few : a.kept + b.kept ≤ 64
      removed_few =
          omega (
            arith,
            removed.members,
            ap (λ (s : State). length s.members) kept_is,
            keep_few (λ M. not (covers P M)) U,
            members_count W first_at e.count,
            w.few,
          )

      -- "remove every member that it covers"
      pub removed_working : Working Y (record { len = b.to; count = a.kept + b.kept; front = a.kept })
      removed_working =
          held_working removed (λ M m. w.fits M (in_all M m)) (λ M m. w.short M (in_all M m)) removed_few
          (omega arith)

      pub removed_state : state_in Y (record { len = b.to; count = a.kept + b.kept; front = a.kept })
          ≡ rest (state_in W e) P
      removed_state = state_held removed (λ M m. w.fits M (in_all M m)) ∙ kept_is

      -- where none was removed the members are the same, and so are their sets
      pub none_removed : {S : List ℕ} → Beside S W e.count → e.count ≤ a.kept + b.kept
          → SetsFrom S 0 (held_from Y first_at (a.kept + b.kept))
      none_removed {S} s h = subst (SetsFrom S 0) (sym (now_are ∙ keep_whole (λ M. not (covers P M)) U all)) s.sets
        where
          now_are : held_from Y first_at (a.kept + b.kept) ≡ remaining covers P U
          now_are = ap (λ (t : State). t.members) removed_state

          all : length U ≤ length (remaining covers P U)
          all =
              omega (
                arith,
                h,
                ap length now_are,
                members_count Y first_at (a.kept + b.kept),
                members_count W first_at e.count,
              )
