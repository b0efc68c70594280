-- Members put one after the other: those passed are put, and stand no further on than in the array, since an atom takes
-- no more places than there. Assumes nothing.
use mathlib.Core.Path.{◌≡◌, refl, sym, ◌∙◌, ap, subst}
use mathlib.Core.List.Memᴰ
use mathlib.Core.List.{List, [], ◌∷◌, ◌++◌, append_assoc, append-nil}
use Prim.Native.Nat.{ℕ, ◌+◌, ◌*◌, ◌-◌, ◌≤◌, ◌<◌}
use native.Mathlib.Nat.{mul-le-mul_left}
use native.Mathlib.Omega.{arith}
use lib.Dec.{T}
use lib.ListN.{length, get_or, drop, length-append, length-drop}
use Rattle.covering.specs.Lists.{◌∈◌}
use Rattle.covering.specs.Term.{Atom, Question}
use Rattle.covering.specs.Record.{holding, stored, new_places, size, width, atoms_at, are_atoms, question_of}
use Rattle.covering.specs.Record.{record_bytes, SoundRecord}
use Rattle.covering.specs.Buffer.{AtomsIn}
use Rattle.covering.specs.Put.{Puts}
use Rattle.covering.proofs.Lengths.{atoms_long, question_count}
use Rattle.covering.proofs.Copied.{are_copied}
use Rattle.covering.proofs.Putting.{put_none, put_as, then, kept}
use Rattle.exploration.specs.Union.{first_at}
use Rattle.exploration.specs.Held.{held_bytes, held_from, held_end, Standing}
use Rattle.exploration.proofs.HeldBytes.{held_last}
use Rattle.exploration.proofs.Members.{count_from, question_from, members_step, members_none, members_split, ending}
use Rattle.exploration.proofs.Members.{members_more, ending_none, member_width}
use Rattle.exploration.proofs.Standing.{Here, stands}
use Rattle.writing.specs.Uncounted.{uncounted_record, uncounted_bytes}
use lib.Seq.{get_or-drop}

-- the atoms of the member at i, as they stand in the array
module _ (W : List ℕ) (i : ℕ) (s : SoundRecord stored (drop i W)) where
  pub member_count : get_or W i 0 ≡ length (question_of stored (drop i W))
  member_count = sym (question_count stored (drop i W) ∙ count_from W i)

  pub member_within : i ≤ length W → AtomsIn stored W (i + 1) (get_or W i 0)
  member_within h =
      record {
        fits = omega (arith, s.fits, count_from W i, length-drop i W);
        sound =
            subst (λ (n : ℕ). T (are_atoms stored W (i + 1) n)) (count_from W i)
            (subst T (are_copied stored W (drop i W) (omega arith) 1 (i + 1) (get_or (drop i W) 0 0) same) s.atoms);
      }
    where
      same : (v : ℕ) → v < get_or (drop i W) 0 0 * size stored → get_or (drop i W) (1 + v) 0 ≡ get_or W (i + 1 + v) 0
      same v l = get_or-drop i W (1 + v) 0 ∙ ap (λ (k : ℕ). get_or W k 0) (omega arith)

  pub member_atoms : question_of stored (drop i W) ≡ atoms_at stored W (i + 1) (get_or W i 0)
  member_atoms = question_from W i

uncounted_append : (w answers : ℕ) (U S : List Question)
    → uncounted_bytes w answers (U ++ S) ≡ uncounted_bytes w answers U ++ uncounted_bytes w answers S
uncounted_append w answers [] S = refl
uncounted_append w answers (M ∷ U) S =
    ap (λ (l : List ℕ). uncounted_record w answers M ++ l) (uncounted_append w answers U S)
    ∙ sym (append_assoc (uncounted_record w answers M) (uncounted_bytes w answers U) (uncounted_bytes w answers S))

module _ (w answers : ℕ) (W : List ℕ) (n : ℕ) (came : List ℕ) where
  -- i of the n members are passed, `from` is come to in the array and `at` in the output
  pub record SoFar (out : List ℕ) (from at i : ℕ) : Type 0 where
    pub passed : i ≤ n
    pub here : from ≡ ending W first_at i
    pub behind : at ≤ from
    pub within : from ≤ length W
    pub put : Puts (uncounted_bytes w answers (held_from W first_at i)) came first_at at out
    pub rest : Standing W from (n - i)
    -- what is known of each member that is left
    pub have : (M : Question) → M ∈ held_from W from (n - i) → answers ≤ length M
    pub narrow : (M : Question) → M ∈ held_from W from (n - i) → (a : Atom) → a ∈ M → length a.args ≤ w

  pub none_put : Standing W first_at n → ((M : Question) → M ∈ held_from W first_at n → answers ≤ length M)
      → ((M : Question) → M ∈ held_from W first_at n → (a : Atom) → a ∈ M → length a.args ≤ w)
      → first_at ≤ length W → first_at ≤ length came → SoFar came first_at first_at 0
  none_put s have narrow inside long =
      record {
        passed = omega arith;
        here = ending_none W first_at;
        behind = omega arith;
        within = inside;
        put = put_as (ap (uncounted_bytes w answers) (members_none W first_at 0 0 (omega arith))) (put_none long);
        rest = subst (Standing W first_at) (sym all) s;
        have = λ M m. have M (subst (λ (k : ℕ). M ∈ held_from W first_at k) all m);
        narrow = λ M m. narrow M (subst (λ (k : ℕ). M ∈ held_from W first_at k) all m);
      }
    where
      all : n - 0 ≡ n
      all = omega arith

  module _ {out : List ℕ} {from at i : ℕ} (s : SoFar out from at i) where
    pub same_room : length out ≡ length came
    same_room = kept s.put

    -- all are passed
    pub all_put : n ≤ i → Puts (uncounted_bytes w answers (held_from W first_at n)) came first_at at out
    all_put l =
        let e : n ≡ i = omega (arith, s.passed) in
        put_as (ap (λ (k : ℕ). uncounted_bytes w answers (held_from W first_at k)) e) s.put

    module _ (l : i < n) where
      pub here_is : Here W from (n - (i + 1))
      here_is = stands W from i n l s.rest

      abbrev M : Question
      M = question_of stored (drop from W)

      among : M ∈ held_from W from (n - i)
      among = subst (λ (U : List Question). M ∈ U) (sym (members_more W from n i l)) (Memᴰ.head refl)

      pub here_has : answers ≤ get_or W from 0
      here_has = omega (arith, member_count W from here_is.sound, s.have M among)

      pub here_narrow : (a : Atom) → a ∈ question_of stored (drop from W) → length a.args ≤ w
      here_narrow = s.narrow M among

      one_more : held_from W first_at (i + 1) ≡ held_from W first_at i ++ M ∷ []
      one_more =
          members_split W first_at i 1
          ∙ ap (λ (k : ℕ). held_from W first_at i ++ held_from W k 1) (sym s.here)
          ∙ ap (λ (U : List Question). held_from W first_at i ++ U)
          (members_step W from 0 ∙ ap (λ (U : List Question). M ∷ U) (members_none W (held_end W from) 0 0 (omega arith)))

      longer : length (held_bytes (held_from W first_at (i + 1)))
          ≡ length (held_bytes (held_from W first_at i)) + length (record_bytes stored M)
      longer =
          ap (λ (U : List Question). length (held_bytes U)) one_more
          ∙ ap length (held_last (held_from W first_at i) M)
          ∙ length-append (held_bytes (held_from W first_at i)) (record_bytes stored M)

      -- one member more is put
      pub one_put : w ≤ new_places → {after : List ℕ} {end : ℕ}
          → Puts (uncounted_record w answers M) out at end after
          → SoFar after (from + width stored (get_or W from 0)) end (i + 1)
      one_put few {after} {end} p =
          record {
            passed = omega arith;
            here = omega (arith, s.here, longer, member_width W from);
            behind = omega (arith, p.ends, fewer, atoms_long (holding w) M, s.behind, member_count W from here_is.sound);
            within = here_is.within;
            put =
                put_as
                (ap (uncounted_bytes w answers) one_more
                ∙ uncounted_append w answers (held_from W first_at i) (M ∷ [])
                ∙ ap (λ (b : List ℕ). uncounted_bytes w answers (held_from W first_at i) ++ b)
                (append-nil (uncounted_record w answers M)))
                (then s.put p);
            rest = here_is.rest;
            have =
                λ N m. s.have N (subst (λ (U : List Question). N ∈ U) (sym (members_more W from n i l)) (Memᴰ.tail m));
            narrow =
                λ N m. s.narrow N (subst (λ (U : List Question). N ∈ U) (sym (members_more W from n i l)) (Memᴰ.tail m));
          }
        where
          fewer : length M * size (holding w) ≤ length M * size stored
          fewer = mul-le-mul_left (length M) (omega arith)
