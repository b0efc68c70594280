-- Laws of the search for a covering member (`specs/WorkingArray`): one member more, one candidate more. Assumes nothing.
use mathlib.Core.Path.{◌≡◌, refl, sym, ◌∙◌, ap, ap₂, subst}
use mathlib.Core.Bool.{Bool, true, false, cond, ◌||◌, true≢false}
use mathlib.Core.List.{List, [], ◌∷◌}
use Prim.Native.Nat.{ℕ, suc, ◌+◌, ◌*◌, ◌-◌, ◌≤◌, ◌<◌}
use native.Mathlib.Omega.{arith}
use native.Mathlib.Nat.{sub-eq-zero_of_le, sub-zero, zero-add}
use borrow.Author.Tests.{lt-ltb, le-ltb}
use Rattle.std.specs.Prelude.{Option as Maybe, Some, None, is_some as found}
use lib.Dec.{ltb, leb-suc-suc}
use lib.ListN.{length, get_or, drop, replicate}
use mathlib.Core.Option.{Option, none, some}
use Rattle.covering.specs.Lists.{is_some, or_else, first_of}
use Rattle.covering.specs.Term.{Atom, Question}
use Rattle.covering.specs.Search.{Part, nowhere, find_map, first_map, covers}
use Rattle.cover.specs.Candidates.{found_on}
use Rattle.covering.specs.Record.{stored, atom_at, atoms_at, question_of, width}
use Rattle.covering.specs.FirstMap.{map_or}
use Rattle.records.specs.Relations.{relations_of}
use Rattle.reading.specs.Word.{byte}
use Rattle.cover.specs.HeldMap.{part_of, Searched}
use Rattle.cover.proofs.Ahead.{first_any}
use Rattle.cover.proofs.Maps.{part_nowhere, said_yes, searched_map}
use Rattle.cover.proofs.SearchSteps.{searched_as}
use Rattle.covering.proofs.Places.{question_at_lem, atoms_none, atoms_more}
use Rattle.exploration.specs.Run.{Test, covered}
use Rattle.exploration.specs.Union.{first_at}
use Rattle.exploration.specs.Held.{held_from, held_end, Standing}
use Rattle.exploration.proofs.Members.{members_more, members_none, members_count}
use Rattle.exploration.proofs.Standing.{Here, stands}
use Rattle.admit.specs.WorkingArray.{before_covering, covered_by, first_covering}
use Rattle.admit.specs.Sets.{SetsFrom}
use Rattle.admit.proofs.Beside.{sets_here}

else_some : (o p : Option Part) → is_some o ≡ true → or_else o p ≡ o
else_some (some q) p e = refl
else_some none p e = absurd (true≢false (sym e))

else_none : (o p : Option Part) → is_some o ≡ false → or_else o p ≡ p
else_none (some q) p e = absurd (true≢false e)
else_none none p e = refl

pub covers_is : (A B : Question) → covers A B ≡ is_some (first_map A B)
unfolding covers
covers_is A B = refl

-- one candidate more
module _ (f : Atom → Option Part) (B : List ℕ) (k w : ℕ) where
  abbrev from : ℕ → Option Part
  from j = first_of f (atoms_at stored B (1 + j * 7) (w - j))

  maps_end : w ≤ k → from k ≡ none
  maps_end h = ap (first_of f) (atoms_none stored B (1 + k * 7) (w - k) (sub-eq-zero_of_le h))

  maps_next : k < w → from k ≡ or_else (f (atom_at stored B (1 + k * 7))) (from (k + 1))
  maps_next h =
      ap (first_of f) (atoms_more stored B (1 + k * 7) (w - k) (omega arith))
      ∙ ap₂ (λ (m n : ℕ). or_else (f (atom_at stored B (1 + k * 7))) (first_of f (atoms_at stored B m n))) (omega arith) (omega arith)

  maps_hit : k < w → is_some (f (atom_at stored B (1 + k * 7))) ≡ true → from k ≡ f (atom_at stored B (1 + k * 7))
  maps_hit h e = maps_next h ∙ else_some (f (atom_at stored B (1 + k * 7))) _ e

  maps_miss : k < w → is_some (f (atom_at stored B (1 + k * 7))) ≡ false → from k ≡ from (k + 1)
  maps_miss h e = maps_next h ∙ else_none (f (atom_at stored B (1 + k * 7))) _ e

-- the first map of a question with an atom is that of the first candidate that serves
pub map_one : (M C : List ℕ) → 1 ≤ get_or M 0 0
    → first_map (question_of stored M) (question_of stored C)
    ≡ first_of (found_on (question_of stored M) (question_of stored C) nowhere) (atoms_at stored C (1 + 0 * 7) (get_or C 0 0 - 0))
map_one M C s =
    ap (λ (A : Question). first_map A (question_of stored C)) split
    ∙ first_any (atom_at stored M 1) (atoms_at stored M 8 (get_or M 0 0 - 1)) (question_of stored C)
    ∙ ap (λ (A : Question). first_of (found_on A (question_of stored C) nowhere) (question_of stored C)) (sym split)
    ∙ ap (first_of (found_on (question_of stored M) (question_of stored C) nowhere))
    (question_at_lem stored C refl ∙ ap (atoms_at stored C 1) whole)
  where
    whole : get_or C 0 0 ≡ get_or C 0 0 - 0
    whole = omega arith

    split : question_of stored M ≡ atom_at stored M 1 ∷ atoms_at stored M 8 (get_or M 0 0 - 1)
    split = question_at_lem stored M refl ∙ atoms_more stored M 1 (get_or M 0 0) s

-- a question without atoms covers all, and no variable goes anywhere
pub map_none : (M C : List ℕ) → get_or M 0 0 ≡ 0 → first_map (question_of stored M) (question_of stored C) ≡ some nowhere
unfolding first_map find_map
map_none M C e =
    ap (λ (A : Question). first_map A (question_of stored C)) (question_at_lem stored M refl ∙ atoms_none stored M 1 (get_or M 0 0) e)

-- what is asked of one candidate, where the map is as it came
on_nowhere : (M : List ℕ) (P : Question) (b : Atom) (m left : List ℕ) (r : Bool) → m ≡ replicate 96 255
    → Searched (found_on (question_of stored M) P (part_of m) b) m left r
    → Searched (found_on (question_of stored M) P nowhere b) (replicate 96 255) left r
on_nowhere M P b m left r e s =
    searched_as _ _ _ left r (ap (λ q. found_on (question_of stored M) P q b) (part_nowhere 96))
    (subst (λ x. Searched (found_on (question_of stored M) P (part_of x) b) x left r) e s)

pub found_here : {o : Option Part} {m left : List ℕ} {r : Bool} → Searched o m left r → is_some o ≡ r
found_here {o} {m} {left} {r} s = sym (said_yes r left o s.finds)

-- The candidates of the record C for the member M, of which k are asked: the map is as it came, and the first map is that
-- of the first of those left that serves.
pub record Asked (M C m : List ℕ) (k : ℕ) : Type 0 where
  pub map : m ≡ replicate 96 255
  pub left : first_map (question_of stored M) (question_of stored C)
      ≡ first_of (found_on (question_of stored M) (question_of stored C) nowhere)
      (atoms_at stored C (1 + k * 7) (get_or C 0 0 - k))

module _ (M C : List ℕ) where
  -- a member without atoms covers all
  pub asked_none : (m : List ℕ) → m ≡ replicate 96 255 → get_or M 0 0 ≡ 0
      → Searched (first_map (question_of stored M) (question_of stored C)) m m true
  asked_none m e empty =
      record { finds = ap (λ x. some (part_of x)) e ∙ ap some (part_nowhere 96) ∙ sym (map_none M C empty); back = λ _. refl; long = refl }

  pub asked_start : (m : List ℕ) → m ≡ replicate 96 255 → 1 ≤ get_or M 0 0 → Asked M C m 0
  asked_start m e one = record { map = e; left = map_one M C one }

  module _ {m left : List ℕ} {k : ℕ} {r : Bool} (a : Asked M C m k) (lt : k < get_or C 0 0)
      (s : Searched (found_on (question_of stored M) (question_of stored C) (part_of m) (atom_at stored C (1 + k * 7))) m left r)
    where
      asked_here : Searched (found_on (question_of stored M) (question_of stored C) nowhere (atom_at stored C (1 + k * 7)))
          (replicate 96 255) left r
      asked_here = on_nowhere M (question_of stored C) _ m left r a.map s

      pub asked_more : r ≡ false → Asked M C left (k + 1)
      asked_more missed =
          record { map = asked_here.back missed; left = a.left ∙ maps_miss _ C k (get_or C 0 0) lt (found_here asked_here ∙ missed) }

      pub asked_found : (came : List ℕ) → came ≡ replicate 96 255 → r ≡ true
          → Searched (first_map (question_of stored M) (question_of stored C)) came left true
      asked_found came e serves =
          subst (λ x. Searched (first_map (question_of stored M) (question_of stored C)) x left true) (sym e)
          (subst (λ b. Searched (first_map (question_of stored M) (question_of stored C)) (replicate 96 255) left b) serves
          (searched_as _ _ _ left r (sym (a.left ∙ maps_hit _ C k (get_or C 0 0) lt (found_here asked_here ∙ serves))) asked_here))

  pub asked_all : {m : List ℕ} {k : ℕ} → Asked M C m k → get_or C 0 0 ≤ k → (came : List ℕ) → came ≡ replicate 96 255
      → Searched (first_map (question_of stored M) (question_of stored C)) came m false
  asked_all {m} {k} a end came e =
      record {
        finds = sym (a.left ∙ maps_end _ C k (get_or C 0 0) end);
        back = λ _. a.map ∙ sym e;
        long = ap length (a.map ∙ sym e);
      }

-- one member more
module _ (cov : Test) (P : Question) (W : List ℕ) (at i n : ℕ) where
  first_end : n ≤ i → before_covering cov P (held_from W at (n - i)) ≡ 0
  unfolding before_covering
  first_end h = ap (before_covering cov P) (members_none W at n i h)

  first_next : i < n → before_covering cov P (held_from W at (n - i))
      ≡ cond (cov (question_of stored (drop at W)) P) 0
      (suc (before_covering cov P (held_from W (held_end W at) (n - (i + 1)))))
  unfolding before_covering
  first_next h = ap (before_covering cov P) (members_more W at n i h)

  others : Bool → ℕ
  others b = cond b 0 (suc (before_covering cov P (held_from W (held_end W at) (n - (i + 1)))))

  first_hit : i < n → cov (question_of stored (drop at W)) P ≡ true
      → before_covering cov P (held_from W at (n - i)) ≡ 0
  unfolding others
  first_hit h e = first_next h ∙ ap others e

  first_miss : i < n → cov (question_of stored (drop at W)) P ≡ false
      → before_covering cov P (held_from W at (n - i))
      ≡ suc (before_covering cov P (held_from W (held_end W at) (n - (i + 1))))
  unfolding others
  first_miss h e = first_next h ∙ ap others e

-- the map of the first that covers
module _ (P : Question) (W : List ℕ) (at i n : ℕ) where
  abbrev here : Option Part
  here = first_map (question_of stored (drop at W)) P

  by_end : n ≤ i → covered_by P (held_from W at (n - i)) ≡ none
  unfolding covered_by
  by_end h = ap (covered_by P) (members_none W at n i h)

  by_next : i < n → covered_by P (held_from W at (n - i)) ≡ or_else here (covered_by P (held_from W (held_end W at) (n - (i + 1))))
  unfolding covered_by
  by_next h = ap (covered_by P) (members_more W at n i h)

  by_hit : i < n → is_some here ≡ true → covered_by P (held_from W at (n - i)) ≡ here
  by_hit h e = by_next h ∙ else_some here _ e

  by_miss : i < n → is_some here ≡ false
      → covered_by P (held_from W at (n - i)) ≡ covered_by P (held_from W (held_end W at) (n - (i + 1)))
  by_miss h e = by_next h ∙ else_none here _ e

-- a member covers P exactly where the search ends before the last
pub covering_found : (cov : Test) (P : Question) (U : List Question)
    → covered cov P U ≡ ltb (before_covering cov P U) (length U)
unfolding before_covering
covering_found cov P [] = refl
covering_found cov P (M ∷ U) = go (cov M P) (covering_found cov P U)
  where
    go : (b : Bool) → covered cov P U ≡ ltb (before_covering cov P U) (length U)
        → (b || covered cov P U) ≡ ltb (cond b 0 (suc (before_covering cov P U))) (suc (length U))
    go true e = sym (lt-ltb 0 (suc (length U)) (omega arith))
    go false e = e ∙ sym (leb-suc-suc (suc (before_covering cov P U)) (length U))

-- and where the number of one is found
number_found : (cov : Test) (P : Question) (U : List Question) → covered cov P U ≡ found (first_covering cov P U)
number_found cov P U = covering_found cov P U ∙ go (ltb (before_covering cov P U) (length U)) (before_covering cov P U)
  where
    go : (b : Bool) (n : ℕ) → b ≡ found (cond b (Some n) None)
    go true n = refl
    go false n = refl

-- as the code asks for it, with a list F of n sets
pub covered_is : (W F : List ℕ) (P : Question) {n : ℕ} {r : Maybe ℕ} {b : Bool} → length F ≡ n
    → r ≡ first_covering covers P (held_from W first_at (length F)) → b ≡ found r
    → b ≡ covered covers P (held_from W first_at n)
covered_is W F P long first is =
    is ∙ ap found first ∙ sym (number_found covers P (held_from W first_at (length F)))
    ∙ ap (λ k. covered covers P (held_from W first_at k)) long

-- The search in a working array W beside whose members are the sets S, midway: the one at `at` is the i-th. None before it
-- covers P, and the map is as it came.
pub record Passed (W S m : List ℕ) (P : Question) (at i : ℕ) : Type 0 where
  pub standing : Standing W at (length S - i)
  pub first : before_covering covers P (held_from W first_at (length S))
      ≡ i + before_covering covers P (held_from W at (length S - i))
  pub map : m ≡ replicate 96 255
  pub by : covered_by P (held_from W first_at (length S)) ≡ covered_by P (held_from W at (length S - i))
  pub sets : SetsFrom S i (held_from W at (length S - i))

-- what the search answers, and the map that it leaves
abbrev pub Answered : List ℕ → List ℕ → List ℕ → Question → Maybe ℕ → Type 0
Answered W S left P r =
    (r ≡ first_covering covers P (held_from W first_at (length S)))
    × (left ≡ map_or 96 (covered_by P (held_from W first_at (length S))))

module _ (W S m : List ℕ) (P : Question) where
  pub passed_start : Standing W first_at (length S) → SetsFrom S 0 (held_from W first_at (length S)) → m ≡ replicate 96 255
      → Passed W S m P first_at 0
  passed_start s t e =
      record {
        standing = rw sub-zero s;
        first = rw (sub-zero, zero-add);
        map = e;
        by = rw sub-zero;
        sets = rw sub-zero t;
      }

  module _ {at i : ℕ} (p : Passed W S m P at i) where
    pub passed_all : length S ≤ i → Answered W S m P None
    passed_all h = (
      sym (ap (λ b. cond b (Some (before_covering covers P (held_from W first_at (length S)))) None) (le-ltb _ _ last)),
      p.map ∙ ap (map_or 96) (sym (p.by ∙ by_end P W at i (length S) h)),
    )
      where
        last : length (held_from W first_at (length S)) ≤ before_covering covers P (held_from W first_at (length S))
        last = omega (arith, p.first, members_count W first_at (length S))

    module _ (h : i < length S) where
      pub passed_here : Here W at (length S - (i + 1))
      passed_here = stands W at i (length S) h p.standing

      -- its set
      pub passed_set : get_or S i 0 ≡ relations_of (question_of stored (drop at W))
      passed_set = (sets_here S W at i (length S) i h p.sets).0

      module _ (left : List ℕ) (X : List ℕ) (same : X ≡ drop at W) where
        pub passed_found : {r : Bool} → Searched (first_map (question_of stored X) P) m left r → r ≡ true → Answered W S left P (Some i)
        passed_found {r} s serves = (
          ap Some (sym is)
              ∙ sym (ap (λ b. cond b (Some (before_covering covers P (held_from W first_at (length S)))) None) (lt-ltb _ _ low)),
          searched_map _ left r
              (subst (λ x. Searched (covered_by P (held_from W first_at (length S))) x left r) p.map
              (searched_as _ _ _ left r (sym (p.by ∙ by_hit P W at i (length S) h hit ∙ one)) s)),
        )
          where
            one : first_map (question_of stored (drop at W)) P ≡ first_map (question_of stored X) P
            one = ap (λ x. first_map (question_of stored x) P) (sym same)

            hit : is_some (first_map (question_of stored (drop at W)) P) ≡ true
            hit = ap is_some one ∙ found_here s ∙ serves

            is : before_covering covers P (held_from W first_at (length S)) ≡ i
            is = omega (arith, p.first, first_hit covers P W at i (length S) h (covers_is _ _ ∙ hit))

            low : before_covering covers P (held_from W first_at (length S)) < length (held_from W first_at (length S))
            low = omega (arith, is, members_count W first_at (length S))

        -- it does not cover, by its set or by the search
        pub passed_more : covers (question_of stored X) P ≡ false → left ≡ replicate 96 255 → {v : ℕ}
            → v ≡ width stored (byte W at) → Passed W S left P (at + v) (i + 1)
        passed_more missed e {v} wide =
            subst (λ k. Passed W S left P (at + k) (i + 1)) (sym wide)
            record {
              standing = passed_here.rest;
              first = omega (arith, p.first, first_miss covers P W at i (length S) h not_here);
              map = e;
              by = p.by ∙ by_miss P W at i (length S) h (sym (covers_is _ _) ∙ not_here);
              sets = (sets_here S W at i (length S) i h p.sets).1;
            }
          where
            not_here : covers (question_of stored (drop at W)) P ≡ false
            not_here = ap (λ x. covers (question_of stored x) P) (sym same) ∙ missed

-- a search that says no: it does not cover
pub not_found : (A B : Question) {came left : List ℕ} {r : Bool} → Searched (first_map A B) came left r → r ≡ false
    → covers A B ≡ false
not_found A B s missed = covers_is A B ∙ found_here s ∙ missed
