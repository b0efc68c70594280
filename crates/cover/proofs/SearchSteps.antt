-- Laws of the search over atoms that stand one after the other in bytes: one for each way through the code.
-- Assumes nothing.
use mathlib.Core.Path.{◌≡◌, refl, sym, ◌∙◌, ap, ap₂}
use mathlib.Core.Bool.{Bool, true, false, true≢false}
use mathlib.Core.List.{List, [], ◌∷◌}
use mathlib.Core.Option.{Option, none, some}
use Prim.Native.Nat.{ℕ, ◌+◌, ◌*◌, ◌-◌, ◌<◌}
use native.Mathlib.Omega.{arith}
use lib.ListN.{length, get_or}
use Rattle.covering.specs.Lists.{is_some}
use Rattle.covering.specs.Term.{Atom, Question}
use Rattle.covering.specs.Search.{Part, place_atom, find_map}
use Rattle.cover.specs.Candidates.{placed_on, found_on, tried, has_candidate}
use Rattle.covering.specs.Record.{Layout, stored, size, atom_at, atoms_at, question_of}
use Rattle.cover.specs.HeldMap.{part_of, said, Searched}
use Rattle.covering.proofs.Places.{atoms_none, atoms_more, question_at_lem}

-- the atoms of a record, of which n are passed
module _ (B : List ℕ) where
  pub none_passed : question_of stored B ≡ atoms_at stored B (1 + 0 * 7) (get_or B 0 0 - 0)
  none_passed = question_at_lem stored B refl ∙ ap₂ (atoms_at stored B) (omega arith) (omega arith)

  pub one_passed : (i n left : ℕ)
      → atoms_at stored B (i + n * 7 + 7) (left - n - 1) ≡ atoms_at stored B (i + (n + 1) * 7) (left - (n + 1))
  one_passed i n left = ap₂ (atoms_at stored B) (omega arith) (omega arith)

-- the next atom is tried on all candidates
pub search_next : (a : Atom) (A B : Question) (p : Part) → find_map (a ∷ A) B p ≡ tried a A B B p
unfolding find_map tried placed_on
search_next a A B p = refl

pub search_done : (B : Question) (p : Part) → find_map [] B p ≡ some p
unfolding find_map
search_done B p = refl

-- the next candidate serves, or is passed over
module _ (L : Layout) (a : Atom) (A B : Question) (S : List ℕ) (k more : ℕ) (p : Part) where
  pub tried_none : more ≡ 0 → tried a A B (atoms_at L S k more) p ≡ none
  unfolding tried
  tried_none e = rw (atoms_none L S k more e)

  pub tried_hit : {q : Part} → 0 < more → placed_on a A B p (atom_at L S k) ≡ some q → tried a A B (atoms_at L S k more) p ≡ some q
  unfolding tried
  tried_hit h e = rw (atoms_more L S k more h, e)

  pub tried_miss : 0 < more → placed_on a A B p (atom_at L S k) ≡ none
      → tried a A B (atoms_at L S k more) p ≡ tried a A B (atoms_at L S (k + size L) (more - 1)) p
  unfolding tried
  tried_miss h e = rw (atoms_more L S k more h, e)

-- the candidate is met and the rest placed, or it is not met
module _ (a : Atom) (A B : Question) (p : Part) (b : Atom) where
  pub on_placed : {q : Part} → place_atom p a b ≡ some q → placed_on a A B p b ≡ find_map A B q
  unfolding placed_on
  on_placed e = rw e

  pub on_apart : place_atom p a b ≡ none → placed_on a A B p b ≡ none
  unfolding placed_on
  on_apart e = rw e

-- the look-ahead, a candidate at a time
module _ (L : Layout) (S : List ℕ) (k more : ℕ) (p : Part) (a : Atom) where
  pub candidate_none : more ≡ 0 → has_candidate p (atoms_at L S k more) a ≡ false
  unfolding has_candidate
  candidate_none e = rw (atoms_none L S k more e)

  pub candidate_hit : 0 < more → is_some (place_atom p a (atom_at L S k)) ≡ true
      → has_candidate p (atoms_at L S k more) a ≡ true
  unfolding has_candidate
  candidate_hit h e = rw (atoms_more L S k more h, e)

  pub candidate_miss : 0 < more → is_some (place_atom p a (atom_at L S k)) ≡ false
      → has_candidate p (atoms_at L S k more) a ≡ has_candidate p (atoms_at L S (k + size L) (more - 1)) a
  unfolding has_candidate
  candidate_miss h e = rw (atoms_more L S k more h, e)

-- the first atom on one candidate
pub on_candidate : (a : Atom) (A B : Question) (p : Part) (b : Atom) → placed_on a A B p b ≡ found_on (a ∷ A) B p b
unfolding found_on
on_candidate a A B p b = refl

-- a search's answer: a yes, a no
module _ (o : Option Part) (came : List ℕ) where
  pub found : (left : List ℕ) → length left ≡ length came → some (part_of left) ≡ o → Searched o came left true
  found left l e = record { finds = e; back = λ t. absurd (true≢false t); long = l }

  pub not_found : o ≡ none → Searched o came came false
  not_found e = record { finds = sym e; back = λ t. refl; long = refl }

  -- the same of another search that finds the same
  pub searched_as : (o' : Option Part) (left : List ℕ) (r : Bool) → o ≡ o' → Searched o came left r
      → Searched o' came left r
  searched_as o' left r e s = record { finds = s.finds ∙ e; back = s.back; long = s.long }

-- one candidate tried, from the map m that is as it came: it serves, or it does not and the next one is tried
module _ (L : Layout) (a : Atom) (A B : Question) (S : List ℕ) (k more : ℕ) (came m : List ℕ) (o : Option Part)
    (lt : 0 < more) (e : m ≡ came) (f : o ≡ tried a A B (atoms_at L S k more) (part_of came)) where
  module _ {left : List ℕ} {r : Bool} (s : Searched (placed_on a A B (part_of m) (atom_at L S k)) m left r) where
    says : (b : Bool) → r ≡ b → placed_on a A B (part_of came) (atom_at L S k) ≡ said b left
    says b q = ap (λ x. placed_on a A B (part_of x) (atom_at L S k)) (sym e) ∙ sym s.finds ∙ ap (λ x. said x left) q

    pub one_serves : r ≡ true → Searched o came left true
    one_serves q = found o came left (s.long ∙ ap length e) (sym (f ∙ tried_hit L a A B S k more (part_of came) lt (says true q)))

    pub one_fails : r ≡ false
        → (left ≡ came) × (o ≡ tried a A B (atoms_at L S (k + size L) (more - 1)) (part_of came))
    one_fails q = (s.back q ∙ e, f ∙ tried_miss L a A B S k more (part_of came) lt (says false q))
