-- Laws of looking for a variable, a place and an atom at a time, and of an atom that brings those after it nothing new:
-- one candidate from which they cannot be placed tells that none serves. Assumes nothing.
use mathlib.Core.Path.{◌≡◌, refl, sym, ◌∙◌, ap}
use mathlib.Core.Bool.{Bool, true, false, true≢false, not, ◌&&◌, ◌||◌}
use mathlib.Core.List.{List, [], ◌∷◌}
use mathlib.Core.Option.{Option, none}
use Prim.Native.Nat.{ℕ, ◌+◌, ◌-◌, ◌≤◌, ◌<◌}
use lib.ListN.{length, get_or}
use Rattle.covering.specs.Lists.{any, is_some}
use Rattle.covering.specs.Term.{Term, var, Atom, Question, terms, eq_term}
use Rattle.covering.specs.Search.{Part, place_atom}
use Rattle.covering.specs.Record.{term_of, args_at}
use Rattle.covering.proofs.Bytes.{args_more, args_end, term_var, term_con}
use Rattle.covering.proofs.Lists.{any_in, some_of}
use Rattle.covering.proofs.Tests.{both, true→T, T→false, false→no}
use Rattle.covering.proofs.Terms.{eq→eq_term}
use Rattle.covering.proofs.Local.{NothingNew, none_serves}
use Rattle.cover.specs.Candidates.{placed_on, tried, new_to, leads_on, is_placed, is_met}
use denote.Enum.Bare.{sameb}
use Rattle.cover.specs.contracts.search.Tried.{the_type}
use Rattle.cover.specs.declared.search.Tried.{Tried}
use Rattle.cover.specs.declared.search.Tried.TheVariants.{Apart, Placed, Met}
use Rattle.cover.specs.HeldMap.{part_of, Searched}
use Rattle.cover.proofs.Maps.{part_none, part_some}
use Rattle.cover.proofs.SearchSteps.{on_placed}

-- the places of an atom, of which j of w are passed
module _ (f : Term → Bool) (F : List ℕ) (i j w : ℕ) (lt : j < w) where
  abbrev from : ℕ → Bool
  from k = any f (args_at F (i + k) (w - k))

  pub args_stop : get_or F (i + j) 0 ≡ 255 → from j ≡ false
  args_stop e = ap (any f) (args_end F i j w lt e)

  args_step : (get_or F (i + j) 0 ≡ 255 → ⊥) → from j ≡ (f (term_of (get_or F (i + j) 0)) || from (j + 1))
  args_step used = ap (any f) (args_more F i j w lt used)

  pub args_hit : (get_or F (i + j) 0 ≡ 255 → ⊥) → f (term_of (get_or F (i + j) 0)) ≡ true → from j ≡ true
  args_hit used e = args_step used ∙ ap (λ b. b || from (j + 1)) e

  pub args_miss : (get_or F (i + j) 0 ≡ 255 → ⊥) → f (term_of (get_or F (i + j) 0)) ≡ false → from j ≡ from (j + 1)
  args_miss used e = args_step used ∙ ap (λ b. b || from (j + 1)) e

pub args_none : (f : Term → Bool) (F : List ℕ) (i w : ℕ) → w ≡ 0 → any f (args_at F i w) ≡ false
unfolding args_at
args_none f F i w e = rw (e, args_at) refl

pub and_no : (a b : Bool) → a ≡ false → (a && b) ≡ false
and_no a b e = rw e refl

pub and_yes : (a b : Bool) → a ≡ true → (a && b) ≡ b
and_yes a b e = rw e refl

-- which places are new
module _ (m : List ℕ) (u : ℕ) where
  pub constant_old : 128 ≤ u → new_to (part_of m) (term_of u) ≡ false
  constant_old h = rw (term_con u h) refl

  pub placed_old : u < length m → u < 128 → (get_or m u 0 ≡ 255 → ⊥) → new_to (part_of m) (term_of u) ≡ false
  placed_old h v f = rw (term_var u v) (ap (λ o. not (is_some o)) (part_some m u h f))

  pub free_new : u < length m → u < 128 → get_or m u 0 ≡ 255 → new_to (part_of m) (term_of u) ≡ true
  free_new h v e = rw (term_var u v) (ap (λ o. not (is_some o)) (part_none m u h e))

nothing_new : (p : Part) (a : Atom) (A : Question) → leads_on p a A ≡ false → NothingNew p a A
unfolding leads_on
nothing_new p a A e n i free m =
    false→no _ e
    (any_in (λ t. new_to p t && any (eq_term t) (terms A)) a.args i
    (both (new_to p (var n)) _ (true→T (new_to p (var n)) (ap (λ o. not (is_some o)) free))
    (any_in (eq_term (var n)) (terms A) m (eq→eq_term {t = var n} refl))))

-- where nothing serves nothing is found
none_tried : (a : Atom) (A B C : Question) (p : Part) → ((c : Atom) → placed_on a A B p c ≡ none)
    → tried a A B C p ≡ none
unfolding tried
none_tried a A B [] p h = refl
none_tried a A B (c ∷ C) p h = rw (h c) (none_tried a A B C p h)

-- the atom meets b, those after it cannot be placed then, and it brings them nothing new: no other candidate serves
pub gives_up : (a : Atom) (A B C : Question) (p : Part) (b : Atom) → is_some (place_atom p a b) ≡ true
    → placed_on a A B p b ≡ none → leads_on p a A ≡ false → tried a A B C p ≡ none
unfolding placed_on
gives_up a A B C p b met failed alone =
    let q = some_of (place_atom p a b) (true→T _ met) in
    none_tried a A B C p
    (λ c. none_serves p a A B b c q.0 (nothing_new p a A alone) q.1 (sym (on_placed a A B p b q.1) ∙ failed))

-- the code's test whether all were placed
pub placed_is : (t : Tried) {b : Bool} → b ≡ sameb the_type t Placed → is_placed t ≡ b
placed_is Apart e = sym e
placed_is Placed e = sym e
placed_is Met e = sym e

-- so the search ends there, its map as it came
pub search_ends : (a : Atom) (A B C : Question) (b : Atom) (came m gone : List ℕ) (o : Option Part) (t : Tried) → m ≡ came
    → o ≡ tried a A B C (part_of came) → Searched (placed_on a A B (part_of m) b) m gone (is_placed t)
    → (t ≡ Met → is_some (place_atom (part_of m) a b) ≡ true) → (is_met t && not (leads_on (part_of gone) a A)) ≡ true
    → Searched o came gone false
search_ends a A B C b came m gone o Apart e f s met g = absurd (true≢false (sym g))
search_ends a A B C b came m gone o Placed e f s met g = absurd (true≢false (sym g))
search_ends a A B C b came m gone o Met e f s met g =
    let alone = T→false _ (true→T _ g) in
    let back : gone ≡ came = s.back refl ∙ e in
    let failed = ap (λ x. placed_on a A B (part_of x) b) (sym e) ∙ sym s.finds in
    record {
      finds =
          sym
          (f
          ∙ gives_up a A B C (part_of came) b (ap (λ x. is_some (place_atom (part_of x) a b)) (sym e) ∙ met refl) failed
          (ap (λ x. leads_on (part_of x) a A) (sym back) ∙ alone));
      back = λ t. back;
      long = ap length back;
    }
