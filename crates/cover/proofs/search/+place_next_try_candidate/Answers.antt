-- The search's two functions meet their contracts. `place_next` tries its atom on one candidate after the other,
-- `try_candidate` places it on one and goes on to the next atom. The measure is two for each byte left, and one less at
-- a candidate. The loop's invariant: the map is as it came, and what the search finds, trying the candidates from here
-- on finds.
use borrow.Author.Rules.{rules}
use borrow.Author.Tests.{eqb-true, eqb-false}
use native.Mathlib.Omega.{arith}
use mathlib.Core.Path.{◌≡◌, refl, sym, ap, subst, ◌∙◌}
use mathlib.Core.Bool.{Bool, false}
use mathlib.Core.List.{List}
use Prim.Native.Nat.{ℕ, ◌+◌, ◌*◌, ◌-◌, ◌≤◌, ◌<◌}
use lib.Dec.{T, eqb}
use lib.ListN.{length, get_or, take, drop, length-take, length-drop}
use Rattle.covering.specs.Lists.{is_some}
use Rattle.covering.specs.Term.{Atom, Question}
use Rattle.covering.specs.Search.{place_atom, place_terms, find_map}
use Rattle.covering.specs.Record.{stored, args_at, atom_at, used_first, question_of}
use Rattle.covering.proofs.Bytes.{atom_used}
use Rattle.covering.proofs.Slices.{part_is}
use Rattle.cover.specs.Candidates.{placed_on, tried}
use Rattle.cover.specs.HeldMap.{part_of, Searched}
use Rattle.cover.specs.Rest.{atoms_of, SoundAtoms}
use Rattle.cover.proofs.Ahead.{seen_ends}
use Rattle.cover.proofs.Maps.{atoms_apart}
use Rattle.cover.proofs.Parts.{nth_part, terms_part, terms_used}
use Rattle.cover.proofs.Rest.{rest_none, rest_room, rest_first, rest_sound, rest_more}
use Rattle.cover.proofs.SearchSteps.{none_passed, one_passed, search_done, search_next, tried_none, found, not_found}
use Rattle.cover.proofs.SearchSteps.{one_serves, one_fails, searched_as}
use Rattle.cover.proofs.Leads.{search_ends, placed_is}
use Rattle.cover.proofs.Turns.{as_places, not_met, serves, taken_back_lem}
use Rattle.cover.proofs.search.+place_next_try_candidate.Goals as goal

-- the search with the candidate after n others, lent by itself
lent : (a : Atom) (A B : Question) (S m left : List ℕ) (n : ℕ) {r : Bool}
    → Searched
    (placed_on a A B (part_of m) (atom_at stored (take (8 + n * 7 - (1 + n * 7)) (drop (1 + n * 7) S)) 0))
    m left r
    → Searched (placed_on a A B (part_of m) (atom_at stored S (1 + n * 7))) m left r
lent a A B S m left n s = searched_as _ _ _ _ _ (ap (placed_on a A B (part_of m)) (nth_part S n)) s

-- and of the atoms after the first
after : (F : List ℕ) (B : Question) (came left : List ℕ) {r : Bool}
    → Searched (find_map (atoms_of (take (length F - 7) (drop 7 F))) B (part_of came)) came left r
    → Searched (find_map (atoms_of (drop 7 F)) B (part_of came)) came left r
after F B came left s =
    searched_as _ _ _ _ _ (ap (λ (P : List ℕ). find_map (atoms_of P) B (part_of came)) (part_is F 7)) s

-- there is an atom to place
some : (B : List ℕ) {r : Bool} → r ≡ eqb (length B) 0 → r ≡ false → 0 < length B
some B e f = let h = eqb-false _ _ (sym e ∙ f) in omega (arith, h)

-- the places of an atom
places : (B : List ℕ) → args_at (take 6 (drop 1 B)) 0 6 ≡ args_at B 1 6
places B = terms_part B 1 6 (omega arith)

sound_places : (B : List ℕ) → SoundAtoms B → 0 < length B → T (used_first stored (take 6 (drop 1 B)) 0 6)
sound_places B s h = subst T (sym (terms_used B 1 6 (omega arith))) (atom_used stored B 0 (rest_first B s h))

both_lent : (F S : List ℕ) → SoundAtoms F → 0 < length F → 7 ≤ length S
    → (6 ≤ length (take 6 (drop 1 F))) × (6 ≤ length (take 6 (drop 1 S))) × T (used_first stored (take 6 (drop 1 F)) 0 6)
both_lent F S s h l =
    let room = rest_room F s h in (
      omega (arith, length-take {A = ℕ}, length-drop 1 F),
      omega (arith, length-take {A = ℕ}, length-drop 1 S),
      sound_places F s h,
    )

-- the atom meets the candidate, of its relation, where its places do
places_met : (F S m : List ℕ) {r : Bool} → get_or F 0 0 ≡ get_or S 0 0
    → r ≡ is_some (place_terms (part_of m) (args_at (take 6 (drop 1 F)) 0 6) (args_at (take 6 (drop 1 S)) 0 6))
    → is_some (place_atom (part_of m) (atom_at stored F 0) (atom_at stored S 0)) ≡ r
places_met F S m e f = as_places F S _ _ m 0 0 (places F) (places S) e f

pub place_next-returns-then-is_empty : goal.place_next-returns-then-is_empty
place_next-returns-then-is_empty t c =
    let a = c.args in
    found _ _ _ refl
    (sym
    (ap (λ A. find_map A (question_of stored a.second.now) (part_of a.map.now))
    (rest_none a.rest.now (eqb-true _ _ (sym c.is_empty.ensures ∙ c.if-is_empty.true)))
    ∙ search_done _ _))

pub place_next-returns-then-seen_dead : goal.place_next-returns-then-seen_dead
place_next-returns-then-seen_dead t c = seen_ends _ _ _ _ refl (c.seen_dead.ensures c.if-seen_dead.true)

pub place_next-loop-n-init : goal.place_next-loop-n-init
place_next-loop-n-init t c =
    let a = c.args in
    let F = a.rest.now in
    let S = a.second.now in (
      refl,
      ap (λ A. find_map A (question_of stored S) (part_of a.map.now))
          (rest_more F c.requires.0 (some F c.is_empty.ensures c.if-is_empty.false))
          ∙ search_next _ _ _ _
          ∙ ap (λ C. tried (atom_at stored F 0) (atoms_of (drop 7 F)) (question_of stored S) C (part_of a.map.now))
          (none_passed S),
    )

pub place_next-try_candidate-tried-requires : goal.place_next-try_candidate-tried-requires
place_next-try_candidate-tried-requires t c =
    let h = some c.args.rest.now c.is_empty.ensures c.if-is_empty.false in (
      omega arith,
      (c.requires.0, h, omega (arith, length-take {A = ℕ}, length-drop {A = ℕ}), c.requires.1),
    )

pub place_next-returns-then-eq : goal.place_next-returns-then-eq
place_next-returns-then-eq t c =
    one_serves stored _ _ _ _ _ _ _ _ _ (omega arith) c.loop-n.invariant.0 c.loop-n.invariant.1
    (lent _ _ _ c.args.second.now _ _ c.loop-n.n c.try_candidate-tried.ensures.searched)
    (placed_is _ c.eq.ensures ∙ c.if-eq.true)

pub place_next-gives_up-requires : goal.place_next-gives_up-requires
place_next-gives_up-requires t c = (c.requires.0, some c.args.rest.now c.is_empty.ensures c.if-is_empty.false)

pub place_next-returns-then-gives_up : goal.place_next-returns-then-gives_up
place_next-returns-then-gives_up t c =
    search_ends _ _ _ _ _ _ _ _ _ _ c.loop-n.invariant.0 c.loop-n.invariant.1
    c.try_candidate-tried.ensures.searched c.try_candidate-tried.ensures.met
    (sym c.gives_up.ensures ∙ c.if-gives_up.true)

pub place_next-returns-then-seen_dead-2 : goal.place_next-returns-then-seen_dead-2
place_next-returns-then-seen_dead-2 t c =
    let failed = placed_is _ c.eq.ensures ∙ c.if-eq.false in
    seen_ends _ _ _ _ (c.try_candidate-tried.ensures.searched.back failed ∙ c.loop-n.invariant.0)
    (c.seen_dead-in-loop-n.ensures c.if-seen_dead-2.true)

pub place_next-loop-n-preserved : goal.place_next-loop-n-preserved
place_next-loop-n-preserved t c =
    let a = c.args in
    let F = a.rest.now in
    let S = a.second.now in
    let next =
    one_fails stored _ _ _ _ _ _ _ _ _ (omega arith) c.loop-n.invariant.0 c.loop-n.invariant.1
    (lent _ _ _ S _ _ c.loop-n.n c.try_candidate-tried.ensures.searched)
    (placed_is _ c.eq.ensures ∙ c.if-eq.false) in (
      next.0,
      next.1
          ∙ ap (λ C. tried (atom_at stored F 0) (atoms_of (drop 7 F)) (question_of stored S) C (part_of a.map.now))
          (one_passed S 1 c.loop-n.n (get_or S 0 0)),
    )

pub place_next-returns : goal.place_next-returns
place_next-returns t c =
    rw c.loop-n.invariant.0 (not_found _ _ (c.loop-n.invariant.1 ∙ tried_none stored _ _ _ _ _ _ _ (omega arith)))

pub try_candidate-returns-then-rest-candidate-clause-searched : goal.try_candidate-returns-then-rest-candidate-clause-searched
try_candidate-returns-then-rest-candidate-clause-searched t c =
    let a = c.args in
    not_met _ _ _ _ _ (ap is_some (atoms_apart stored a.rest.now a.candidate.now 0 0 _ c.if-rest-candidate.true))

pub try_candidate-terms_meet-requires : goal.try_candidate-terms_meet-requires
try_candidate-terms_meet-requires t c = both_lent c.args.rest.now c.args.candidate.now c.requires.0 c.requires.1 c.requires.2

pub try_candidate-returns-then-not-terms_meet-clause-searched : goal.try_candidate-returns-then-not-terms_meet-clause-searched
try_candidate-returns-then-not-terms_meet-clause-searched t c =
    let a = c.args in
    let F = a.rest.now in
    let S = a.candidate.now in
    let same : get_or F 0 0 ≡ get_or S 0 0 = omega (arith, c.if-rest-candidate.false) in
    not_met _ _ _ _ _
    (places_met F S a.map.now same c.terms_meet.ensures ∙ c.if-not-terms_meet.true)

pub try_candidate-send-before-requires : goal.try_candidate-send-before-requires
try_candidate-send-before-requires t c = both_lent c.args.rest.now c.args.candidate.now c.requires.0 c.requires.1 c.requires.2

pub try_candidate-place_next-requires : goal.try_candidate-place_next-requires
try_candidate-place_next-requires t c =
    let F = c.args.rest.now in
    let room = rest_room F c.requires.0 c.requires.1 in (
      omega (arith, length-take {A = ℕ}, length-drop 7 F),
      (subst SoundAtoms (sym (part_is F 7)) (rest_sound F c.requires.0 c.requires.1), c.requires.3),
    )

pub try_candidate-returns-then-place_next-clause-searched : goal.try_candidate-returns-then-place_next-clause-searched
try_candidate-returns-then-place_next-clause-searched t c =
    let a = c.args in
    let F = a.rest.now in
    let S = a.candidate.now in
    let same : get_or F 0 0 ≡ get_or S 0 0 = omega (arith, c.if-rest-candidate.false) in
    let long : length a.map.now ≡ 96 = search rules in
    let met = places_met F S a.map.now same c.terms_meet.ensures ∙ c.if-not-terms_meet.false in
    serves F S _ _ a.map.now 0 0 (places F) (places S) _ _ long (sound_places F c.requires.0 c.requires.1) met _ _ _
    c.send-before.ensures.0 (after F _ _ _ c.place_next.ensures) c.if-place_next.true

pub try_candidate-returns : goal.try_candidate-returns
try_candidate-returns t c =
    let a = c.args in
    let F = a.rest.now in
    let S = a.candidate.now in
    let same : get_or F 0 0 ≡ get_or S 0 0 = omega (arith, c.if-rest-candidate.false) in
    let long : length a.map.now ≡ 96 = search rules in
    let met = places_met F S a.map.now same c.terms_meet.ensures ∙ c.if-not-terms_meet.false in
    record {
      searched =
          taken_back_lem F S _ _ a.map.now 0 0 (places F) (places S) _ _ long
          (sound_places F c.requires.0 c.requires.1) met _ _ _ c.send-before.ensures.0 (after F _ _ _ c.place_next.ensures) _ _ c.if-place_next.false c.send-before.ensures.1
          c.take_back.ensures;
      met = λ e. met;
    }
