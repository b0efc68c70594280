-- `cover::search::has_candidate` meets its contract. The loop's invariant: the atom has a candidate in all exactly
-- where it has one among those from here on. An atom of another relation is none; of the
-- same one the places decide.
use native.Mathlib.Omega.{arith}
use mathlib.Core.Path.{◌≡◌, sym, ap, ◌∙◌, subst}
use mathlib.Core.Bool.{Bool, false}
use mathlib.Core.List.{List}
use Prim.Native.Nat.{ℕ, ◌+◌, ◌*◌, ◌-◌}
use lib.Dec.{T}
use lib.ListN.{get_or, take, drop, length-take, length-drop}
use Rattle.covering.specs.Lists.{is_some}
use Rattle.covering.specs.Search.{place_atom, place_terms}
use Rattle.covering.specs.Record.{stored, atom_at, args_at}
use Rattle.covering.proofs.Bytes.{atom_used}
use Rattle.cover.specs.HeldMap.{part_of}
use Rattle.cover.specs.Candidates.{has_candidate}
use Rattle.cover.proofs.Maps.{atoms_apart}
use Rattle.cover.proofs.Parts.{terms_part, terms_used}
use Rattle.cover.proofs.Turns.{as_places}
use Rattle.cover.proofs.SearchSteps.{none_passed, one_passed, candidate_none, candidate_hit, candidate_miss}
use Rattle.cover.proofs.search.has_candidate.Goals as goal
use Rattle.cover.proofs.search.has_candidate.Goals.{else-atom-second-via-then-atom-second+else-terms_meet}
use Rattle.cover.proofs.search.has_candidate.Goals.{else-atom-second-via-else-atom-second}

-- the places of the atom and of the candidate at k
places_say : (m A S : List ℕ) (k : ℕ) (r : Bool) → get_or A 0 0 ≡ get_or S k 0
    → r
    ≡ is_some
    (place_terms (part_of m) (args_at (take 6 (drop 1 A)) 0 6) (args_at (take (k + 7 - (k + 1)) (drop (k + 1) S)) 0 6))
    → is_some (place_atom (part_of m) (atom_at stored A 0) (atom_at stored S k)) ≡ r
places_say m A S k r e f =
    as_places A S _ _ m 0 k (terms_part A 1 6 (omega arith)) (terms_part S (k + 1) (k + 7 - (k + 1)) (omega arith)) e f

pub loop-n-init : goal.loop-n-init
loop-n-init c =
    let a = c.args in
    ap (λ B. has_candidate (part_of a.map.now) B (atom_at stored a.atom.now 0)) (none_passed a.second.now)

pub terms_meet-requires : goal.terms_meet-requires
terms_meet-requires c =
    let a = c.args in
    let k = 1 + c.loop-n.n * 7 in (
      omega (arith, length-take {A = ℕ}, length-drop 1 a.atom.now),
      omega (arith, length-take {A = ℕ}, length-drop (k + 1) a.second.now),
      subst T (sym (terms_used a.atom.now 1 6 (omega arith))) (atom_used stored _ _ c.requires.1),
    )

pub returns-then-terms_meet : goal.returns-then-terms_meet
returns-then-terms_meet c =
    let a = c.args in
    let k = 1 + c.loop-n.n * 7 in
    let met = places_say a.map.now a.atom.now a.second.now k _ c.if-atom-second.true c.terms_meet.ensures in
    sym (c.loop-n.invariant ∙ candidate_hit stored _ _ _ _ _ (omega arith) (met ∙ c.if-terms_meet.true))

pub loop-n-preserved : goal.loop-n-preserved
loop-n-preserved c =
    let a = c.args in
    let k = 1 + c.loop-n.n * 7 in
    let meets : Bool = is_some (place_atom (part_of a.map.now) (atom_at stored a.atom.now 0) (atom_at stored a.second.now k)) in
    let missed : meets ≡ false =
    elim c.else-atom-second.branch [
      | else-atom-second-via-then-atom-second+else-terms_meet w ↦
          places_say a.map.now a.atom.now a.second.now k _ w.if-atom-second.true w.terms_meet.ensures
          ∙ w.if-terms_meet.false
      | else-atom-second-via-else-atom-second w ↦ ap is_some (atoms_apart stored _ _ _ _ _ w.if-atom-second.false)
    ] in
    c.loop-n.invariant
    ∙ candidate_miss stored _ _ _ _ _ (omega arith) missed
    ∙ ap (λ B. has_candidate (part_of a.map.now) B (atom_at stored a.atom.now 0)) (one_passed _ _ _ _)

pub returns : goal.returns
returns c = sym (c.loop-n.invariant ∙ candidate_none stored _ _ _ _ _ (omega arith))
