-- `cover::search::covers_on` meets its contract: the first atom is tried on one candidate, where that has its relation.
use native.Mathlib.Omega.{arith}
use mathlib.Core.Path.{refl, sym, ap, ◌∙◌}
use Prim.Native.Nat.{ℕ, ◌+◌, ◌*◌, ◌<◌}
use lib.ListN.{length, get_or, drop, length-take, length-drop}
use Rattle.covering.specs.Record.{stored, atom_at, question_of}
use Rattle.covering.proofs.Places.{atoms_more, question_at_lem}
use Rattle.covering.proofs.Within.{sound_in}
use Rattle.records.proofs.Copied.{copy_sound, copy_same, copy_count}
use Rattle.cover.specs.Candidates.{placed_on, found_on}
use Rattle.cover.specs.HeldMap.{part_of}
use Rattle.cover.specs.Rest.{atoms_of}
use Rattle.cover.proofs.Maps.{atoms_apart}
use Rattle.cover.proofs.Parts.{nth_part}
use Rattle.cover.proofs.Rest.{rest_more}
use Rattle.cover.proofs.SearchSteps.{on_apart, on_candidate, not_found, searched_as}
use Rattle.cover.proofs.Leads.{placed_is}
use Rattle.cover.proofs.search.covers_on.Goals as goal

pub returns-then-first-second : goal.returns-then-first-second
returns-then-first-second c =
    let a = c.args in
    let F = a.first.now in
    let S = a.second.now in
    let is = question_at_lem stored F refl ∙ atoms_more stored F 1 (get_or F 0 0) (omega (arith, c.requires.3)) in
    searched_as _ _ _ _ _
    (on_candidate _ _ _ _ _
    ∙ ap (λ A. found_on A (question_of stored S) (part_of a.map.now) (atom_at stored S (1 + a.k * 7))) (sym is))
    (not_found _ _ (on_apart _ _ _ _ _ (atoms_apart stored F S 1 (1 + a.k * 7) _ c.if-first-second.true)))

pub atoms-requires : goal.atoms-requires
atoms-requires c = sound_in stored _ (copy_sound _ _ c.requires.0 c.copy_record-held.ensures)

pub try_candidate-requires : goal.try_candidate-requires
try_candidate-requires c =
    let count = copy_count _ _ c.requires.0 c.copy_record-held.ensures in (
      c.atoms.ensures.sound,
      omega (arith, count, c.requires.3, c.atoms.ensures.long),
      omega (arith, c.requires.2, c.requires.1.most, length-take {A = ℕ}, length-drop (1 + c.args.k * 7) c.args.second.now),
      omega (arith, c.requires.1.most),
    )

pub returns : goal.returns
returns c =
    let a = c.args in
    let S = a.second.now in
    let P = c.atoms.result.now in
    let count = copy_count _ _ c.requires.0 c.copy_record-held.ensures in
    let some : 0 < length P = omega (arith, count, c.requires.3, c.atoms.ensures.long) in
    let is =
    sym (rest_more P c.atoms.ensures.sound some)
    ∙ c.atoms.ensures.atoms
    ∙ copy_same _ _ c.requires.0 c.copy_record-held.ensures in
    rw (← placed_is _ c.eq.ensures)
    (searched_as _ _ _ _ _
    (ap (placed_on (atom_at stored P 0) (atoms_of (drop 7 P)) (question_of stored S) (part_of a.map.now)) (nth_part S a.k)
    ∙ on_candidate _ _ _ _ _
    ∙ ap (λ A. found_on A (question_of stored S) (part_of a.map.now) (atom_at stored S (1 + a.k * 7))) is)
    c.try_candidate.ensures.searched)
