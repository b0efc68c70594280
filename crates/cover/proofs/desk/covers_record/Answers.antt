-- `cover::desk::covers_record` meets its contract: where both have answer records or neither has, they and the atoms are
-- one conjunction, which a widened record holds.
use borrow.Author.Rules.{rules}
use native.Mathlib.Omega.{arith}
use mathlib.Core.Path.{◌≡◌, refl, sym, ◌∙◌, ap, ap₂}
use mathlib.Core.List.{List}
use Prim.Native.Nat.{ℕ, ◌≤◌}
use lib.Dec.{T}
use lib.ListN.{length}
use Rattle.covering.specs.Asking.{records, joined}
use Rattle.covering.specs.Search.{find_map, first_map}
use Rattle.covering.specs.Record.{desk, stored, answers, asking_of, is_desk_record, Fits}
use Rattle.covering.proofs.Bytes.{Passed, record_passed, desk_passed, width_least, width_most}
use Rattle.covering.proofs.DeskRecords.{desk_free, desk_fits, desk_records}
use Rattle.covering.proofs.Within.{held_within}
use Rattle.covering.proofs.Places.{question_at_lem}
use Rattle.covering.proofs.AnsweredCovers.{same_records, other_records}
use Rattle.covering.specs.Buffer.{record_room}
use Rattle.cover.specs.HeldMap.{part_of}
use Rattle.cover.proofs.Maps.{part_nowhere}
use Rattle.cover.proofs.SearchSteps.{not_found, searched_as}
use Rattle.cover.proofs.desk.covers_record.Goals as goal

-- what is known of a record of the desk's
module _ (w : ℕ) (B : List ℕ) (t : T (is_desk_record w B)) where
  some_place : 1 ≤ w
  some_place = omega (arith, width_least w (desk_passed w B t).0)

  passed : Passed (desk w) B
  passed = record_passed (desk w) B (desk_passed w B t).1

  fits : Fits stored (joined (asking_of (desk w) B))
  fits = desk_fits w some_place B passed (width_most w (desk_passed w B t).0)

  -- how many answer records it has
  counted : records (asking_of (desk w) B).answer ≡ answers B
  counted = desk_records w some_place B passed

pub returns-then-answers : goal.returns-then-answers
returns-then-answers c =
    let a = c.args in
    not_found _ _
    (other_records (asking_of (desk a.w) a.first.now) (asking_of (desk a.w) a.second.now)
    (λ e.
    c.if-answers.true
    (c.answers.ensures
    ∙ sym (counted a.w a.first.now c.requires.0)
    ∙ e
    ∙ counted a.w a.second.now c.requires.1
    ∙ sym c.answers-2.ensures)))

pub widened-one-requires : goal.widened-one-requires
widened-one-requires c = c.requires.0

pub widened-two-requires : goal.widened-two-requires
widened-two-requires c = c.requires.1

pub atoms-requires : goal.atoms-requires
atoms-requires c = (held_within _ _ (fits c.args.w c.args.first.now c.requires.0) c.widened-one.ensures).0

pub place_next-requires : goal.place_next-requires
place_next-requires c =
    let a = c.args in
    let room : length c.widened-two.result ≡ record_room = search rules in (
      c.atoms.ensures.sound,
      rw (← room) (held_within _ _ (fits a.w a.second.now c.requires.1) c.widened-two.ensures).0.fits,
    )

pub returns : goal.returns
unfolding first_map
returns c =
    let a = c.args in
    let F = asking_of (desk a.w) a.first.now in
    let S = asking_of (desk a.w) a.second.now in
    let same : records F.answer ≡ records S.answer =
    omega (
      arith,
      counted a.w a.first.now c.requires.0,
      counted a.w a.second.now c.requires.1,
      c.answers.ensures,
      c.answers-2.ensures,
      c.if-answers.false,
    ) in
    let e =
    ap₂ (λ A B. find_map A B (part_of a.map.now))
    (c.atoms.ensures.atoms
    ∙ question_at_lem stored _ refl
    ∙ (held_within _ _ (fits a.w a.first.now c.requires.0) c.widened-one.ensures).1)
    (question_at_lem stored _ refl ∙ (held_within _ _ (fits a.w a.second.now c.requires.1) c.widened-two.ensures).1)
    ∙ ap (find_map _ _) (ap part_of c.requires.2 ∙ part_nowhere 96)
    ∙ sym
    (same_records F S
    (desk_free a.w (some_place a.w a.second.now c.requires.1) a.second.now (passed a.w a.second.now c.requires.1))
    same) in
    searched_as _ _ _ _ _ e c.place_next.ensures
