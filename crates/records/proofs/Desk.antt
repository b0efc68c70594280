-- A record of either width that passed: its atoms, the answer record among them, as they are copied to six places.
-- Assumes nothing.
use mathlib.Core.Path.{◌≡◌}
use mathlib.Core.List.{List}
use Prim.Native.Nat.{ℕ, ◌+◌, ◌≤◌}
use native.Mathlib.Omega.{arith}
use lib.Dec.{T}
use lib.ListN.{length, get_or}
use Rattle.covering.specs.Lists.{◌∈◌}
use Rattle.covering.specs.Term.{Atom}
use Rattle.covering.specs.Asking.{joined}
use Rattle.covering.specs.Record.{desk, holding, atoms_at, answers, asking_of, is_desk_record, new_places}
use Rattle.covering.specs.Buffer.{AtomsIn}
use Rattle.covering.proofs.Bytes.{Passed, record_passed, desk_passed, width_least, width_most}
use Rattle.covering.proofs.DeskRecords.{desk_few, desk_within, desk_narrow, desk_joined}

module _ (w : ℕ) (B : List ℕ) (t : T (is_desk_record w B)) where
  pub passed : Passed (desk w) B
  passed = record_passed (desk w) B (desk_passed w B t).1

  some_place : 1 ≤ w
  some_place = omega (arith, width_least w (desk_passed w B t).0)

  pub few : answers B + get_or B 0 0 ≤ 12
  few = desk_few w some_place B passed

  pub within : AtomsIn (holding w) B 1 (answers B + get_or B 0 0)
  within = desk_within w some_place B passed

  pub narrow : (a : Atom) → a ∈ atoms_at (holding w) B 1 (answers B + get_or B 0 0) → length a.args ≤ new_places
  narrow a m = omega (arith, desk_narrow w some_place B passed a m, width_most w (desk_passed w B t).0)

  pub same : joined (asking_of (desk w) B) ≡ atoms_at (holding w) B 1 (answers B + get_or B 0 0)
  same = desk_joined w some_place B passed
