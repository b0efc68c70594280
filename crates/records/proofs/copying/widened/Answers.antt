-- `records::copying::widened` meets its contract: its atoms, the answer record among them, are put behind their count.
use native.Mathlib.Omega.{arith}
use mathlib.Core.Path.{◌≡◌, sym, ◌∙◌, ap, subst}
use Prim.Native.Nat.{ℕ, ◌+◌}
use lib.ListN.{get_or}
use Rattle.covering.specs.Lists.{◌∈◌}
use Rattle.covering.specs.Record.{answers, holding, stored, atoms_at}
use Rattle.covering.specs.Buffer.{AtomsIn, held_in, record_room}
use Rattle.covering.proofs.Lengths.{count_atoms}
use Rattle.covering.proofs.Widths.{put_held}
use Rattle.records.proofs.Desk.{passed, few, within, narrow, same}
use Rattle.records.proofs.copying.widened.Goals as goal

pub bounds-s-0 : goal.bounds-s-0
bounds-s-0 c = omega (arith, (passed _ _ c.requires).exact)

pub overflow_add-n : goal.overflow_add-n
overflow_add-n c = omega (arith, c.answers.ensures, few _ _ c.requires)

pub copy_atoms-requires : goal.copy_atoms-requires
copy_atoms-requires c =
    let B = c.args.s.now in
    let w = c.args.w in
    let count : answers B + get_or B 0 0 ≡ c.from.result = cc in (
      subst (AtomsIn (holding w) B 1) count (within w B c.requires),
      λ x m. narrow w B c.requires x (subst (λ (n : ℕ). x ∈ atoms_at (holding w) B 1 n) (sym count) m),
      omega (arith, count, few w B c.requires),
    )

pub returns : goal.returns
returns c =
    let B = c.args.s.now in
    let w = c.args.w in
    let count : c.from.result ≡ answers B + get_or B 0 0 = cc in
    put_held (atoms_at (holding w) B 1 c.from.result) _ 84 _ _ (count_atoms (holding w) B _ 1 ∙ c.from.ensures)
    c.copy_atoms.ensures
    ∙ ap (λ (n : ℕ). held_in stored record_room (atoms_at (holding w) B 1 n)) count
    ∙ ap (held_in stored record_room) (sym (same w B c.requires))
