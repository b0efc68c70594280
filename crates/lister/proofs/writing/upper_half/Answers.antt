-- `lister::writing::upper_half` meets its contract.
use native.Mathlib.Omega.{arith}
use mathlib.Core.Path.{sym, ◌∙◌}
use lib.ListN.{length-take, length-drop, drop}
use Rattle.lister.proofs.Halves.{upper_half_is}
use Rattle.lister.proofs.writing.upper_half.Goals as goal

pub slice_bounds-copy_from_slice-end : goal.slice_bounds-copy_from_slice-end
slice_bounds-copy_from_slice-end c = sym (length-take 48 c.args.table.now ∙ omega (arith, c.told-table))

pub copy_from_slice-requires : goal.copy_from_slice-requires
copy_from_slice-requires c =
    let t = c.args.table.now in
    omega (arith, c.told-table, length-take 48 t, length-take 48 (drop 48 t), length-drop 48 t)

pub returns : goal.returns
returns c = upper_half_is c.args.table.now _ c.told-table c.copy_from_slice.ensures.after
