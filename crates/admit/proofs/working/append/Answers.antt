-- `admit::working::append` meets its contract: the bytes copied are the record's.
use native.Mathlib.Omega.{arith}
use mathlib.Core.Path.{ap, ap₂, ◌∙◌}
use mathlib.Core.List.{List, ◌++◌}
use borrow.Rule.Slice.PartMut.{Post-is}
use Prim.Native.Nat.{ℕ, ◌+◌}
use lib.ListN.{take}
use Rattle.covering.proofs.RoundTrip.{stored_apart}
use Rattle.covering.specs.Record.{stored}
use Rattle.covering.proofs.Begun.{begun_long, begun_record}
use Rattle.admit.proofs.working.append.Goals as goal

pub returns : goal.returns
returns c =
    let a = c.args in
    let B = a.member.now in
    let w = c.width-width.result in (
      omega (arith, c.width-width.ensures, begun_long stored B),
      ap₂ (λ (x r : List ℕ). take a.len a.work.now ++ (x ++ r))
          (c.copy_from_slice.ensures.after ∙ ap (λ (k : ℕ). take k B) c.width-width.ensures
          ∙ begun_record stored B stored_apart c.requires.0)
          (Post-is a.len (a.len + w) a.work.now (omega arith)),
    )
