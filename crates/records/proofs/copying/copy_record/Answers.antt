-- `records::copying::copy_record` meets its contract: the record's bytes are copied over the first of those of 255.
use native.Mathlib.Omega.{arith}
use native.Mathlib.Nat.{zero-add}
use mathlib.Core.Path.{ap, sym, ◌∙◌}
use mathlib.Core.List.{List, ◌++◌}
use Prim.Native.Nat.{ℕ}
use lib.ListN.{take, drop, replicate}
use lib.Seq.{paste}
use Rattle.covering.specs.Record.{stored}
use Rattle.covering.specs.Buffer.{record_room}
use Rattle.covering.proofs.RoundTrip.{stored_apart}
use Rattle.covering.proofs.Padded.{begun_held}
use Rattle.records.proofs.copying.copy_record.Goals as goal

pub returns : goal.returns
returns c =
    let B = c.args.member.now in
    let w = c.width-width.result in
    let d : List ℕ = replicate record_room 255 in
    ap (λ (l : List ℕ). l ++ drop w d) c.copy_from_slice.ensures.after
    ∙ ap (λ (k : ℕ). take w B ++ drop k d) (sym (zero-add w))
    ∙ ap (paste d 0 B) c.width-width.ensures
    ∙ begun_held stored B stored_apart c.requires record_room (omega (arith, c.requires.most))
