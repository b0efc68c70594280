-- `library::lend` meets its contract: the bytes that there is room for, then those of the room that are past them.
use Rattle.std.proofs.Common.{◌≡◌, List, ℕ, ◌++◌, min, length, take, drop, ◌∙◌, ap, ap₂, arith}
use Rattle.std.proofs.lemmas.List.{take_min, drop_min}
use Rattle.library.specs.Lent.{lent}
use Rattle.library.proofs.lend.Goals as goal

pub returns : goal.returns
unfolding lent
returns c =
    let bytes = c.args.bytes.now in
    let room = c.args.room.now in
    let turned : c.min-n.result ≡ min (length bytes) (length room) = omega arith in
    ap₂ (λ (s t : List ℕ). s ++ t)
    (c.copy_from_slice.ensures.after ∙ ap (λ n. take n bytes) c.min-n.ensures ∙ take_min (length room) bytes)
    (ap (λ n. drop n room) turned ∙ drop_min (length bytes) room)
