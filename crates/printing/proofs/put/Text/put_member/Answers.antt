-- `printing::put::Text::put_member` meets its contract.
use Rattle.std.proofs.Common.{arith}
use Rattle.printing.proofs.Adding.{adds_as, then}
use Rattle.printing.proofs.Texts.{member_text, member_length}
use Rattle.printing.proofs.put.Text.put_member.Goals as goal

pub put_all-requires : goal.put_all-requires
put_all-requires c = rw c.from.ensures (c.requires.0, omega (arith, member_length _ c.requires.1))

pub returns : goal.returns
returns c =
    let put = rw c.from.ensures at c.put_all.ensures in
    adds_as (member_text _ c.requires.1) (then put (then c.put_always.ensures c.put.ensures))
