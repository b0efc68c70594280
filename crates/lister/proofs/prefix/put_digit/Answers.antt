-- `lister::prefix::put_digit` meets its contract: digit 0 leaves the atom, another puts it on its head atom.
use borrow.Author.Rules.{rules}
use native.Mathlib.Omega.{arith}
use mathlib.Core.Path.{◌≡◌}
use lib.ListN.{length}
use Rattle.lister.proofs.Asked.{head_sound, room_left}
use Rattle.lister.proofs.OneDigit.{digit_tries, put_left, put_sent}
use Rattle.lister.proofs.prefix.put_digit.Goals as goal

pub add_atom-requires : goal.add_atom-requires
add_atom-requires c = (omega (arith, c.requires.few), (room_left (digit_tries c.requires)).1)

pub returns-then-d-eq0 : goal.returns-then-d-eq0
returns-then-d-eq0 c = put_left c.requires c.if-d-eq0.true c.add_atom.ensures

pub join_atoms-requires : goal.join_atoms-requires
join_atoms-requires c =
    let f = c.requires in (
      f.atom.fits,
      omega (arith, f.rule.head.fits, f.small, c.if-d-eq0.false),
      head_sound (digit_tries f) (omega (arith, c.if-d-eq0.false)),
      f.size,
    )

pub returns : goal.returns
returns c =
    let long : length c.join_atoms.new.table ≡ length c.args.table.now = search rules in
    put_sent c.requires (omega (arith, c.if-d-eq0.false)) c.join_atoms.result _ c.join_atoms.ensures long
