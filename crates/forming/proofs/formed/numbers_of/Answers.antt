-- `forming::formed::numbers_of` meets its contract. The loop's invariant: the record's variables in order of first
-- appearance are those that the table has now and then those of the atoms from here on.
use native.Mathlib.Omega.{arith}
use mathlib.Core.Path.{sym, ap, ◌∙◌}
use mathlib.Core.List.{[]}
use Prim.Native.Nat.{◌<◌}
use lib.ListN.{get_or}
use Rattle.covering.specs.Term.{terms}
use Rattle.covering.specs.Record.{stored}
use Rattle.covering.proofs.Within.{sound_in}
use Rattle.records.proofs.Onward.{nth_in}
use Rattle.forming.specs.Building.{all_seen, new_number}
use Rattle.forming.proofs.Leftward.{firsts_leftward}
use Rattle.forming.proofs.Renaming.{numbered_none}
use Rattle.forming.proofs.Passing.{question_left, terms_none, terms_next}
use Rattle.forming.proofs.formed.numbers_of.Goals as goal

pub loop-k-init : goal.loop-k-init
loop-k-init c = (
  omega (arith, c.member.invariant.most),
  ([], numbered_none, firsts_leftward _ ∙ ap (λ A. all_seen [] (terms A)) (sym c.member.view_is ∙ question_left c.member.inside.bytes.now)),
)

pub number_atom-requires : goal.number_atom-requires
number_atom-requires c =
    let m = c.member.inside.bytes.now in
    let lt : c.loop-k.k < get_or m 0 0 = omega (arith, c.from-k-end.ensures) in
    (nth_in stored m 1 _ _ lt (sound_in stored m c.member.invariant), omega (arith, c.loop-k.invariant.0))

pub loop-k-preserved : goal.loop-k-preserved
loop-k-preserved c =
    let m = c.member.inside.bytes.now in
    let n = c.number_atom in
    let s = c.loop-k.invariant.1 in
    let lt : c.loop-k.k < get_or m 0 0 = omega (arith, c.from-k-end.ensures) in
    (omega (arith, c.loop-k.invariant.0, n.ensures.0), (_, n.ensures.1 s.0 s.1, s.2 ∙ terms_next m 1 _ _ lt s.0))

pub returns : goal.returns
returns c =
    let s = c.loop-k.invariant.1 in
    λ n lt.
    s.1.each n lt
    ∙ ap (λ S. new_number S n) (sym (s.2 ∙ terms_none _ _ _ _ (omega (arith, c.from-k-end.ensures)) s.0))
