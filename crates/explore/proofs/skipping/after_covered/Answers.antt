-- `explore::skipping::after_covered` meets its contract. The loop's invariant: all that is listed between the choice and
-- the number to go on from is covered.
use native.Mathlib.Omega.{arith}
use mathlib.Core.Path.{sym, ap, ap₂}
use Prim.Native.Nat.{◌-◌}
use lib.ListN.{get_or}
use Rattle.covering.specs.Record.{stored}
use Rattle.covering.proofs.Lengths.{question_count}
use Rattle.unification.specs.Choice.{count}
use Rattle.lister.proofs.Answers.{heads_are}
use Rattle.lister.proofs.Asked.{count_few}
use Rattle.explore.proofs.PassedOver.{goes_next, covered_yes, goes_after}
use Rattle.explore.proofs.skipping.after_covered.Goals as goal

pub bounds-member-0 : goal.bounds-member-0
bounds-member-0 c = omega (arith, c.requires.0.atoms.fits)

pub overflow_add-from : goal.overflow_add-from
overflow_add-from c =
    omega (arith, c.requires.2, count_few c.args.rule.now.parts.heads (get_or c.args.member.now 0 0) c.requires.1.few_head c.requires.0.few)

pub loop-p-init : goal.loop-p-init
loop-p-init c = goes_next _ _ _ _

pub prefix_covered-requires : goal.prefix_covered-requires
prefix_covered-requires c = (
  c.requires.0,
  c.requires.1,
  omega (arith, c.from-n.ensures),
  c.requires.2,
)

pub returns-then-not-prefix_covered : goal.returns-then-not-prefix_covered
returns-then-not-prefix_covered c = c.loop-p.invariant

pub after_prefix-from-requires : goal.after_prefix-from-requires
after_prefix-from-requires c =
    let few =
    count_few c.args.rule.now.parts.heads (get_or c.args.member.now 0 0) c.requires.1.few_head c.requires.0.few in (
      omega (arith, c.requires.0.atoms.fits),
      c.requires.1.some_head,
      c.requires.1.few_head,
      omega (arith, c.from-n.ensures),
      omega (arith, c.from-n.ensures, c.shortest-p-start.ensures),
      omega (arith, few, c.requires.2),
    )

pub loop-p-preserved : goal.loop-p-preserved
loop-p-preserved c =
    let yes = covered_yes c.if-not-prefix_covered.false c.prefix_covered.ensures in
    let M = question_count stored c.args.member.now in
    let rule = c.args.rule.now in
    let r = heads_are rule.book.now rule.parts in
    let p = c.loop-p.p - 1 in
    goes_after yes (omega (arith, M, c.from-n.ensures)) (count rule.parts.heads (get_or c.args.member.now 0 0 - p))
    (ap₂ count (sym r) (ap (λ x. x - p) (sym M)))
    c.after_prefix-from.ensures

pub returns : goal.returns
returns c = c.loop-p.invariant
