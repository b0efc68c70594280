-- `lister::writing::replaced` meets its contract: the left atoms by the classes, then the body by their upper half.
use borrow.Author.Rules.{rules}
use native.Mathlib.Omega.{arith}
use mathlib.Core.Path.{◌≡◌, refl, sym, ap, ◌∙◌, subst}
use mathlib.Core.List.{◌++◌}
use lib.ListN.{length, get_or}
use Rattle.covering.specs.Term.{on_question}
use Rattle.covering.specs.Record.{stored, atoms_at}
use Rattle.covering.proofs.Lengths.{question_count}
use Rattle.covering.proofs.Places.{question_at_lem}
use Rattle.forming.specs.Building.{sub_of}
use Rattle.lister.specs.Listing.{LeftIn}
use Rattle.lister.proofs.Halves.{upper_fits}
use Rattle.lister.proofs.LeftAtoms.{left_bytes}
use Rattle.lister.proofs.RewritingBytes.{put_count, whole_question}
use Rattle.lister.proofs.writing.replaced.Goals as goal

pub put_all-requires : goal.put_all-requires
put_all-requires c =
    let B = c.left.inside.bytes in
    rw (c.empty-whole.ensures, c.from-n.ensures) (
      omega (arith, question_count stored B, ap length c.left.view_is, c.requires.1),
      left_bytes B c.left.invariant.sound c.left.invariant.rest (subst LeftIn (sym c.left.view_is) c.requires.0),
      c.requires.3,
    )

pub put_all-requires-2 : goal.put_all-requires-2
put_all-requires-2 c =
    let B = c.left.inside.bytes in
    let pre = c.requires in
    let long : length c.args.table.now ≡ 96 = search rules in
    let first = rw (c.empty-whole.ensures, c.from-n.ensures) at c.put_all.ensures in
    let count = put_count (sub_of c.args.table.now) B 1 (get_or B 0 0) in (
      omega (arith, ap length first, count, question_count stored B, ap length c.left.view_is, pre.1, pre.2.few_body),
      pre.2.body,
      upper_fits _ _ pre.3 long c.upper_half-upper.ensures,
    )

pub returns : goal.returns
returns c =
    let B = c.left.inside.bytes in
    let a = c.args in
    let r = a.rule.now in
    let long : length a.table.now ≡ 96 = search rules in
    let first = rw (c.empty-whole.ensures, c.from-n.ensures) at c.put_all.ensures in
    let body = on_question (sub_of c.upper_half-upper.result) (atoms_at stored r.book.now r.parts.body r.parts.bodies) in
    whole_question _ B r.book.now a.table.now _ r.parts c.requires.0
    (sym c.left.view_is ∙ question_at_lem stored B refl) c.requires.2 long c.upper_half-upper.ensures _
    (c.put_all-2.ensures ∙ ap (λ A. A ++ body) first)
