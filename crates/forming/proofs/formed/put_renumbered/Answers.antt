-- `forming::formed::put_renumbered` meets its contract. The loop's invariant: the atoms passed are put renumbered, and with
-- those from here on they are no more than twelve.
use borrow.Author.Rules.{rules}
use native.Mathlib.Omega.{arith}
use mathlib.Core.Path.{◌≡◌, sym, ap, ap₂, ◌∙◌}
use mathlib.Core.List.{[], ◌∷◌, ◌++◌}
use Prim.Native.Nat.{◌<◌}
use lib.ListN.{length, get_or, length-append}
use Rattle.covering.specs.Term.{on_atom, on_question}
use Rattle.covering.specs.Form.{numbering}
use Rattle.covering.specs.Record.{stored, question_of}
use Rattle.forming.specs.Building.{sub_of}
use Rattle.covering.proofs.Lists.{map_append}
use Rattle.covering.proofs.Within.{sound_in}
use Rattle.records.proofs.Holding.{held_bytes, held_question, held_room, held_fits, empty_fits, more_fits}
use Rattle.records.proofs.Onward.{nth, nth_in}
use Rattle.forming.proofs.Passing.{question_left, split_done, split_in, split_next}
use Rattle.forming.proofs.Growing.{table_numbers, table_fits}
use Rattle.forming.proofs.formed.put_renumbered.Goals as goal

pub loop-k-init : goal.loop-k-init
loop-k-init c =
    let none : question_of stored c.args.out.now ≡ [] = held_question _ _ empty_fits c.requires in (
      held_bytes _ _ empty_fits c.requires,
      omega (arith, c.member.invariant.most, ap length none),
      ([], none, sym c.member.view_is ∙ question_left c.member.inside.bytes.now),
    )

pub put_on-requires : goal.put_on-requires
put_on-requires c =
    let B = c.member.inside.bytes.now in
    let i = c.loop-k.invariant in
    let s = i.2 in
    let lt : c.loop-k.k < get_or B 0 0 = omega (arith, c.from-k-end.ensures) in
    let here = split_in B 1 _ _ lt _ s.0 (c.member.view_is ∙ s.2) in
    let long : length c.numbers_of-table.result ≡ 96 = search rules in (
      held_room _ i.0 (omega (arith, i.1)),
      long,
      nth_in stored B 1 _ _ lt (sound_in stored B c.member.invariant),
      table_fits _ c.member.invariant _ (rw (← c.member.view_is) at c.numbers_of-table.ensures) _ here,
    )

pub loop-k-preserved : goal.loop-k-preserved
loop-k-preserved c =
    let B = c.member.inside.bytes.now in
    let i = c.loop-k.invariant in
    let s = i.2 in
    let k = c.loop-k.k in
    let lt : k < get_or B 0 0 = omega (arith, c.from-k-end.ensures) in
    let here = split_in B 1 _ _ lt _ s.0 (c.member.view_is ∙ s.2) in
    let a = nth stored B 1 k in
    let next = on_atom (sub_of c.numbers_of-table.result) a in
    let each = rw (← c.member.view_is) at c.numbers_of-table.ensures in
    let same : next ≡ on_atom (numbering c.args.member.now) a =
    table_numbers _ c.member.invariant _ each _ here ∙ ap (λ Q. on_atom (numbering Q) a) c.member.view_is in
    let few : length (question_of stored c.loop-k.out) < 12 = omega (arith, i.1) in
    let fits = more_fits _ next (held_fits _ i.0) few (table_fits _ c.member.invariant _ each _ here) in
    let grown : question_of stored c.put_on.new.kept ≡ question_of stored c.loop-k.out ++ next ∷ [] =
    held_question _ _ fits c.put_on.ensures in (
      held_bytes _ _ fits c.put_on.ensures,
      omega (arith, i.1, ap length grown, length-append (question_of stored c.loop-k.out) (next ∷ [])),
      (
        s.0 ++ a ∷ [],
        grown
            ∙ ap₂ (λ A b. A ++ b ∷ []) s.1 same
            ∙ sym (map_append (on_atom (numbering c.args.member.now)) s.0 (a ∷ [])),
        split_next B 1 _ _ lt _ s.0 s.2,
      ),
    )

pub returns : goal.returns
returns c =
    let i = c.loop-k.invariant in
    let s = i.2 in
    let all = split_done _ _ _ _ (omega (arith, c.from-k-end.ensures)) _ s.0 s.2 in
    (i.0, s.1 ∙ ap (λ A. on_question (numbering c.args.member.now) A) all)
