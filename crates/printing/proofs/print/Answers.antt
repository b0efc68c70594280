-- `printing::print` meets its contract: a union's first line and its members.
use Rattle.std.proofs.Common.{arith, refl}
use Rattle.printing.proofs.Adding.{adds_as, then}
use Rattle.printing.proofs.Results.{Words, union_text, union_length, stands_there}
use Rattle.printing.proofs.print.Goals as goal

pub put_line-requires : goal.put_line-requires
put_line-requires c =
    let words : Words c.args.output.now c.word-members.result c.word-explored.result c.word-first.result =
    record { members = c.word-members.ensures; explored = c.word-explored.ensures; first = c.word-first.ensures } in
    omega (arith, c.requires.1, union_length c.args.answers 0 0 c.args.output.now words refl)

pub put_members-requires : goal.put_members-requires
put_members-requires c =
    let words : Words c.args.output.now c.word-members.result c.word-explored.result c.word-first.result =
    record { members = c.word-members.ensures; explored = c.word-explored.ensures; first = c.word-first.ensures } in (
      stands_there words c.requires.0,
      omega (arith, c.requires.1, union_length c.args.answers 0 0 c.args.output.now words refl),
    )

pub returns : goal.returns
returns c =
    let words : Words c.args.output.now c.word-members.result c.word-explored.result c.word-first.result =
    record { members = c.word-members.ensures; explored = c.word-explored.ensures; first = c.word-first.ensures } in
    adds_as (union_text c.args.answers 0 0 c.args.output.now words refl) (then c.put_line.ensures c.put_members.ensures)
