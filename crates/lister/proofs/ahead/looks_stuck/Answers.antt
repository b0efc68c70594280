-- `lister::ahead::looks_stuck` meets its contract: it says yes only by the test.
use borrow.Author.Rules.{rules}
use native.Mathlib.Omega.{arith}
use mathlib.Core.Path.{sym}
use mathlib.Core.Bool.{true≢false}
use Rattle.lister.proofs.ahead.looks_stuck.Goals as goal

pub returns-then-n-lt3 : goal.returns-then-n-lt3
returns-then-n-lt3 c = λ told. absurd (true≢false (sym told))

pub overflow_mul-passed : goal.overflow_mul-passed
overflow_mul-passed c = omega (arith, c.args.asked.now.question_in.few)

pub overflow_add-passed : goal.overflow_add-passed
overflow_add-passed c = omega (arith, c.args.asked.now.question_in.few)

pub some_stuck-requires : goal.some_stuck-requires
some_stuck-requires c =
    let r = c.args.asked.now.rule_in in
    (r.head, search rules, omega (arith, c.args.asked.now.question_in.atoms.fits))

pub returns : goal.returns
returns c = λ told. c.some_stuck.ensures told
