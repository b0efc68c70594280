-- `unify::stuck::tied_to` meets its contract: of a yes it is known that a moved head variable that is none of the body's
-- stands for the class.
use native.Mathlib.Omega.{arith}
use mathlib.Core.Path.{sym, ◌∙◌, ap}
use mathlib.Core.Bool.{true≢false}
use Rattle.covering.specs.Record.{term_of}
use Rattle.unify.proofs.StuckBytes.{tied_means}
use Rattle.unify.proofs.stuck.tied_to.Goals as goal

pub returns-then-z-lt48 : goal.returns-then-z-lt48
returns-then-z-lt48 c = λ e. absurd (true≢false (sym e))

pub returns-then-z-ge96 : goal.returns-then-z-ge96
returns-then-z-ge96 c = λ e. absurd (true≢false (sym e))

pub returns-then-z-u : goal.returns-then-z-u
returns-then-z-u c = λ e. absurd (true≢false (sym e))

pub returns-then-stands_for-z : goal.returns-then-stands_for-z
returns-then-stands_for-z c = λ e. absurd (true≢false (sym e))

pub returns-then-stands_in : goal.returns-then-stands_in
returns-then-stands_in c = λ e. absurd (true≢false (sym e))

pub returns : goal.returns
returns c =
    λ e.
    let a = c.args in
    tied_means a.table.now a.rule.now.book.now a.rule.now.parts a.t a.u c.stands_for-z.result
    c.stands_for-z.ensures (ap term_of (sym c.if-stands_for-z.false) ∙ c.stands_for.ensures)
    (omega arith) (omega arith) c.if-z-u.false
    (sym c.stands_in.ensures ∙ c.if-stands_in.false) (sym c.stands_in-2.ensures ∙ e)
