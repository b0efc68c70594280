-- A variable that none of the atoms passed has stands where it stands in those left. Assumes nothing.
use Rattle.std.proofs.Common.{◌≡◌, ◌+◌, ◌*◌, ◌-◌, ℕ, sym, ◌∙◌, ap, arith}
use Rattle.covering.specs.Lists.{any}
use Rattle.covering.specs.Term.{var, terms, eq_term}
use Rattle.covering.specs.Record.{holding, atoms_at}
use Rattle.judging.proofs.AnswerSteps.{is_variable, stands_end, stands_found, stands_next}
use Rattle.judging.proofs.answer.stands.Goals as goal

pub returns-then-stands_at : goal.returns-then-stands_at
returns-then-stands_at c =
    let a = c.args in
    let at = a.i + (1 + a.w) * c.loop-k.k in
    sym
    (is_variable (8 * a.w) (atoms_at (holding a.w) a.book.now a.i a.n) a.b
    (omega (arith, c.variables.ensures, c.if-variables-b.false))
    ∙ c.loop-k.invariant
    ∙ stands_found a.book.now a.b a.w at a.n c.loop-k.k c.loop-k-test.true
    (sym c.stands_at.ensures ∙ c.if-stands_at.true))

pub loop-k-preserved : goal.loop-k-preserved
loop-k-preserved c =
    let a = c.args in
    let at = a.i + (1 + a.w) * c.loop-k.k in
    let on : at + 1 + a.w ≡ a.i + (1 + a.w) * (c.loop-k.k + 1) = omega arith in
    c.loop-k.invariant
    ∙ stands_next a.book.now a.b a.w at a.n c.loop-k.k c.loop-k-test.true
    (sym c.stands_at.ensures ∙ c.if-stands_at.false)
    ∙ ap (λ (j : ℕ). any (eq_term (var a.b)) (terms (atoms_at (holding a.w) a.book.now j (a.n - (c.loop-k.k + 1))))) on

pub returns : goal.returns
returns c =
    let a = c.args in
    let at = a.i + (1 + a.w) * c.loop-k.k in
    sym
    (is_variable (8 * a.w) (atoms_at (holding a.w) a.book.now a.i a.n) a.b
    (omega (arith, c.variables.ensures, c.if-variables-b.false))
    ∙ c.loop-k.invariant
    ∙ stands_end a.book.now a.b a.w at a.n c.loop-k.k c.loop-k-test.false)
