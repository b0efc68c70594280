-- `unify::validity::is_apart` meets its contract: terms are the same exactly where their bytes are.
use mathlib.Core.Path.{sym, ◌∙◌}
use Rattle.covering.specs.Record.{term_of}
use Rattle.unify.specs.Table.{tabled}
use Rattle.unify.specs.InBytes.{classes_of}
use Rattle.unify.proofs.ValidTests.{tabled_look, apart_itself, apart_class}
use Rattle.unify.proofs.validity.is_apart.Goals as goal

pub returns-then-t-z : goal.returns-then-t-z
returns-then-t-z c =
    let a = c.args in
    sym (apart_itself (tabled (classes_of a.table.now)) a.t a.z a.rep c.if-t-z.true)

pub returns : goal.returns
returns c =
    let a = c.args in
    let s = c.stands_for in
    sym
    (apart_class (tabled (classes_of a.table.now)) a.t a.z a.rep s.result c.if-t-z.false
    (s.ensures ∙ sym (tabled_look (classes_of a.table.now) (term_of a.t))))
