-- `unify::validity::is_safe` meets its contract: it tests what `safe` asks, in its order. The left atoms' terms are
-- moved by 0, so they stay.
use mathlib.Core.Path.{sym, ap, ◌∙◌}
use mathlib.Core.Bool.{Bool}
use mathlib.Core.List.{List}
use Prim.Native.Nat.{ℕ}
use Rattle.covering.specs.Lists.{all}
use Rattle.covering.specs.Term.{on_question, terms}
use Rattle.covering.specs.Record.{stored, term_of, atoms_at}
use Rattle.unification.specs.Step.{up}
use Rattle.unify.specs.InBytes.{rule_in, rule_of, classes_of}
use Rattle.unify.proofs.ValidTests.{apart_byte, is_var_lem, is_con, left_in, safe_constant, safe_left, safe_body, safe_head}
use Rattle.unify.proofs.validity.is_safe.Goals as goal

-- whether the terms of the first n left atoms are apart
abbrev left_apart : List ℕ → List ℕ → ℕ → ℕ → ℕ → Bool
left_apart table left z rep n = all (apart_byte table z rep) (terms (on_question (up 0) (atoms_at stored left 1 n)))

pub returns-then-rep-ge128 : goal.returns-then-rep-ge128
returns-then-rep-ge128 c =
    let s = c.stands_for-rep in
    let a = c.args in
    let rule = rule_of a.rule.now.book.now a.rule.now.parts in
    sym
    (safe_constant (classes_of a.table.now) 48 (left_in a.left.now) rule (term_of a.z) (term_of s.result)
    s.ensures (is_con _ c.if-rep-ge128.true))

pub returns-then-not-apart_atoms : goal.returns-then-not-apart_atoms
returns-then-not-apart_atoms c =
    let s = c.stands_for-rep in
    let a = c.args in
    let rule = rule_of a.rule.now.book.now a.rule.now.parts in
    sym
    (safe_left (classes_of a.table.now) 48 (left_in a.left.now) rule (term_of a.z) (term_of s.result)
    s.ensures (is_var_lem _ c.if-rep-ge128.false)
    (c.apart_atoms.ensures ∙ ap (left_apart a.table.now a.left.now a.z s.result) c.from-n.ensures) (c.if-not-apart_atoms.true))

pub returns-then-not-apart_atoms-2 : goal.returns-then-not-apart_atoms-2
unfolding rule_in
returns-then-not-apart_atoms-2 c =
    let s = c.stands_for-rep in
    let a = c.args in
    let rule = rule_of a.rule.now.book.now a.rule.now.parts in
    let v = c.if-rep-ge128.false in
    sym
    (safe_body (classes_of a.table.now) 48 (left_in a.left.now) rule (term_of a.z) (term_of s.result)
    s.ensures (is_var_lem _ v)
    (c.apart_atoms.ensures ∙ ap (left_apart a.table.now a.left.now a.z s.result) c.from-n.ensures) (c.if-not-apart_atoms.false)
    c.apart_atoms-2.ensures (c.if-not-apart_atoms-2.true))

pub returns : goal.returns
unfolding rule_in
returns c =
    let s = c.stands_for-rep in
    let a = c.args in
    let rule = rule_of a.rule.now.book.now a.rule.now.parts in
    let v = c.if-rep-ge128.false in
    safe_head (classes_of a.table.now) 48 (left_in a.left.now) rule (term_of a.z) (term_of s.result)
    s.ensures (is_var_lem _ v)
    (c.apart_atoms.ensures ∙ ap (left_apart a.table.now a.left.now a.z s.result) c.from-n.ensures) (c.if-not-apart_atoms.false)
    c.apart_atoms-2.ensures (c.if-not-apart_atoms-2.false) c.apart_atoms-3.ensures
