-- `forming::formed::Numbers::number_atom` meets its contract. The loop's invariant: to see all places is to see those
-- from the j-th on, after the variables that the table has now.
use native.Mathlib.Omega.{arith}
use native.Mathlib.Nat.{add-zero}
use mathlib.Core.Path.{refl, sym, ◌∙◌, subst}
use Rattle.covering.specs.Record.{stored, atom_at}
use Rattle.forming.specs.Building.{NumberTable}
use Rattle.covering.proofs.Bytes.{used_more, term_constant, atom_used}
use Rattle.forming.proofs.Renaming.{seen_end, seen_more, seen_done}
use Rattle.forming.proofs.formed.Numbers.number_atom.Goals as goal

pub loop-j-init : goal.loop-j-init
loop-j-init c =
    (omega arith, rw add-zero (atom_used stored _ _ c.requires.0.sound), λ S k. (S, k, rw add-zero refl))

pub returns-then-t : goal.returns-then-t
unfolding atom_at
returns-then-t c = (
  omega arith,
  λ S k.
      let r = c.loop-j.invariant.2 S k in
      let all = r.2 ∙ seen_end _ _ _ 6 (omega arith) r.0 c.if-t.true in
      subst (λ M. NumberTable M c.loop-j.self.table c.loop-j.self.given) (sym all) r.1,
)

pub number_term-requires : goal.number_term-requires
number_term-requires c =
    let u = used_more _ _ c.loop-j.j 6 (omega arith) stored c.loop-j.invariant.1 c.if-t.false in
    (term_constant stored _ u.0, omega arith)

pub loop-j-preserved : goal.loop-j-preserved
loop-j-preserved c =
    let used = c.if-t.false in
    let n = c.number_term in (
      omega (arith, n.ensures.0),
      (used_more _ _ c.loop-j.j 6 (omega arith) stored c.loop-j.invariant.1 used).1,
      λ S k.
          let r = c.loop-j.invariant.2 S k in
          (_, n.ensures.1 r.0 r.1, r.2 ∙ seen_more _ _ _ 6 (omega arith) r.0 used),
    )

pub returns : goal.returns
unfolding atom_at
returns c = (
  omega arith,
  λ S k.
      let r = c.loop-j.invariant.2 S k in
      let all = r.2 ∙ seen_done _ _ _ r.0 (omega arith) in
      subst (λ M. NumberTable M c.loop-j.self.table c.loop-j.self.given) (sym all) r.1,
)
