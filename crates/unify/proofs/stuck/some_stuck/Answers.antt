-- `unify::stuck::some_stuck` meets its contract. The loop's invariant: the atoms yet to come are among those asked for.
use native.Mathlib.Omega.{arith}
use mathlib.Core.Path.{sym}
use mathlib.Core.Bool.{true≢false}
use Rattle.unify.proofs.EachTerm.{from_first, next_atom}
use Rattle.unify.proofs.StuckBytes.{first_within, rest_within}
use Rattle.unify.proofs.stuck.some_stuck.Goals as goal

pub loop-k-init : goal.loop-k-init
loop-k-init c = rw (from_first c.args.question.now c.args.i c.args.n) (λ x m. m)

pub is_stuck-requires : goal.is_stuck-requires
is_stuck-requires c = (c.requires.0, c.requires.1, omega arith)

pub returns-then-is_stuck : goal.returns-then-is_stuck
returns-then-is_stuck c =
    λ e. (
      _,
      first_within (next_atom _ _ _ _ (omega arith)) c.loop-k.invariant,
      c.is_stuck.ensures c.if-is_stuck.true,
    )

pub loop-k-preserved : goal.loop-k-preserved
loop-k-preserved c = rest_within (next_atom _ _ _ _ (omega arith)) c.loop-k.invariant

pub returns : goal.returns
returns c = λ e. absurd (true≢false (sym e))
