-- `unify::stuck::tied_places` meets its contract. The loop's invariant: the terms from the j-th place on are among the
-- atom's.
use native.Mathlib.Omega.{arith}
use native.Mathlib.Nat.{add-zero}
use mathlib.Core.Path.{sym}
use mathlib.Core.Bool.{true≢false}
use Rattle.covering.proofs.Bytes.{args_more}
use Rattle.unify.proofs.StuckBytes.{first_within, rest_within}
use Rattle.unify.proofs.stuck.tied_places.Goals as goal

pub loop-j-init : goal.loop-j-init
loop-j-init c = rw add-zero (λ x m. m)

pub returns-then-t : goal.returns-then-t
returns-then-t c = λ e. absurd (true≢false (sym e))

pub returns-then-tied_to : goal.returns-then-tied_to
returns-then-tied_to c =
    λ e. (
      _,
      first_within (args_more _ _ c.loop-j.j 6 (omega arith) c.if-t.false) c.loop-j.invariant,
      c.tied_to.ensures c.if-tied_to.true,
    )

pub loop-j-preserved : goal.loop-j-preserved
loop-j-preserved c =
    rest_within (args_more _ _ c.loop-j.j 6 (omega arith) c.if-t.false) c.loop-j.invariant

pub returns : goal.returns
returns c = λ e. absurd (true≢false (sym e))
