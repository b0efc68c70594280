-- `forming::formed::Numbers::number_term` meets its contract: a constant changes nothing, nor does a variable that has
-- a number; any other gets the next one.
use borrow.Author.Rules.{rules}
use native.Mathlib.Omega.{arith}
use Prim.Native.Nat.{◌<◌}
use Rattle.forming.proofs.Renaming.{seen_constant, seen_again, seen_first}
use Rattle.forming.proofs.formed.Numbers.number_term.Goals as goal

pub returns-then-t-ge96 : goal.returns-then-t-ge96
returns-then-t-ge96 c = (omega arith, λ S k. seen_constant S _ _ _ k (c.requires.0 c.if-t-ge96.true))

pub returns-then-self-at : goal.returns-then-self-at
returns-then-self-at c =
    let t = c.args.t in
    let in_use = rw c.from-at.ensures at c.if-self-at.true in
    (omega arith, λ S k. seen_again S _ _ t k (omega (arith, c.if-t-ge96.false)) in_use)

pub returns : goal.returns
returns c =
    let t = c.args.t in
    let free = rw c.from-at.ensures at c.if-self-at.false in
    let low : t < 96 = omega (arith, c.if-t-ge96.false) in
    (omega arith, λ S k. rw c.from-at.ensures (seen_first S _ _ t k low (search rules) c.requires.1 free))
