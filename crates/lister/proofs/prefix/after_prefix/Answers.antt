-- `lister::prefix::after_prefix` meets its contract. The number is at most the choice's and the count of those that have
-- its first digits, so it fits.
use native.Mathlib.Omega.{arith}
use native.Mathlib.Nat.{add-mul, div-le_self, div-mul-le_self}
use mathlib.Core.Path.{ap, ◌∙◌}
use Prim.Native.Nat.{ℕ, ◌+◌, ◌*◌, ◌-◌, ◌/◌}
use Rattle.unification.specs.Choice.{count}
use Rattle.unification.proofs.Prefix.{count_some}
use Rattle.lister.proofs.Asked.{count_few}
use Rattle.lister.proofs.prefix.after_prefix.Goals as goal

pub nonzero_div-result : goal.nonzero_div-result
nonzero_div-result c =
    omega (arith, c.choice_count-each.ensures, count_some c.args.heads (c.from-n.result - c.args.p))

pub overflow_add-result : goal.overflow_add-result
overflow_add-result c = omega (arith, c.requires.5, div-le_self c.args.choice c.choice_count-each.result)

pub overflow_mul-result : goal.overflow_mul-result
overflow_mul-result c =
    let n = c.args.choice in
    let each = c.choice_count-each.result in
    let heads = c.args.heads in
    let few = count_few heads (c.from-n.result - c.args.p) c.requires.2 (omega (arith, c.from-n.ensures)) in
    omega (arith, c.requires.5, few, c.choice_count-each.ensures, div-mul-le_self n each, add-mul (n / each) 1 each)

pub returns : goal.returns
returns c =
    ap (λ (each : ℕ). (c.args.choice / each + 1) * each)
    (c.choice_count-each.ensures ∙ ap (λ n. count c.args.heads (n - c.args.p)) c.from-n.ensures)
