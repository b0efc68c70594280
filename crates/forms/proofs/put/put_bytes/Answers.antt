-- `forms::put::put_bytes` meets its contract. The loop's invariant: the bytes passed are put.
use native.Mathlib.Omega.{arith}
use mathlib.Core.Path.{◌≡◌, subst}
use mathlib.Core.List.{[], ◌∷◌, ◌++◌}
use Prim.Native.Nat.{ℕ, ◌+◌, ◌≤◌}
use lib.ListN.{length, get_or, set, take, drop}
use Rattle.covering.specs.Put.{Puts}
use Rattle.covering.proofs.Putting.{put_none, put_one, put_as, then, kept}
use Rattle.forms.proofs.Steps.{byte_more}
use Rattle.forms.proofs.put.put_bytes.Goals as goal

pub loop-k-init : goal.loop-k-init
loop-k-init c =
    let a = c.args in
    let here : a.at ≡ a.at + 0 = omega arith in
    subst (λ (e : ℕ). Puts (take 0 (drop a.i a.from.now)) a.out.now a.at e a.out.now) here
    (put_none (omega (arith, c.requires.1)))

pub bounds-out-at : goal.bounds-out-at
bounds-out-at c = omega (arith, c.requires.1, kept c.loop-k.invariant)

pub loop-k-preserved : goal.loop-k-preserved
loop-k-preserved c =
    let l = c.loop-k in
    let a = c.args in
    let k = l.k in
    let room : a.at + k + 1 ≤ length l.out = omega (arith, c.requires.1, kept l.invariant, c.loop-k-test.true) in
    let next : a.at + k + 1 ≡ a.at + (k + 1) = omega arith in
    put_as (byte_more a.from.now a.i k (omega (arith, c.requires.0, c.loop-k-test.true)))
    (subst (λ (e : ℕ). Puts (take k (drop a.i a.from.now) ++ get_or a.from.now (a.i + k) 0 ∷ [])
    a.out.now a.at e (set l.out (a.at + k) (get_or a.from.now (a.i + k) 0))) next
    (then l.invariant (put_one l.out (a.at + k) (get_or a.from.now (a.i + k) 0) room)))

pub shape_of-out : goal.shape_of-out
shape_of-out c = kept c.loop-k.invariant
