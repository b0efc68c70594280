-- The number of a choice whose first digits are given. Assumes nothing.
use mathlib.Core.Path.{◌≡◌, refl, ◌∙◌, ap}
use mathlib.Core.Bool.{Bool, true, false, not, ◌||◌}
use mathlib.Core.List.{[], ◌∷◌}
use Prim.Native.Nat.{ℕ, suc, ◌+◌, ◌*◌}
use native.Mathlib.Nat.{mul-one, mul_assoc, add-mul, pow-zero}
use native.Mathlib.Omega.{arith}
use lib.Dec.{eqb-suc-zero}
use lib.ListN.{length}
use Rattle.unification.specs.Choice.{Choice, count, number, some_sent}
use Rattle.unification.proofs.Numbers.{count_suc}

-- the number of a choice, w being that of the digits before it
abbrev pub number_from : ℕ → ℕ → Choice → ℕ
number_from h w [] = w
number_from h w (d ∷ ds) = number_from h (w * suc h + d) ds

pub number_from_lem : (h w : ℕ) (ds : Choice) → number_from h w ds ≡ w * count h (length ds) + number h ds
number_from_lem h w [] =
    let one : count h 0 ≡ 1 = pow-zero (suc h) in
    let e : w * count h 0 ≡ w * 1 = ap (λ (x : ℕ). w * x) one in
    let f : w * 1 ≡ w = mul-one w in
    omega arith
number_from_lem h w (d ∷ ds) =
    let c : ℕ = count h (length ds) in
    let one : number_from h (w * suc h + d) ds ≡ (w * suc h + d) * c + number h ds =
    number_from_lem h (w * suc h + d) ds in
    let two : (w * suc h + d) * c ≡ w * suc h * c + d * c = add-mul (w * suc h) d c in
    let three : w * suc h * c ≡ w * (suc h * c) = mul_assoc w (suc h) c in
    let four : w * count h (suc (length ds)) ≡ w * (suc h * c) = ap (λ (x : ℕ). w * x) (count_suc h (length ds)) in
    omega arith

pub or_true : (b : Bool) → b || true ≡ true
or_true true = refl
or_true false = refl

pub sends_some : (b : Bool) (e : ℕ) (ds : Choice) → b || some_sent (suc e ∷ ds) ≡ true
sends_some b e ds = ap (λ (c : Bool). b || (not c || some_sent ds)) (eqb-suc-zero e) ∙ or_true b
