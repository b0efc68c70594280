-- `cover::desk::keep` meets its contract: which record is kept says which buffer is handed back.
use native.Mathlib.Omega.{arith}
use mathlib.Core.Path.{◌≡◌, sym, ap, ap₂, ◌∙◌}
use Prim.Native.Nat.{ℕ}
use Rattle.covering.proofs.Answers.{kept_first, kept_second, kept_neither}
use Rattle.cover.specs.Told.{number_of}
use Rattle.cover.proofs.desk.keep.Goals as goal

-- a place is two numbers
same_place : {p q : ℕ × ℕ} → p.0 ≡ q.0 → p.1 ≡ q.1 → p ≡ q
same_place e f = ap₂ (λ (x y : ℕ). (x, y)) e f

pub returns-in_default : goal.returns-in_default
returns-in_default c =
    let k = c.in_default.ensures.which in
    let e = kept_neither c.args.w c.args.first.now c.args.second.now (λ q. absurd (omega (arith, k, q))) (λ q. absurd (omega (arith, k, q))) in
    record { bytes = rw e; place = rw e (same_place (omega arith) (omega arith)) }

pub returns-in-First : goal.returns-in-First
returns-in-First c =
    let e = kept_first _ _ _ (sym c.in-Some.ensures.which ∙ ap number_of c.in-First.is) in
    record { bytes = rw e; place = rw e }

pub returns-in-Second : goal.returns-in-Second
returns-in-Second c =
    let e = kept_second _ _ _ (sym c.in-Some.ensures.which ∙ ap number_of c.in-Second.is) in
    record { bytes = rw e; place = rw e }
