-- Laws of tests, of options and of numbers. Assumes nothing.
use mathlib.Core.Path.{◌≡◌, refl, sym}
use mathlib.Core.Bool.{Bool, true, false, cond, not, ◌&&◌, ◌||◌}
use mathlib.Core.Logic.{◌⊎◌, inl, inr}
use mathlib.Core.Option.{none, some}
use Prim.Native.Nat.{ℕ, suc, ◌+◌, ◌-◌, ◌≤◌, ◌<◌}
use native.Mathlib.Omega.{arith}
use lib.Dec.{T, leb, leb→le, nleb→lt}

-- tests
pub decide : (b : Bool) → T b ⊎ T (not b)
decide true = inl tt
decide false = inr tt

pub either : (b : Bool) → (b ≡ true) ⊎ (b ≡ false)
either true = inl refl
either false = inr refl

pub clash : (b : Bool) → T b → T (not b) → ⊥
clash true p q = q
clash false p q = p

pub both : (a b : Bool) → T a → T b → T (a && b)
both true b p q = q
both false b p q = p

pub fst_of : (a b : Bool) → T (a && b) → T a
fst_of true b t = tt
fst_of false b t = t

pub snd_of : (a b : Bool) → T (a && b) → T b
snd_of true b t = t
snd_of false b t = absurd t

pub or_left : (a b : Bool) → T a → T (a || b)
or_left true b t = tt
or_left false b t = absurd t

pub or_right : (a b : Bool) → T b → T (a || b)
or_right true b t = tt
or_right false b t = t

pub or_cases : (a b : Bool) → T (a || b) → T a ⊎ T b
or_cases true b t = inl tt
or_cases false b t = inr t

pub not_of : (b : Bool) → (T b → ⊥) → T (not b)
not_of true f = f tt
not_of false f = tt

-- a test and the equation that code learns of it
pub T→true : (b : Bool) → T b → b ≡ true
T→true true t = refl
T→true false t = absurd t

pub true→T : (b : Bool) → b ≡ true → T b
true→T true e = tt
true→T false e = let z : ◌≡◌ {A = ℕ} 0 1 = cc in absurd (omega arith)

pub false→no : (b : Bool) → b ≡ false → T b → ⊥
false→no true e t = let z : ◌≡◌ {A = ℕ} 0 1 = cc in omega arith
false→no false e t = t

pub no→false : (b : Bool) → (T b → ⊥) → b ≡ false
no→false true f = absurd (f tt)
no→false false f = refl

pub T→false : (b : Bool) → T (not b) → b ≡ false
T→false true t = absurd t
T→false false t = refl

pub false→T : (b : Bool) → b ≡ false → T (not b)
false→T true e = absurd (false→no true e tt)
false→T false e = tt

-- a test that was turned round
pub not_true : (b : Bool) → not b ≡ true → b ≡ false
not_true true e = sym e
not_true false e = refl

pub not_false : (b : Bool) → not b ≡ false → b ≡ true
not_false true e = refl
not_false false e = sym e

pub same_bool : (a b : Bool) → (T a → T b) → (T b → T a) → a ≡ b
same_bool true true f g = refl
same_bool true false f g = absurd (f tt)
same_bool false true f g = absurd (g tt)
same_bool false false f g = refl

pub none≢some : {A : Type 0} {a : A} → none ≡ some a → ⊥
none≢some e = let z : ◌≡◌ {A = ℕ} 0 1 = cc in omega arith

module _ {A : Type 0} where
  pub cond_yes : (b : Bool) (x y : A) → T b → cond b x y ≡ x
  cond_yes true x y t = refl
  cond_yes false x y t = absurd t

  pub cond_no : (b : Bool) (x y : A) → T (not b) → cond b x y ≡ y
  cond_no true x y t = absurd t
  cond_no false x y t = refl

-- numbers
pub le_or_lt : (a b : ℕ) → (a ≤ b) ⊎ (b < a)
le_or_lt a b = go (decide (leb a b))
  where
    go : T (leb a b) ⊎ T (not (leb a b)) → (a ≤ b) ⊎ (b < a)
    go (inl t) = inl (leb→le a b t)
    go (inr t) = inr (nleb→lt a b t)

pub one_more : (n k : ℕ) → k < n → n - k ≡ suc (n - (k + 1))
one_more n k h = omega arith
