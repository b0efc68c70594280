-- Laws of terms and classes as the code holds them in bytes. Assumes nothing.
use mathlib.Core.Path.{◌≡◌, refl, sym, ◌∙◌, ap, subst, ap₂}
use mathlib.Core.Bool.{Bool, true, false, cond}
use mathlib.Core.Logic.{◌⊎◌, inl, inr}
use mathlib.Core.List.{List, ◌∷◌, map, map-map}
use mathlib.Core.Option.{none, some}
use Prim.Native.Nat.{ℕ, zero, suc, ◌+◌, ◌-◌, ◌≤◌, ◌<◌}
use native.Mathlib.Omega.{arith}
use borrow.Author.Tests.{ltb-true, ltb-false, eqb-true, eq-eqb, ne_eqb}
use lib.Dec.{eqb, ltb}
use lib.ListN.{length, get_or, length-map, get_or-eq_default}
use Rattle.covering.specs.Term.{Term, var, con}
use Rattle.covering.specs.Record.{term_of}
use Rattle.covering.proofs.Bytes.{term_var, term_con}
use Rattle.covering.proofs.Lists.{map_same, map_none}
use Rattle.covering.proofs.Tests.{either}
use Rattle.covering.specs.Lists.{numbers}
use Rattle.unification.specs.Classes.{point}
use Rattle.unify.specs.Table.{Table, look, join_table, own}
use Rattle.unify.specs.InBytes.{classes_of, merged}

-- an entry of the classes, whatever stands past their end
pub classes_at : (m : List ℕ) (n : ℕ) (d : Term) → n < length m → get_or (classes_of m) n d ≡ term_of (get_or m n 0)
unfolding classes_of
classes_at mathlib.Core.List.[] n d h = elim h [ ]
classes_at (x ∷ m) zero d h = refl
classes_at (x ∷ m) (suc n) d h = classes_at m n d (omega arith)

pub look_variable : (m : List ℕ) (t : ℕ) → t < 128 → t < length m → look (classes_of m) (term_of t) ≡ term_of (get_or m t 0)
look_variable m t v h = ap (look (classes_of m)) (term_var t v) ∙ classes_at m t (var t) h

pub look_other : (m : List ℕ) (t : ℕ) → length m ≤ t → look (classes_of m) (term_of t) ≡ term_of t
unfolding classes_of
look_other m t h = go (either (ltb t 128))
  where
    go : (ltb t 128 ≡ true) ⊎ (ltb t 128 ≡ false) → look (classes_of m) (term_of t) ≡ term_of t
    go (inl e) =
        let is = term_var t (ltb-true t 128 e) in
        ap (look (classes_of m)) is
        ∙ get_or-eq_default (classes_of m) (var t) {n = t} (subst (λ n. n ≤ t) (sym (length-map m term_of)) h)
        ∙ sym is
    go (inr e) = let is = term_con t (ltb-false t 128 e) in ap (look (classes_of m)) is ∙ sym is

-- a variable's place taken, in one entry and in all
put_point : (v b x : ℕ) → v < 128 → term_of (cond (eqb x v) b x) ≡ point v (term_of b) (term_of x)
put_point v b x h = go (either (ltb x 128)) (either (eqb x v))
  where
    go : (ltb x 128 ≡ true) ⊎ (ltb x 128 ≡ false) → (eqb x v ≡ true) ⊎ (eqb x v ≡ false)
        → term_of (cond (eqb x v) b x) ≡ point v (term_of b) (term_of x)
    go (inl p) (inl q) = rw (term_var x (ltb-true x 128 p), q)
    go (inl p) (inr q) = rw (q, term_var x (ltb-true x 128 p), q)
    go (inr p) (inl q) = absurd (omega (arith, ltb-false x 128 p, eqb-true x v q))
    go (inr p) (inr q) = rw (q, term_con x (ltb-false x 128 p))

pub put_points : (v b : ℕ) (m : List ℕ) → v < 128
    → classes_of (map (λ x. cond (eqb x v) b x) m) ≡ map (point v (term_of b)) (classes_of m)
unfolding classes_of
put_points v b m h =
    map-map term_of (λ x. cond (eqb x v) b x) m
    ∙ map_same _ _ m (λ x i. put_point v b x h)
    ∙ sym (map-map (point v (term_of b)) term_of m)

-- a class joined with itself stays
point_self : (v : ℕ) (t : Term) → point v (var v) t ≡ t
point_self v (var n) = go (either (eqb n v))
  where
    go : (eqb n v ≡ true) ⊎ (eqb n v ≡ false) → point v (var v) (var n) ≡ var n
    go (inl e) = rw e (ap var (sym (eqb-true n v e)))
    go (inr e) = rw e
point_self v (con c) = refl

pub join_self : (m : Table) (t : Term) → join_table m t t ≡ some m
join_self m (var v) = ap some (map_none (point v (var v)) m (λ t i. point_self v t))
join_self m (con c) = rw (eq-eqb c c refl)

pub join_variable : (m : List ℕ) (a b : ℕ) → a < 128
    → join_table (classes_of m) (term_of a) (term_of b) ≡ some (map (point a (term_of b)) (classes_of m))
join_variable m a b h = rw (term_var a h) (go (term_of b))
  where
    go : (t : Term) → join_table (classes_of m) (var a) t ≡ some (map (point a t) (classes_of m))
    go (var w) = refl
    go (con d) = refl

pub join_constant : (m : List ℕ) (a b : ℕ) → 128 ≤ a → b < 128
    → join_table (classes_of m) (term_of a) (term_of b) ≡ some (map (point b (term_of a)) (classes_of m))
join_constant m a b h k = rw (term_con a h, term_var b k)

pub join_clash : (m : List ℕ) (a b : ℕ) → 128 ≤ a → 128 ≤ b → (a ≡ b → ⊥)
    → join_table (classes_of m) (term_of a) (term_of b) ≡ none
join_clash m a b h k ne = rw (term_con a h, term_con b k, ne_eqb (a - 128) (b - 128) (λ e. ne (omega arith)))

pub merged_yes : (r : Bool) (m : List ℕ) → r ≡ true → merged r m ≡ some (classes_of m)
unfolding merged
merged_yes r m e = rw e

pub merged_no : (r : Bool) (m : List ℕ) → r ≡ false → merged r m ≡ none
unfolding merged
merged_no r m e = rw e

-- bytes that are their own places put each variable in a class of its own
pub own_bytes : (n i : ℕ) → i + n ≤ 128 → classes_of (numbers i n) ≡ own i n
unfolding classes_of
own_bytes zero i h = refl
own_bytes (suc n) i h = ap₂ ◌∷◌ (term_var i (omega arith)) (own_bytes n (suc i) (omega arith))
