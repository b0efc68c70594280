-- What stands for a class is a term that was there already, so a table of terms that fit a record stays one.
-- Assumes nothing.
use mathlib.Core.Path.{◌≡◌, refl, sym, subst}
use mathlib.Core.Bool.{Bool, true, false, cond}
use mathlib.Core.List.Memᴰ
use mathlib.Core.List.{List, [], ◌∷◌, map}
use mathlib.Core.Option.{Option, none, some, some-injective}
use Prim.Native.Nat.{ℕ, zero, suc}
use lib.Dec.{eqb}
use lib.ListN.{get_or}
use Rattle.covering.specs.Lists.{◌∈◌, bind}
use Rattle.covering.specs.Term.{Term, var, con, Atom}
use Rattle.covering.proofs.Tests.{none≢some}
use Rattle.unification.specs.Classes.{Pair, point}
use Rattle.unification.specs.Choice.{never, place_pairs, atom_pairs}
use Rattle.unify.specs.Table.{Table, look, join_table, unify_table}

module _ (Good : Term → Type 0) where
  abbrev pub Entries : Table → Type 0
  Entries m = (t : Term) → t ∈ m → Good t

  abbrev pub EntriesEnd : List Pair → Type 0
  EntriesEnd ps = (p : Pair) → p ∈ ps → Good p.0 × Good p.1

  entry_good : (m : Table) (n : ℕ) (d : Term) → Entries m → Good d → Good (get_or m n d)
  entry_good [] n d h g = g
  entry_good (x ∷ m) zero d h g = h x (Memᴰ.head refl)
  entry_good (x ∷ m) (suc n) d h g = entry_good m n d (λ t i. h t (Memᴰ.tail i)) g

  look_good : (m : Table) (t : Term) → Entries m → Good t → Good (look m t)
  look_good m (var n) h g = entry_good m n (var n) h g
  look_good m (con c) h g = g

  point_good : (v : ℕ) (b t : Term) → Good b → Good t → Good (point v b t)
  point_good v b (con c) gb gt = gt
  point_good v b (var n) gb gt = go (eqb n v)
    where
      go : (x : Bool) → Good (cond x b (var n))
      go true = gb
      go false = gt

  points_good : (v : ℕ) (b : Term) (m : Table) → Good b → Entries m → Entries (map (point v b) m)
  points_good v b m gb h t i =
      let r = Memᴰ.of_map (point v b) m i in
      subst Good r.2 (point_good v b r.0 gb (h r.0 r.1))

  join_good : (m : Table) (a b : Term) (n : Table) → Entries m → Good a → Good b → join_table m a b ≡ some n → Entries n
  join_good m (var v) (var w) n h ga gb e = subst Entries (some-injective _ n e) (points_good v (var w) m gb h)
  join_good m (var v) (con d) n h ga gb e = subst Entries (some-injective _ n e) (points_good v (con d) m gb h)
  join_good m (con c) (var w) n h ga gb e = subst Entries (some-injective _ n e) (points_good w (con c) m ga h)
  join_good m (con c) (con d) n h ga gb e = go (eqb c d) e
    where
      go : (x : Bool) → cond x (some m) none ≡ some n → Entries n
      go true q = subst Entries (some-injective m n q) h
      go false q = absurd (none≢some q)

  pub unify_good : (ps : List Pair) (m n : Table) → EntriesEnd ps → Entries m → unify_table ps m ≡ some n → Entries n
  unify_good [] m n f h e = subst Entries (some-injective m n e) h
  unify_good (p ∷ ps) m n f h e =
      go (join_table m (look m p.0) (look m p.1)) refl e (λ k. unify_good ps k n (λ q i. f q (Memᴰ.tail i)))
    where
      ends : Good p.0 × Good p.1
      ends = f p (Memᴰ.head refl)

      go : (o : Option Table) → join_table m (look m p.0) (look m p.1) ≡ o → bind o (λ k. unify_table ps k) ≡ some n
          → ((k : Table) → Entries k → unify_table ps k ≡ some n → Entries n) → Entries n
      go none q r below = absurd (none≢some r)
      go (some k) q r below =
          below k (join_good m _ _ k h (look_good m p.0 h ends.0) (look_good m p.1 h ends.1) q) r

  -- the ends of the pairs of two lists of terms
  never_ends : Good (con 0) → Good (con 1) → EntriesEnd never
  never_ends g h p (Memᴰ.head e) = (subst (λ q. Good q.0) (sym e) g, subst (λ q. Good q.1) (sym e) h)
  never_ends g h p (Memᴰ.tail m) = absurd (Memᴰ.not-nil m)

  pub place_ends : Good (con 0) → Good (con 1) → (ts us : List Term) → ((t : Term) → t ∈ ts → Good t)
      → ((t : Term) → t ∈ us → Good t) → EntriesEnd (place_pairs ts us)
  place_ends g h [] [] f k p m = absurd (Memᴰ.not-nil m)
  place_ends g h [] (u ∷ us) f k p m = never_ends g h p m
  place_ends g h (t ∷ ts) [] f k p m = never_ends g h p m
  place_ends g h (t ∷ ts) (u ∷ us) f k p (Memᴰ.head e) = (
    subst (λ q. Good q.0) (sym e) (f t (Memᴰ.head refl)),
    subst (λ q. Good q.1) (sym e) (k u (Memᴰ.head refl)),
  )
  place_ends g h (t ∷ ts) (u ∷ us) f k p (Memᴰ.tail m) =
      place_ends g h ts us (λ x i. f x (Memᴰ.tail i)) (λ x i. k x (Memᴰ.tail i)) p m

-- the relations' numbers, put together as constants, bring no entry
pub places_alone : (a b : Atom) (m n : Table) → unify_table (atom_pairs a b) m ≡ some n
    → unify_table (place_pairs a.args b.args) m ≡ some n
places_alone a b m n e = go (eqb a.rel b.rel) e
  where
    go : (x : Bool) → bind (cond x (some m) none) (λ k. unify_table (place_pairs a.args b.args) k) ≡ some n
        → unify_table (place_pairs a.args b.args) m ≡ some n
    go true q = q
    go false q = absurd (none≢some q)
