-- Pairs and atoms: what holds the pairs of two atoms makes one atom of them, and the other way round. Assumes
-- nothing.
use mathlib.Core.Path.{◌≡◌, refl, ap, ap₂}
use mathlib.Core.Logic.{◌⊎◌, inl, inr}
use mathlib.Core.List.Memᴰ
use mathlib.Core.List.{List, [], ◌∷◌, ◌++◌, map}
use mathlib.Core.List.{nil≢cons, cons≢nil}
use mathlib.Core.List.{head-eq_of_cons-eq, tail-eq_of_cons-eq}
use Prim.Native.Nat.{ℕ, zero, suc}
use native.Mathlib.Omega.{arith}
use lib.Dec.{T}
use Rattle.covering.specs.Covers.{Sends}
use Rattle.covering.specs.Lists.{◌∈◌}
use Rattle.covering.specs.Term.{Term, Atom, Question, terms, Sub, on_term, on_atom, eq_term, con}
use Rattle.covering.proofs.Lists.{any_in, any_out}
use Rattle.covering.proofs.Terms.{con_inj, atom_path, eq_term→eq, eq_term_refl, terms_in, terms_out}
use Rattle.unification.specs.Classes.{Pair, Kernel, HoldsPairs}
use Rattle.unification.specs.Choice.{never, place_pairs, atom_pairs, to_head}
use Rattle.unification.specs.Step.{mem_term}

pub sends_term : (s : Sub) (A F : Question) (t : Term) → Sends s A F → t ∈ terms A → on_term s t ∈ terms F
sends_term s A F t h m = let r = terms_out A m in terms_in F (h r.0 r.1) (Memᴰ.map (on_term s) r.2)

pub mem→mem_term : {t : Term} (ts : List Term) → t ∈ ts → T (mem_term t ts)
mem→mem_term {t} ts m = any_in (eq_term t) ts m (eq_term_refl t)

pub mem_term→mem : {t : Term} (ts : List Term) → T (mem_term t ts) → t ∈ ts
mem_term→mem {t} ts h = let r = any_out (eq_term t) ts h in Memᴰ.cast (eq_term→eq t r.0 r.2) r.1

-- pairs that meet
pub zip_holds : (s : Sub) (ts us : List Term) → map (on_term s) ts ≡ map (on_term s) us
    → HoldsPairs (Kernel s) (place_pairs ts us)
zip_holds s [] [] e p m = absurd (Memᴰ.not-nil m)
zip_holds s [] (u ∷ us) e p m = absurd (nil≢cons e)
zip_holds s (t ∷ ts) [] e p m = absurd (cons≢nil e)
zip_holds s (t ∷ ts) (u ∷ us) e p m = go (Memᴰ.cases_cons m) (λ n. zip_holds s ts us (tail-eq_of_cons-eq e) p n)
  where
    go : (p ≡ (t, u)) ⊎ (p ∈ place_pairs ts us) → (p ∈ place_pairs ts us → Kernel s p.0 p.1)
        → Kernel s p.0 p.1
    go (inl q) below = rw q (head-eq_of_cons-eq e)
    go (inr n) below = below n

pub atom_holds : (s : Sub) (a b : Atom) → on_atom s a ≡ on_atom s b → HoldsPairs (Kernel s) (atom_pairs a b)
atom_holds s a b e p m = go (Memᴰ.cases_cons m)
  where
    go : (p ≡ (con a.rel, con b.rel)) ⊎ (p ∈ place_pairs a.args b.args) → Kernel s p.0 p.1
    go (inl q) = rw q (ap (λ (c : Atom). con c.rel) e)
    go (inr n) = zip_holds s a.args b.args (ap (λ (c : Atom). c.args) e) p n

pub holds_append : (E : Term → Term → Type 0) (ps qs : List Pair) → HoldsPairs E ps → HoldsPairs E qs
    → HoldsPairs E (ps ++ qs)
holds_append E ps qs f g p m = go (Memᴰ.append_cases ps m)
  where
    go : (p ∈ ps) ⊎ (p ∈ qs) → E p.0 p.1
    go (inl n) = f p n
    go (inr n) = g p n

pub no_clash : (s : Sub) → HoldsPairs (Kernel s) never → ⊥
no_clash s h = let e : ◌≡◌ {A = ℕ} 0 1 = con_inj (h (con 0, con 1) (Memᴰ.head refl)) in omega arith

pub head_of : (s : Sub) (H : Question) (d : ℕ) (a : Atom) → HoldsPairs (Kernel s) (to_head H d a)
    → (b : Atom) × (b ∈ H) × HoldsPairs (Kernel s) (atom_pairs a b)
head_of s [] d a h = absurd (no_clash s h)
head_of s (b ∷ H) zero a h = (b, Memᴰ.head refl, h)
head_of s (b ∷ H) (suc d) a h = let r = head_of s H d a h in (r.0, Memᴰ.tail r.1, r.2)

-- two maps that meet at each pair meet at the atoms
pub zip_meet : (s : Sub) (f g : Term → Term) (ts us : List Term) → HoldsPairs (Kernel s) (place_pairs ts us)
    → ((t u : Term) → u ∈ us → Kernel s t u → f t ≡ g u) → map f ts ≡ map g us
zip_meet s f g [] [] h k = refl
zip_meet s f g [] (u ∷ us) h k = absurd (no_clash s h)
zip_meet s f g (t ∷ ts) [] h k = absurd (no_clash s h)
zip_meet s f g (t ∷ ts) (u ∷ us) h k =
    ap₂ ◌∷◌ (k t u (Memᴰ.head refl) (h (t, u) (Memᴰ.head refl)))
    (zip_meet s f g ts us (λ p m. h p (Memᴰ.tail m)) (λ t' u' m. k t' u' (Memᴰ.tail m)))

pub atom_meet : (s r q : Sub) (a b : Atom) → HoldsPairs (Kernel s) (atom_pairs a b)
    → ((t u : Term) → u ∈ b.args → Kernel s t u → on_term r t ≡ on_term q u) → on_atom r a ≡ on_atom q b
atom_meet s r q a b h k =
    atom_path (con_inj (h (con a.rel, con b.rel) (Memᴰ.head refl)))
    (zip_meet s (on_term r) (on_term q) a.args b.args (λ p m. h p (Memᴰ.tail m)) k)
