-- Putting one atom on another, and the pairs of the two atoms: the published words and ours say the same. Assumes
-- nothing.
use mathlib.Core.Path.{◌≡◌, refl, sym, subst}
use mathlib.Core.Logic.{◌⊎◌, inl, inr}
use mathlib.Core.List.Memᴰ
use mathlib.Core.List.{List, [], ◌∷◌}
use mathlib.Core.Option.{some, some-injective}
use Prim.Native.Nat.{ℕ, zero, suc, ◌<◌}
use native.Mathlib.Omega.{arith}
use lib.ListN.{length, get_elem?}
use Rattle.covering.specs.Lists.{◌∈◌}
use Rattle.covering.specs.Term.{Term, Atom, Question, Sub, con}
use Rattle.covering.proofs.Tests.{none≢some}
use Rattle.covering.proofs.Terms.{con_inj}
use Rattle.unification.specs.Classes.{Pair, Kernel, Equivalence, HoldsPairs}
use Rattle.unification.specs.Choice.{place_pairs, atom_pairs, to_head}
use Rattle.unification.specs.Published.{Together}
use Rattle.unification.specs.Published.{PutsOn}
use Rattle.unification.proofs.Pairs.{no_clash}

pub together_more : {E F : Term → Term → Type 0} (ts us : List Term)
    → ((t u : Term) → t ∈ ts → u ∈ us → E t u → F t u) → Together E ts us → Together F ts us
together_more [] [] f h = h
together_more [] (u ∷ us) f h = h
together_more (t ∷ ts) [] f h = h
together_more (t ∷ ts) (u ∷ us) f h = (
  f t u (Memᴰ.head refl) (Memᴰ.head refl) h.0,
  together_more ts us (λ v w m n. f v w (Memᴰ.tail m) (Memᴰ.tail n)) h.1,
)

pub puts_more : {E F : Term → Term → Type 0} {a b : Atom}
    → ((t u : Term) → t ∈ a.args → u ∈ b.args → E t u → F t u) → PutsOn E a b → PutsOn F a b
puts_more {a = a} {b = b} f h =
    record { relations = h.relations; places = together_more a.args b.args f h.places }

places_hold : (E : Term → Term → Type 0) (ts us : List Term) → Together E ts us → HoldsPairs E (place_pairs ts us)
places_hold E [] [] h p m = absurd (Memᴰ.not-nil m)
places_hold E [] (u ∷ us) h p m = absurd h
places_hold E (t ∷ ts) [] h p m = absurd h
places_hold E (t ∷ ts) (u ∷ us) h p m = go (Memᴰ.cases_cons m) (places_hold E ts us h.1 p)
  where
    go : (p ≡ (t, u)) ⊎ (p ∈ place_pairs ts us) → (p ∈ place_pairs ts us → E p.0 p.1) → E p.0 p.1
    go (inl e) below = subst (λ (q : Pair). E q.0 q.1) (sym e) h.0
    go (inr n) below = below n

pub puts_hold : {E : Term → Term → Type 0} (a b : Atom) → Equivalence E → PutsOn E a b → HoldsPairs E (atom_pairs a b)
puts_hold {E} a b eq h p m = go (Memᴰ.cases_cons m)
  where
    go : (p ≡ (con a.rel, con b.rel)) ⊎ (p ∈ place_pairs a.args b.args) → E p.0 p.1
    go (inl e) =
        subst (λ (q : Pair). E q.0 q.1) (sym e)
        (subst (λ (n : ℕ). E (con a.rel) (con n)) h.relations (eq.same (con a.rel)))
    go (inr n) = places_hold E a.args b.args h.places p n

hold_places : (s : Sub) (ts us : List Term) → HoldsPairs (Kernel s) (place_pairs ts us) → Together (Kernel s) ts us
hold_places s [] [] h = tt
hold_places s [] (u ∷ us) h = no_clash s h
hold_places s (t ∷ ts) [] h = no_clash s h
hold_places s (t ∷ ts) (u ∷ us) h =
    (h (t, u) (Memᴰ.head refl), hold_places s ts us (λ p m. h p (Memᴰ.tail m)))

pub hold_puts : (s : Sub) (a b : Atom) → HoldsPairs (Kernel s) (atom_pairs a b) → PutsOn (Kernel s) a b
hold_puts s a b h =
    record {
      relations = con_inj (h (con a.rel, con b.rel) (Memᴰ.head refl));
      places = hold_places s a.args b.args (λ p m. h p (Memᴰ.tail m));
    }

-- the head atom at a place
pub at_head : (E : Term → Term → Type 0) (H : Question) (d : ℕ) (a b : Atom) → get_elem? H d ≡ some b
    → HoldsPairs E (atom_pairs a b) → HoldsPairs E (to_head H d a)
at_head E [] d a b e h = absurd (none≢some e)
at_head E (c ∷ H) zero a b e h =
    subst (λ (x : Atom). HoldsPairs E (atom_pairs a x)) (sym (some-injective c b e)) h
at_head E (c ∷ H) (suc d) a b e h = at_head E H d a b e h

pub head_at : (E : Term → Term → Type 0) (H : Question) (d : ℕ) (a b : Atom) → get_elem? H d ≡ some b
    → HoldsPairs E (to_head H d a) → HoldsPairs E (atom_pairs a b)
head_at E [] d a b e h = absurd (none≢some e)
head_at E (c ∷ H) zero a b e h = subst (λ (x : Atom). HoldsPairs E (atom_pairs a x)) (some-injective c b e) h
head_at E (c ∷ H) (suc d) a b e h = head_at E H d a b e h

pub at_small : (H : Question) (d : ℕ) (b : Atom) → get_elem? H d ≡ some b → d < length H
at_small [] d b e = absurd (none≢some e)
at_small (c ∷ H) zero b e = omega arith
at_small (c ∷ H) (suc d) b e = let h : d < length H = at_small H d b e in omega arith

pub at_in : (H : Question) (d : ℕ) (b : Atom) → get_elem? H d ≡ some b → b ∈ H
at_in [] d b e = absurd (none≢some e)
at_in (c ∷ H) zero b e = Memᴰ.head (sym (some-injective c b e))
at_in (c ∷ H) (suc d) b e = Memᴰ.tail (at_in H d b e)

-- classes that put an atom on the head atom at a place have one there
pub head_there : (s : Sub) (H : Question) (d : ℕ) (a : Atom) → HoldsPairs (Kernel s) (to_head H d a)
    → (b : Atom) × (get_elem? H d ≡ some b)
head_there s [] d a h = absurd (no_clash s h)
head_there s (b ∷ H) zero a h = (b, refl)
head_there s (b ∷ H) (suc d) a h = head_there s H d a h
