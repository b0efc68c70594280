-- Laws of the map as the code holds it: one more variable placed is one more byte stored. Assumes nothing.
use mathlib.Core.Path.{◌≡◌, refl, sym, ◌∙◌, ap, ap₂, fun_ext}
use mathlib.Core.Bool.{Bool, true, false, cond}
use mathlib.Core.Logic.{◌⊎◌, inl, inr}
use mathlib.Core.List.{List, [], ◌∷◌, map}
use mathlib.Core.Option.{Option, none, some}
use Prim.Native.Nat.{ℕ, zero, suc, ◌+◌, ◌-◌, ◌≤◌, ◌<◌}
use native.Mathlib.Omega.{arith}
use borrow.Author.Tests.{eqb-true, eqb-false, eq-eqb, ne_eqb}
use lib.Dec.{eqb}
use lib.ListN.{length, get_or, set, take, replicate, length-replicate}
use lib.Seq.{get_or-set_same, get_or-set_other}
use Rattle.covering.specs.Lists.{is_some, numbers}
use Rattle.covering.specs.Search.{Part, nowhere, also, place_term, place_terms, place_atom}
use Rattle.covering.specs.Record.{Layout, term_of, byte_of, args_at, atom_at}
use Rattle.cover.specs.HeldMap.{part_of, said, Searched}
use Rattle.covering.specs.FirstMap.{goes_byte, map_bytes, map_or}
use Rattle.covering.specs.Desk.{map_size}
use Rattle.covering.proofs.Tests.{either, le_or_lt}
use Rattle.covering.proofs.Bytes.{term_same, term_var, term_con}
use Rattle.cover.proofs.Parts.{args_on, args_off}

-- a byte of the map, whatever stands past its end
get_d_default : (m : List ℕ) (n d e : ℕ) → n < length m → get_or m n d ≡ get_or m n e
get_d_default [] n d e h = elim h [ ]
get_d_default (x ∷ m) zero d e h = refl
get_d_default (x ∷ m) (suc n) d e h = get_d_default m n d e (omega arith)

pub part_none : (m : List ℕ) (n : ℕ) → n < length m → get_or m n 0 ≡ 255 → part_of m n ≡ none
unfolding part_of
part_none m n h e = rw (eq-eqb (get_or m n 255) 255 (get_d_default m n 255 0 h ∙ e))

pub part_some : (m : List ℕ) (n : ℕ) → n < length m → (get_or m n 0 ≡ 255 → ⊥) → part_of m n ≡ some (term_of (get_or m n 0))
unfolding part_of
part_some m n h f = rw (get_d_default m n 255 0 h, ne_eqb (get_or m n 0) 255 f)

pub part_also : (m : List ℕ) (t u : ℕ) → t < length m → (u ≡ 255 → ⊥)
    → part_of (set m t u) ≡ also (part_of m) t (term_of u)
unfolding part_of
part_also m t u h f = fun_ext (λ n. go n (either (eqb t n)))
  where
    go : (n : ℕ) → (eqb t n ≡ true) ⊎ (eqb t n ≡ false) → part_of (set m t u) n ≡ also (part_of m) t (term_of u) n
    go n (inl e) = rw (e, ← eqb-true t n e, get_or-set_same m t u 255 h, ne_eqb u 255 f)
    go n (inr e) = rw (e, get_or-set_other m t n u 255 (λ q. eqb-false t n e (sym q)))

-- no variable is placed yet
pub part_nowhere : (n : ℕ) → part_of (replicate n 255) ≡ nowhere
unfolding part_of
part_nowhere n = fun_ext (λ i. rw (eq-eqb (get_or (replicate n 255) i 255) 255 (all_free n i)))
  where
    all_free : (n i : ℕ) → get_or {A = ℕ} (replicate n 255) i 255 ≡ 255
    all_free zero i = refl
    all_free (suc n) zero = refl
    all_free (suc n) (suc i) = all_free n i

-- the ways of one term
module _ (m : List ℕ) (t u : ℕ) where
  pub place_new : t < length m → t < 128 → (u ≡ 255 → ⊥) → get_or m t 0 ≡ 255
      → place_term (part_of m) (term_of t) (term_of u) ≡ some (part_of (set m t u))
  place_new h v f e = rw (term_var t v, part_none m t h e, ← part_also m t u h f)

  pub place_old : t < length m → t < 128 → (get_or m t 0 ≡ 255 → ⊥)
      → place_term (part_of m) (term_of t) (term_of u) ≡ cond (eqb (get_or m t 0) u) (some (part_of m)) none
  place_old h v f = rw (term_var t v, part_some m t h f, term_same (get_or m t 0) u)

  pub place_constant : 128 ≤ t → place_term (part_of m) (term_of t) (term_of u) ≡ cond (eqb t u) (some (part_of m)) none
  place_constant h = rw (term_con t h) (rw (← term_con t h, term_same t u))

-- no place is left
pub places_done : (F S : List ℕ) (i k w : ℕ) (p : Part) → w ≡ 0 → place_terms p (args_at F i w) (args_at S k w) ≡ some p
unfolding args_at
places_done F S i k w p e = rw (e, args_at)

-- the ways of the places, of which j of w are passed
module _ (F S : List ℕ) (j w : ℕ) (lt : j < w) where
  abbrev here : Part → Option Part
  here p = place_terms p (args_at F j (w - j)) (args_at S j (w - j))

  -- the first's places end: so must the second's
  pub places_end : (p : Part) → get_or F j 0 ≡ 255 → here p ≡ cond (eqb (get_or S j 0) 255) (some p) none
  places_end p e = go (either (eqb (get_or S j 0) 255))
    where
      go : (eqb (get_or S j 0) 255 ≡ true) ⊎ (eqb (get_or S j 0) 255 ≡ false)
          → here p ≡ cond (eqb (get_or S j 0) 255) (some p) none
      go (inl f) = rw (args_off F j w lt e, args_off S j w lt (eqb-true _ _ f), f)
      go (inr f) = rw (args_off F j w lt e, args_on S j w lt (eqb-false _ _ f), f)

  -- the second's places end first
  pub places_short : (p : Part) → (get_or F j 0 ≡ 255 → ⊥) → get_or S j 0 ≡ 255 → here p ≡ none
  places_short p used free = rw (args_on F j w lt used, args_off S j w lt free)

  module _ (p : Part) (used : get_or F j 0 ≡ 255 → ⊥) (used' : get_or S j 0 ≡ 255 → ⊥) where
    abbrev step : Option Part
    step = place_term p (term_of (get_or F j 0)) (term_of (get_or S j 0))

    pub places_clash : step ≡ none → here p ≡ none
    places_clash e = rw (args_on F j w lt used, args_on S j w lt used', e)

    pub places_next : {q : Part} → step ≡ some q
        → here p ≡ place_terms q (args_at F (j + 1) (w - (j + 1))) (args_at S (j + 1) (w - (j + 1)))
    places_next e = rw (args_on F j w lt used, args_on S j w lt used', e)

-- the ways of an atom
module _ (L : Layout) (F S : List ℕ) (i k : ℕ) (p : Part) where
  pub atoms_apart : (get_or F i 0 ≡ get_or S k 0 → ⊥) → place_atom p (atom_at L F i) (atom_at L S k) ≡ none
  unfolding atom_at
  atoms_apart ne = rw (ne_eqb (get_or F i 0) (get_or S k 0) ne)

  pub atoms_meet : get_or F i 0 ≡ get_or S k 0
      → place_atom p (atom_at L F i) (atom_at L S k)
      ≡ place_terms p (args_at F (i + 1) L.places) (args_at S (k + 1) L.places)
  unfolding atom_at
  atoms_meet e = rw (eq-eqb (get_or F i 0) (get_or S k 0) e)

-- the yes of an answer
pub said_yes : (r : Bool) (m : List ℕ) (o : Option Part) → said r m ≡ o → r ≡ is_some o
said_yes true m o e = ap is_some e
said_yes false m o e = ap is_some e

-- the bytes of a map are those of the part that it holds
module _ (f : ℕ → ℕ) where
  numbers_are : (i : ℕ) (l : List ℕ) → ((j : ℕ) → j < length l → f (i + j) ≡ get_or l j 0)
      → map f (numbers i (length l)) ≡ l
  numbers_are i [] h = refl
  numbers_are i (x ∷ l) h =
      ap₂ ◌∷◌ (ap f (omega arith) ∙ h 0 (omega arith))
      (numbers_are (suc i) l (λ j lt. ap f (omega arith) ∙ h (suc j) (omega arith)))

byte_back : (b : ℕ) → byte_of (term_of b) ≡ b
byte_back b = go (le_or_lt 128 b)
  where
    go : (128 ≤ b) ⊎ (b < 128) → byte_of (term_of b) ≡ b
    go (inl h) = rw (term_con b h) (omega arith)
    go (inr h) = rw (term_var b h) refl

goes_back : (m : List ℕ) (n : ℕ) → n < length m → goes_byte (part_of m n) ≡ get_or m n 0
goes_back m n h = go (either (eqb (get_or m n 0) 255))
  where
    go : (eqb (get_or m n 0) 255 ≡ true) ⊎ (eqb (get_or m n 0) 255 ≡ false) → goes_byte (part_of m n) ≡ get_or m n 0
    go (inl e) = rw (part_none m n h (eqb-true _ _ e)) (sym (eqb-true _ _ e))
    go (inr e) = rw (part_some m n h (eqb-false _ _ e)) (byte_back (get_or m n 0))

pub map_held : (m : List ℕ) (k : ℕ) → length m ≡ k → map_bytes k (part_of m) ≡ m
unfolding map_bytes
map_held m k e =
    rw (← e)
    (numbers_are (λ v. goes_byte (part_of m v)) 0 m
    (λ j lt. ap (λ v. goes_byte (part_of m v)) (omega arith) ∙ goes_back m j lt))

-- what a search from nowhere leaves
pub searched_map : (o : Option Part) (m : List ℕ) (r : Bool) → Searched o (replicate 96 255) m r → m ≡ map_or 96 o
searched_map o m true s = sym (map_held m 96 s.long) ∙ ap (map_or 96) s.finds
searched_map o m false s = s.back refl ∙ ap (map_or 96) s.finds

-- of which the desk gives the first bytes
pub front_map : (o : Option Part) → take map_size (map_or 96 o) ≡ map_or map_size o
unfolding map_bytes
front_map none = refl
front_map (some p) = refl

-- no variable goes anywhere
pub nowhere_map : (k : ℕ) → map_bytes k nowhere ≡ replicate k 255
nowhere_map k = ap (map_bytes k) (sym (part_nowhere k)) ∙ map_held (replicate k 255) k (length-replicate k 255)
