-- Atoms: from bytes and back gives the same bytes, and to bytes and back the same atoms. Assumes nothing.
use mathlib.Core.Path.{◌≡◌, refl, sym, ◌∙◌, ap, ap₂, subst}
use mathlib.Core.Bool.{Bool, true, false, cond, ◌&&◌, ◌||◌}
use mathlib.Core.Logic.{◌⊎◌, inl, inr}
use mathlib.Core.List.{List, [], ◌∷◌, ◌++◌, append_assoc, nil≢cons, head-eq_of_cons-eq}
use mathlib.Core.List.Memᴰ
use mathlib.Core.List.{tail-eq_of_cons-eq}
use Prim.Native.Nat.{ℕ, zero, suc, ◌+◌, ◌*◌, ◌≤◌, ◌<◌}
use native.Mathlib.Omega.{arith}
use native.Mathlib.Nat.{add-zero}
use native.Mathlib.Numerals.{add-one}
use borrow.Author.Tests.{ltb-true, ltb-false, eq-eqb, ne_eqb}
use lib.Dec.{T, eqb, ltb, leb, lt→ltb, le→leb, eqb→eq}
use lib.ListN.{length, get_or, take, drop}
use lib.Seq.{drop-cons, take-add, drop-drop}
use Rattle.covering.specs.Lists.{◌∈◌, gather}
use Rattle.covering.specs.Term.{Term, var, con, Atom, Question}
use Rattle.covering.specs.Record.{Layout, desk, size, term_of, args_at, atom_at, atoms_at, is_term}
use Rattle.covering.specs.Record.{unused, used_first, is_atom, are_atoms, byte_of, places_bytes}
use Rattle.covering.specs.Record.{atom_bytes, TermFits, AtomFits, holding, stored, desk_variables, old_places, new_places}
use Rattle.covering.specs.Record.{are_places, is_relation}
use Rattle.covering.proofs.Tests.{either, both, fst_of, snd_of, or_left, or_right, true→T, T→true}
use Rattle.covering.proofs.Terms.{atom_path}
use Rattle.covering.proofs.Bytes.{term_var, term_con, atom_used}

-- bytes tell variables from constants, and 255 is neither
pub record TellsApart (L : Layout) : Type 0 where
  pub variables : L.variables ≤ 128
  pub constants : L.constants ≤ 127

pub desk_variables_lem : (w : ℕ) → desk_variables w ≤ 66
desk_variables_lem w = go (eqb w old_places)
  where
    go : (b : Bool) → cond b 64 66 ≤ 66
    go true = omega arith
    go false = omega arith

pub desk_apart : (w : ℕ) → TellsApart (desk w)
desk_apart w = record { variables = omega (arith, desk_variables_lem w); constants = omega arith }

pub holding_apart : (w : ℕ) → TellsApart (holding w)
holding_apart w = record { variables = omega arith; constants = omega arith }

pub stored_apart : TellsApart stored
stored_apart = holding_apart new_places

pub byte_back : (b : ℕ) → byte_of (term_of b) ≡ b
byte_back b = go (either (ltb b 128))
  where
    go : (ltb b 128 ≡ true) ⊎ (ltb b 128 ≡ false) → byte_of (term_of b) ≡ b
    go (inl e) = ap byte_of (term_var b (ltb-true b 128 e))
    go (inr e) = let h = ltb-false b 128 e in ap byte_of (term_con b h) ∙ omega arith

module _ (L : Layout) (ap-L : TellsApart L) where
  -- a term's byte is not 255
  term_used : (b : ℕ) → T (is_term L b) → b ≡ 255 → ⊥
  unfolding is_term
  term_used b t e = go (either (ltb b L.variables)) (either (ltb b (128 + L.constants)))
    where
      go : (ltb b L.variables ≡ true) ⊎ (ltb b L.variables ≡ false)
          → (ltb b (128 + L.constants) ≡ true) ⊎ (ltb b (128 + L.constants) ≡ false) → ⊥
      go (inl p) q = omega (arith, ltb-true b L.variables p, ap-L.variables)
      go (inr p) (inl q) = omega (arith, ltb-true b (128 + L.constants) q, ap-L.constants)
      go (inr p) (inr q) =
          subst T (ap₂ ◌||◌ p (ap (λ x. leb 128 b && x) q ∙ nothing (leb 128 b))) t
        where
          nothing : (x : Bool) → (x && false) ≡ false
          nothing true = refl
          nothing false = refl

  -- a fitting term's byte is a term's, and means that term
  fits_term : (t : Term) → TermFits L t → T (is_term L (byte_of t)) × (term_of (byte_of t) ≡ t)
  unfolding is_term
  fits_term (var n) h = (
    or_left (ltb n L.variables) _ (lt→ltb n L.variables h),
    term_var n (omega (arith, ap-L.variables)),
  )
  fits_term (con c) h = (
    or_right
        (ltb (128 + c) L.variables)
        _
        (both
        (leb 128 (128 + c))
        _
        (le→leb 128 (128 + c) (omega arith))
        (lt→ltb (128 + c) (128 + L.constants) (omega arith))),
    term_con (128 + c) (omega arith) ∙ ap con (omega arith),
  )

-- what stands at the front of the rest
drop_front : (B : List ℕ) (i b : ℕ) (R : List ℕ) → drop i B ≡ b ∷ R → (get_or B i 0 ≡ b) × (drop (i + 1) B ≡ R)
drop_front [] zero b R e = absurd (nil≢cons e)
drop_front [] (suc i) b R e = absurd (nil≢cons e)
drop_front (x ∷ B) zero b R e = (head-eq_of_cons-eq e, tail-eq_of_cons-eq e)
drop_front (x ∷ B) (suc i) b R e =
    let r = drop_front B i b R e in
    let next : suc i + 1 ≡ suc (i + 1) = omega arith in
    (r.0, ap (λ n. drop n (x ∷ B)) next ∙ r.1)

next_place : (i w : ℕ) → i + suc w ≡ i + 1 + w
next_place i w = omega arith

-- From a question to bytes and back.

module _ (L : Layout) (ap-L : TellsApart L) (B : List ℕ) where
  pub unused_read : (w i : ℕ) (R : List ℕ) → drop i B ≡ places_bytes w [] ++ R → T (unused B i w) × (drop (i + w) B ≡ R)
  unfolding unused
  unused_read zero i R e = (tt, rw add-zero e)
  unused_read (suc w) i R e =
      let f = drop_front B i 255 (places_bytes w [] ++ R) e in
      let r = unused_read w (i + 1) R f.1 in (
        both (eqb (get_or B i 0) 255) _ (true→T _ (eq-eqb (get_or B i 0) 255 f.0)) r.0,
        ap (λ n. drop n B) (next_place i w) ∙ r.1,
      )

  pub record Read (i w : ℕ) (ts : List Term) (R : List ℕ) : Type 0 where
    pub terms : args_at B i w ≡ ts
    pub sound : T (used_first L B i w)
    pub rest : drop (i + w) B ≡ R
    pub first : 1 ≤ length ts → T (is_term L (get_or B i 0))

  pub places_read : (w i : ℕ) (ts : List Term) (R : List ℕ) → length ts ≤ w → ((t : Term) → t ∈ ts → TermFits L t)
      → drop i B ≡ places_bytes w ts ++ R → Read i w ts R
  unfolding args_at used_first
  places_read zero i [] R le fits e =
      record { terms = refl; sound = tt; rest = rw add-zero e; first = λ h. absurd (omega arith) }
  places_read zero i (t ∷ ts) R le fits e = absurd (omega arith)
  places_read (suc w) i [] R le fits e =
      let f = drop_front B i 255 (places_bytes w [] ++ R) e in
      let u = unused_read (suc w) i R e in
      record {
        terms = rw (eq-eqb (get_or B i 0) 255 f.0);
        sound = stop (is_term L (get_or B i 0)) (λ t. term_used L ap-L (get_or B i 0) t f.0) u.0;
        rest = u.1;
        first = λ h. absurd (omega arith);
      }
    where
      stop : (b : Bool) → (T b → ⊥) → T (unused B i (suc w)) → T (cond b (used_first L B (i + 1) w) (unused B i (suc w)))
      stop true free u = absurd (free tt)
      stop false free u = u
  places_read (suc w) i (t ∷ ts) R le fits e =
      let f = drop_front B i (byte_of t) (places_bytes w ts ++ R) e in
      let k = fits_term L ap-L t (fits t (Memᴰ.head refl)) in
      let k' = subst (λ b. T (is_term L b)) (sym f.0) k.0 in
      let r = places_read w (i + 1) ts R (omega arith) (λ u m. fits u (Memᴰ.tail m)) f.1 in
      record {
        terms =
            rw (ne_eqb (get_or B i 0) 255 (term_used L ap-L (get_or B i 0) k'))
            (ap₂ ◌∷◌ (ap term_of f.0 ∙ k.1) r.terms);
        sound = rw (T→true (is_term L (get_or B i 0)) k') r.sound;
        rest = ap (λ n. drop n B) (next_place i w) ∙ r.rest;
        first = λ h. k';
      }

  atom_read : (i : ℕ) (a : Atom) (R : List ℕ) → AtomFits L a → drop i B ≡ atom_bytes L a ++ R
      → (atom_at L B i ≡ a) × T (is_atom L B i) × (drop (i + size L) B ≡ R)
  unfolding atom_at is_atom are_places atom_bytes
  atom_read i a R fits e =
      let f = drop_front B i a.rel (places_bytes L.places a.args ++ R) e in
      let r = places_read L.places (i + 1) a.args R fits.places fits.terms f.1 in
      let past : i + size L ≡ i + 1 + L.places = omega arith in (
        atom_path f.0 r.terms,
        both (is_relation L (get_or B i 0)) _ (subst (λ b. T (is_relation L b)) (sym f.0) fits.relation)
            (both (is_term L (get_or B (i + 1) 0)) _ (r.first fits.some_place) r.sound),
        ap (λ n. drop n B) past ∙ r.rest,
      )

  -- the atoms of a question, wherever they stand in a buffer
  pub atoms_read : (i : ℕ) (A : Question) (R : List ℕ) → ((a : Atom) → a ∈ A → AtomFits L a)
      → drop i B ≡ gather (atom_bytes L) A ++ R → (atoms_at L B i (length A) ≡ A) × T (are_atoms L B i (length A))
  unfolding atoms_at are_atoms
  atoms_read i [] R fits e = (refl, tt)
  atoms_read i (a ∷ A) R fits e =
      let rest = gather (atom_bytes L) A ++ R in
      let f = atom_read i a rest (fits a (Memᴰ.head refl)) (e ∙ append_assoc (atom_bytes L a) _ R) in
      let r = atoms_read (i + size L) A R (λ b m. fits b (Memᴰ.tail m)) f.2 in
      (ap₂ ◌∷◌ f.0 r.0, both (is_atom L B i) _ f.1 r.1)

-- From bytes to a question and back.
no_atoms : (s : ℕ) → 0 ≡ 0 * s
no_atoms s = omega arith

one_more : (n s : ℕ) → s + n * s ≡ suc n * s
one_more n s = omega arith

module _ (L : Layout) (ap-L : TellsApart L) (B : List ℕ) where
  -- a place more
  pub front : (i : ℕ) → i < length B → drop i B ≡ get_or B i 0 ∷ drop (i + 1) B
  front i h = drop-cons B i 0 h ∙ ap (λ n. get_or B i 0 ∷ drop n B) (sym (add-one i))

  unused_back : (w i : ℕ) → i + w ≤ length B → T (unused B i w) → places_bytes w [] ≡ take w (drop i B)
  unfolding unused
  unused_back zero i le t = refl
  unused_back (suc w) i le t =
      let free = eqb→eq (get_or B i 0) 255 (fst_of (eqb (get_or B i 0) 255) _ t) in
      ap₂ ◌∷◌ (sym free) (unused_back w (i + 1) (omega arith) (snd_of (eqb (get_or B i 0) 255) _ t))
      ∙ ap (take (suc w)) (sym (front i (omega arith)))

  places_back : (w i : ℕ) → i + w ≤ length B → T (used_first L B i w) → places_bytes w (args_at B i w) ≡ take w (drop i B)
  unfolding args_at used_first unused
  places_back zero i le t = refl
  places_back (suc w) i le t = go (is_term L (get_or B i 0)) refl t (λ u. places_back w (i + 1) (omega arith) u)
    where
      go : (b : Bool) → is_term L (get_or B i 0) ≡ b → T (cond b (used_first L B (i + 1) w) (unused B i (suc w)))
          → (T (used_first L B (i + 1) w) → places_bytes w (args_at B (i + 1) w) ≡ take w (drop (i + 1) B))
          → places_bytes (suc w) (args_at B i (suc w)) ≡ take (suc w) (drop i B)
      go true e u below =
          rw (ne_eqb (get_or B i 0) 255 (term_used L ap-L (get_or B i 0) (true→T _ e)))
          (ap₂ ◌∷◌ (byte_back (get_or B i 0)) (below u) ∙ ap (take (suc w)) (sym (front i (omega arith))))
      go false e u below =
          let free = eqb→eq (get_or B i 0) 255 (fst_of (eqb (get_or B i 0) 255) _ u) in
          rw (eq-eqb (get_or B i 0) 255 free) (unused_back (suc w) i le u)

  atom_back : (i : ℕ) → i + size L ≤ length B → T (is_atom L B i) → atom_bytes L (atom_at L B i) ≡ take (size L) (drop i B)
  unfolding atom_bytes atom_at
  atom_back i le t =
      ap (λ l. get_or B i 0 ∷ l) (places_back L.places (i + 1) (omega arith) (atom_used L B i t))
      ∙ ap (take (suc L.places)) (sym (front i (omega arith)))
      ∙ ap (λ n. take n (drop i B)) whole
    where
      whole : suc L.places ≡ size L
      whole = omega arith

  pub atoms_back : (n i : ℕ) → i + n * size L ≤ length B → T (are_atoms L B i n)
      → gather (atom_bytes L) (atoms_at L B i n) ≡ take (n * size L) (drop i B)
  unfolding atoms_at are_atoms
  atoms_back zero i le t = ap (λ n. take n (drop i B)) (no_atoms (size L))
  atoms_back (suc n) i le t =
      ap₂ ◌++◌ (atom_back i (omega arith) (fst_of (is_atom L B i) _ t))
      (atoms_back n (i + size L) (omega arith) (snd_of (is_atom L B i) _ t)
      ∙ ap (take (n * size L)) (sym (drop-drop (size L) i B)))
      ∙ sym (take-add (size L) (n * size L) (drop i B))
      ∙ ap (λ m. take m (drop i B)) (one_more n (size L))
