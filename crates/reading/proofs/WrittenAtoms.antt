-- The atoms of a written book: they are read again, and no byte of them is wrong. Assumes nothing.
use mathlib.Core.Path.{◌≡◌, refl, sym, ◌∙◌, ap, ap₂, subst}
use mathlib.Core.Bool.{Bool, true, false, cond}
use mathlib.Core.List.Memᴰ
use mathlib.Core.List.{List, [], ◌∷◌, ◌++◌, append_assoc}
use mathlib.Core.Option.{Option, none, some}
use Prim.Native.Nat.{ℕ, zero, suc, ◌+◌, ◌*◌, ◌≤◌, ◌<◌}
use native.Mathlib.Nat.{add-zero}
use native.Mathlib.Omega.{arith}
use borrow.Author.Tests.{lt-ltb, le-ltb, eq-eqb}
use lib.Dec.{T, ltb, leb, lt→ltb, le→leb}
use lib.ListN.{length, get_or, drop, get_or-append}
use lib.Seq.{get_or-drop}
use Rattle.covering.specs.Lists.{◌∈◌, or_else}
use Rattle.covering.specs.Term.{Term, var, con, Atom, Question}
use Rattle.covering.specs.Record.{holding, atoms_at, byte_of, places_bytes, atom_bytes, TermFits, AtomFits}
use Rattle.covering.proofs.Tests.{both, or_left, or_right, true→T}
use Rattle.covering.proofs.Bytes.{relation_in}
use Rattle.covering.proofs.Lengths.{atom_long, atoms_long}
use Rattle.covering.proofs.RoundTrip.{holding_apart, atoms_read}
use Rattle.reading.specs.Word.{byte}
use Rattle.reading.specs.Header.{form_of, header_size, relations, constants, variables, atom_places, atom_size}
use Rattle.reading.specs.Book.{Book, places_of}
use Rattle.reading.specs.Refusals.{used_allowed, place_allowed}
use Rattle.reading.specs.Verdict.{unless, wrong_place, wrong_in_atom, wrong_in_atoms}
use Rattle.reading.specs.Written.{atoms_bytes, BookTerm, BookAtom, BookFits}
use Rattle.reading.proofs.AtPlace.{byte_here, byte_next, past, at_place}
use Rattle.reading.proofs.Forms.{form_known}
use Rattle.reading.proofs.WrittenHeader.{IsWritten}

-- a test that is passed finds nothing, and the search goes on
pub passes : (b : Bool) (i : ℕ) (o : Option ℕ) → T b → o ≡ none → or_else (unless b i) o ≡ none
passes true i o t e = e
passes false i o t e = absurd t

pub both_none : {a b : Option ℕ} → a ≡ none → b ≡ none → or_else a b ≡ none
both_none d e = ap₂ or_else d e

-- an atom's bytes
pub atom_is : (w : ℕ) (a : Atom) → atom_bytes (holding w) a ≡ a.rel ∷ places_bytes w a.args
unfolding atom_bytes
atom_is w a = refl

module _ (B : List ℕ) (b : Book) (fits : BookFits (form_of B) b) (is : IsWritten B b) where
  -- the places of a relation are where they are looked up
  pub places_there : (r : ℕ) → r < length b.places → places_of B r ≡ get_or b.places r 0
  places_there r l =
      sym (get_or-drop (header_size B) B r 0)
      ∙ ap (λ (l : List ℕ). byte l r) is.contents_are
      ∙ get_or-append b.places _ 0 r l

  -- a term's byte is allowed in a used place
  term_allowed : (t : Term) → BookTerm (form_of B) b t → T (used_allowed (variables B) (constants B) (byte_of t))
  term_allowed (var n) h = or_left (ltb n (variables B)) _ (lt→ltb n (variables B) h)
  term_allowed (con c) h =
      or_right (ltb (128 + c) (variables B)) _
      (both (leb 128 (128 + c)) _ (le→leb 128 (128 + c) (omega arith))
      (lt→ltb (128 + c) (128 + constants B) (omega (arith, is.constants_are))))

  next_place : (i w : ℕ) → i + (w + 1) ≡ i + w + 1
  next_place i w = omega arith

  -- n places from place w on: some used, the rest not
  none_used : (n u i w : ℕ) (R : List ℕ) → u ≤ w → drop (i + w) B ≡ places_bytes n [] ++ R → wrong_place B u i w n ≡ none
  unfolding wrong_place
  none_used zero u i w R h e = refl
  none_used (suc n) u i w R h e =
      passes (place_allowed (variables B) (constants B) (ltb w u) (byte B (i + w))) (i + w) _
      (subst (λ (x : Bool). T (place_allowed (variables B) (constants B) x (byte B (i + w)))) (sym (le-ltb w u h))
      (true→T _ (eq-eqb (byte B (i + w)) 255 (byte_here B (i + w) 255 _ e))))
      (none_used n u i (w + 1) R (omega arith) (at_place B (next_place i w) (byte_next B (i + w) 255 _ e)))

  pub some_used : (n u i w : ℕ) (ts : List Term) (R : List ℕ) → u ≡ w + length ts → length ts ≤ n
      → ((t : Term) → t ∈ ts → BookTerm (form_of B) b t) → drop (i + w) B ≡ places_bytes n ts ++ R
      → wrong_place B u i w n ≡ none
  unfolding wrong_place
  some_used n u i w [] R h l f e = none_used n u i w R (omega arith) e
  some_used zero u i w (t ∷ ts) R h l f e = absurd (omega arith)
  some_used (suc n) u i w (t ∷ ts) R h l f e =
      passes (place_allowed (variables B) (constants B) (ltb w u) (byte B (i + w))) (i + w) _
      (subst (λ (x : Bool). T (place_allowed (variables B) (constants B) x (byte B (i + w))))
      (sym (lt-ltb w u (omega arith)))
      (subst (λ (x : ℕ). T (used_allowed (variables B) (constants B) x)) (sym (byte_here B (i + w) (byte_of t) _ e))
      (term_allowed t (f t (Memᴰ.head refl)))))
      (some_used n u i (w + 1) ts R (omega arith) (omega arith) (λ x m. f x (Memᴰ.tail m))
      (at_place B (next_place i w) (byte_next B (i + w) (byte_of t) _ e)))

  -- an atom has at least one place, and no more than there are
  atom_places_lem : (a : Atom) → BookAtom (form_of B) b a → (1 ≤ length a.args) × (length a.args ≤ atom_places B)
  atom_places_lem a k =
      let p = fits.places a.rel k.relation in (omega (arith, k.places, p.0), omega (arith, k.places, p.1))

  atom_none : (i : ℕ) (a : Atom) (R : List ℕ) → BookAtom (form_of B) b a
      → drop i B ≡ atom_bytes (holding (atom_places B)) a ++ R → wrong_in_atom B i ≡ none
  unfolding wrong_in_atom
  atom_none i a R k e =
      ap (λ (x : Bool). cond x (wrong_place B (places_of B (byte B i)) (i + 1) 0 (atom_places B)) (some i))
      (lt-ltb (byte B i) (relations B) (omega (arith, here, k.relation, is.relations_are)))
      ∙ some_used (atom_places B) (places_of B (byte B i)) (i + 1) 0 a.args R
      (ap (places_of B) here ∙ places_there a.rel k.relation ∙ sym k.places ∙ omega arith)
      (atom_places_lem a k).1 k.terms
      (at_place B (add-zero (i + 1)) (byte_next B i a.rel _ there))
    where
      there : drop i B ≡ a.rel ∷ (places_bytes (atom_places B) a.args ++ R)
      there = e ∙ ap (λ (l : List ℕ). l ++ R) (atom_is (atom_places B) a)

      here : byte B i ≡ a.rel
      here = byte_here B i a.rel _ there

  pub atoms_none : (i : ℕ) (A : Question) (R : List ℕ) → ((a : Atom) → a ∈ A → BookAtom (form_of B) b a)
      → drop i B ≡ atoms_bytes (form_of B) A ++ R → wrong_in_atoms B i (length A) ≡ none
  unfolding wrong_in_atoms
  atoms_none i [] R f e = refl
  atoms_none i (a ∷ A) R f e =
      let there = e ∙ append_assoc (atom_bytes (holding (atom_places B)) a) (atoms_bytes (form_of B) A) R in
      both_none (atom_none i a _ (f a (Memᴰ.head refl)) there)
      (atoms_none (i + atom_size B) A R (λ x m. f x (Memᴰ.tail m))
      (past B i (i + atom_size B) (atom_bytes (holding (atom_places B)) a) _
      (omega (arith, atom_long (holding (atom_places B)) a)) there))

  -- what a book keeps to, its bytes can hold
  pub term_holds : (t : Term) → BookTerm (form_of B) b t → TermFits (holding (atom_places B)) t
  term_holds (var n) h = omega (arith, (form_known B).few_variables)
  term_holds (con c) h = omega (arith, fits.constants.1)

  pub atom_holds : (a : Atom) → BookAtom (form_of B) b a → AtomFits (holding (atom_places B)) a
  atom_holds a k =
      record {
        relation =
            true→T _
            (relation_in (holding (atom_places B)) a.rel (omega (arith, k.relation, fits.relations.1)));
        some_place = (atom_places_lem a k).0;
        places = (atom_places_lem a k).1;
        terms = λ t m. term_holds t (k.terms t m);
      }

  pub atoms_there : (i : ℕ) (A : Question) (R : List ℕ) → ((a : Atom) → a ∈ A → BookAtom (form_of B) b a)
      → drop i B ≡ atoms_bytes (form_of B) A ++ R → atoms_at (holding (atom_places B)) B i (length A) ≡ A
  atoms_there i A R f e =
      (atoms_read (holding (atom_places B)) (holding_apart (atom_places B)) B i A R (λ a m. atom_holds a (f a m)) e).0

-- so many bytes
pub atoms_size : (B : List ℕ) (A : Question) → length (atoms_bytes (form_of B) A) ≡ atom_size B * length A
atoms_size B A = omega (arith, atoms_long (holding (atom_places B)) A)
