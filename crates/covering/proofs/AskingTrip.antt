-- A desk record there and back, with or without an answer record: from bytes to a question and back gives the same bytes,
-- from a question to bytes and back the same question. Over both widths. Assumes nothing.
use mathlib.Core.Path.{◌≡◌, refl, sym, ◌∙◌, ap, ap₂, subst}
use mathlib.Core.Bool.{true, false}
use mathlib.Core.Logic.{◌⊎◌, inl, inr}
use mathlib.Core.List.Memᴰ
use mathlib.Core.List.{List, [], ◌∷◌, ◌++◌, append-nil, append_assoc}
use mathlib.Core.Option.{some, some-injective}
use Prim.Native.Nat.{ℕ, zero, suc, ◌+◌, ◌*◌, ◌-◌, ◌≤◌}
use native.Mathlib.Omega.{arith}
use borrow.Author.Tests.{ne_eqb}
use lib.Dec.{T, eqb}
use lib.ListN.{length, get_or, drop, length-drop, length-append}
use lib.Seq.{take_all, drop-append_seam}
use Rattle.covering.specs.Lists.{◌∈◌, gather}
use Rattle.covering.specs.Term.{Term, Atom, Question}
use Rattle.covering.specs.Asking.{Asking, answer_relation, answer_most, with_answer}
use Rattle.covering.specs.Record.{desk, holding, size, atoms_at, are_atoms, are_places, are_answer_places, is_term}
use Rattle.covering.specs.Record.{has_answer, answers, asking_of, places_bytes, atom_bytes}
use Rattle.covering.specs.Record.{asking_bytes, TermFits, AskingFits, Fits, is_width, is_desk_record, desk_record}
use Rattle.covering.specs.Record.{unused, byte_of}
use Rattle.covering.proofs.Tests.{either, both, true→T, T→true, none≢some}
use Rattle.covering.proofs.Bytes.{Passed, record_passed, record_fits, width_least, desk_is, desk_passed}
use Rattle.covering.proofs.Lengths.{count_atoms, atoms_long, places_long}
use Rattle.covering.proofs.RoundTrip.{desk_apart, holding_apart, atoms_read, atoms_back, places_read, front, Read}
use Rattle.covering.proofs.RoundTrip.{unused_read}
use Rattle.covering.proofs.Wider.{atoms_written}
use Rattle.covering.proofs.DeskRecords.{desk_wider, desk_within, desk_joined, fits_free}
use Rattle.covering.proofs.Answers.{record_of, no_record}

-- From bytes.
module _ (w : ℕ) (places : 1 ≤ w) (B : List ℕ) (p : Passed (desk w) B) where
  n : ℕ
  n = get_or B 0 0

  pub desk_whole : asking_bytes (desk w) (asking_of (desk w) B) ≡ B
  unfolding asking_bytes asking_of n
  desk_whole =
      ap₂ ◌∷◌ counted
      (ap (gather (atom_bytes (desk w))) (desk_joined w places B p)
      ∙ atoms_written (desk w) (holding w) (desk_wider w) (atoms_at (holding w) B 1 (answers B + n))
      ∙ atoms_back (holding w) (holding_apart w) B (answers B + n) 1 (desk_within w places B p).fits
      (desk_within w places B p).sound
      ∙ take_all ((answers B + n) * size (desk w)) (drop 1 B) all)
      ∙ sym (front (desk w) (desk_apart w) B 0 (omega (arith, p.exact)))
    where
      counted : length (asking_of (desk w) B).atoms ≡ get_or B 0 0
      counted = count_atoms (desk w) B (get_or B 0 0) (1 + answers B * size (desk w))

      all : length (drop 1 B) ≤ (answers B + n) * size (desk w)
      all = rw (length-drop 1 B) (omega (arith, p.exact))

pub bytes_round : (w : ℕ) (B : List ℕ) (q : Asking) → desk_record w B ≡ some q → asking_bytes (desk w) q ≡ B
bytes_round w B q e = go (either (is_desk_record w B))
  where
    go : (is_desk_record w B ≡ true) ⊎ (is_desk_record w B ≡ false) → asking_bytes (desk w) q ≡ B
    go (inl t) =
        let is = some-injective (asking_of (desk w) B) q (sym (record_of w B t) ∙ e) in
        let d = desk_passed w B (true→T _ t) in
        ap (asking_bytes (desk w)) (sym is)
        ∙ desk_whole w (omega (arith, width_least w d.0)) B (record_passed (desk w) B d.1)
    go (inr f) = absurd (none≢some (sym (no_record w B f) ∙ e))

-- From a question. Without an answer record the first byte after the count is a relation of the desk.
module _ (w : ℕ) (width : T (is_width w)) (A : Question) (fits : Fits (desk w) A) where
  abbrev B : List ℕ
  B = length A ∷ gather (atom_bytes (desk w)) A

  first_relation : (X : Question) → ((a : Atom) → a ∈ X → ¬ (a.rel ≡ answer_relation)) → (n : ℕ)
      → eqb (get_or (n ∷ gather (atom_bytes (desk w)) X) 1 0) answer_relation ≡ false
  unfolding atom_bytes
  first_relation [] free n = refl
  first_relation (a ∷ X) free n = ne_eqb a.rel answer_relation (free a (Memᴰ.head refl))

  not_answered : has_answer B ≡ false
  unfolding has_answer
  not_answered = first_relation A (fits_free fits.each) (length A)

  read : (atoms_at (desk w) B 1 (length A) ≡ A) × T (are_atoms (desk w) B 1 (length A))
  read = atoms_read (desk w) (desk_apart w) B 1 A [] fits.each (sym (append-nil (gather (atom_bytes (desk w)) A)))

  at_once : 1 + 0 * size (desk w) ≡ 1
  at_once = omega arith

  plain_good : is_desk_record w B ≡ true
  plain_good =
      desk_is w B (T→true _ width)
      ∙ record_fits (desk w) B fits.most
      (rw not_answered (omega (arith, atoms_long (desk w) A)))
      ∙ rw not_answered
      (T→true _ (subst (λ (i : ℕ). T (are_atoms (desk w) B i (length A))) (sym at_once) read.1))

  plain_round : desk_record w B ≡ some (record { answer = []; atoms = A })
  unfolding asking_of
  plain_round =
      record_of w B plain_good
      ∙ ap some
      (rw not_answered
      (ap asked (ap (λ (i : ℕ). atoms_at (desk w) B i (length A)) at_once ∙ read.0)))
    where
      asked : Question → Asking
      asked X = record { answer = []; atoms = X }

none : (w : ℕ) → 0 + w ≡ w
none w = omega arith

next : (m w : ℕ) → suc m + w ≡ suc (m + w)
next m w = omega arith

-- the places of a few terms: the first ones as they are, none used after them
few_places : (m w : ℕ) (ts : List Term) → length ts ≤ m → places_bytes (m + w) ts ≡ places_bytes m ts ++ places_bytes w []
few_places zero w [] h = ap (λ (k : ℕ). places_bytes k []) (none w)
few_places zero w (t ∷ ts) h = absurd (omega arith)
few_places (suc m) w [] h =
    ap (λ (k : ℕ). places_bytes k []) (next m w) ∙ ap (λ (l : List ℕ). 255 ∷ l) (few_places m w [] (omega arith))
few_places (suc m) w (t ∷ ts) h =
    ap (λ (k : ℕ). places_bytes k (t ∷ ts)) (next m w)
    ∙ ap (λ (l : List ℕ). byte_of t ∷ l) (few_places m w ts (omega arith))

-- With one it is 255, and the answer's places come before the atoms.
module _ (w : ℕ) (width : T (is_width w)) (t : Term) (ts : List Term) (A : Question)
    (few : length (t ∷ ts) ≤ answer_most)
    (each : (u : Term) → u ∈ t ∷ ts → TermFits (desk w) u) (fits : Fits (desk w) A)
  where
    abbrev C : List ℕ
    C = length A ∷ answer_relation ∷ (places_bytes w (t ∷ ts) ++ gather (atom_bytes (desk w)) A)

    is_answered : has_answer C ≡ true
    unfolding has_answer
    is_answered = refl

    places : Read (desk w) (desk_apart w) C 2 w (t ∷ ts) (gather (atom_bytes (desk w)) A)
    places =
        places_read (desk w) (desk_apart w) C w 2 (t ∷ ts) (gather (atom_bytes (desk w)) A)
        (omega (arith, width_least w width)) each refl

    after_record : 1 + 1 * size (desk w) ≡ 2 + w
    after_record = omega arith

    atoms : (atoms_at (desk w) C (2 + w) (length A) ≡ A) × T (are_atoms (desk w) C (2 + w) (length A))
    atoms =
        atoms_read (desk w) (desk_apart w) C (2 + w) A [] fits.each
        (places.rest ∙ sym (append-nil (gather (atom_bytes (desk w)) A)))

    -- after the fourth place none is used
    rest_unused : T (unused C (2 + answer_most) (w - answer_most))
    rest_unused =
        (unused_read (desk w) (desk_apart w) C (w - answer_most) (2 + answer_most) (gather (atom_bytes (desk w)) A)
        (ap (λ (l : List ℕ). drop 4 (l ++ gather (atom_bytes (desk w)) A))
        (ap (λ (k : ℕ). places_bytes k (t ∷ ts)) back ∙ few_places 4 (w - 4) (t ∷ ts) few)
        ∙ ap (drop 4) (append_assoc (places_bytes 4 (t ∷ ts)) (places_bytes (w - 4) []) (gather (atom_bytes (desk w)) A))
        ∙ passed (places_bytes 4 (t ∷ ts)) (places_bytes (w - 4) [] ++ gather (atom_bytes (desk w)) A)
        (places_long 4 (t ∷ ts)))
        ).0
      where
        back : w ≡ 4 + (w - 4)
        back = omega (arith, width_least w width)

        passed : (X R : List ℕ) → length X ≡ 4 → drop 4 (X ++ R) ≡ R
        passed X R e = ap (λ (k : ℕ). drop k (X ++ R)) (sym e) ∙ drop-append_seam X R

    answer_places : T (are_answer_places (desk w) C 2)
    unfolding are_answer_places are_places
    answer_places =
        both (are_places (desk w) C 2) _
        (both (is_term (desk w) (get_or C 2 0)) _ (places.first (omega arith)) places.sound)
        rest_unused

    answered_good : is_desk_record w C ≡ true
    answered_good =
        desk_is w C (T→true _ width)
        ∙ record_fits (desk w) C fits.most
        (rw is_answered
        (omega (
          arith,
          atoms_long (desk w) A,
          length-append (places_bytes w (t ∷ ts)) (gather (atom_bytes (desk w)) A),
          places_long w (t ∷ ts),
        )))
        ∙ rw is_answered
        (T→true _
        (both (are_answer_places (desk w) C 2) _ answer_places
        (subst (λ (i : ℕ). T (are_atoms (desk w) C i (length A))) (sym after_record) atoms.1)))

    answered_round : desk_record w C ≡ some (record { answer = t ∷ ts; atoms = A })
    unfolding asking_of
    answered_round =
        record_of w C answered_good
        ∙ ap some
        (rw is_answered
        (ap₂ asked places.terms
        (ap (λ (i : ℕ). atoms_at (desk w) C i (length A)) after_record ∙ atoms.0)))
      where
        asked : List Term → Question → Asking
        asked us X = record { answer = us; atoms = X }

pub asking_round : (w : ℕ) → T (is_width w) → (q : Asking) → AskingFits (desk w) q
    → desk_record w (asking_bytes (desk w) q) ≡ some q
unfolding asking_bytes atom_bytes
asking_round w width q f = go q.answer f.places f.terms
  where
    go : (us : List Term) → length us ≤ answer_most → ((t : Term) → t ∈ us → TermFits (desk w) t)
        → desk_record w (length q.atoms ∷ gather (atom_bytes (desk w)) (with_answer us q.atoms))
        ≡ some (record { answer = us; atoms = q.atoms })
    go [] few each = plain_round w width q.atoms f.atoms
    go (t ∷ ts) few each = answered_round w width t ts q.atoms few each f.atoms
