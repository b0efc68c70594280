-- A record at the front of n bytes, the rest 255: it is read back as it was written, and an atom put after its own
-- makes the record of one atom more. Assumes nothing.
use mathlib.Core.Path.{◌≡◌, refl, sym, ◌∙◌, ap, ap₂, subst}
use mathlib.Core.List.{List, [], ◌∷◌, ◌++◌, append-nil}
use Prim.Native.Nat.{ℕ, suc, ◌+◌, ◌*◌, ◌-◌, ◌≤◌}
use native.Mathlib.Omega.{arith}
use native.Mathlib.Nat.{zero-add}
use lib.Dec.{T}
use lib.ListN.{length, get_or, take, drop, set, replicate, length-append, length-replicate}
use lib.Seq.{paste, take_at, drop-append-add}
use Rattle.covering.specs.Lists.{◌∈◌, gather}
use Rattle.covering.specs.Term.{Atom, Question}
use Rattle.covering.specs.Record.{Layout, size, atoms_at, are_atoms, question_of, atom_bytes, record_bytes, AtomFits}
use Rattle.covering.specs.Record.{Fits, SoundRecord, stored}
use Rattle.covering.specs.Buffer.{AtomsIn, held_in, RoomLeft, record_room}
use Rattle.covering.proofs.Lengths.{count_atoms, atoms_long, record_is, record_long}
use Rattle.covering.proofs.RoundTrip.{atoms_read, atoms_back, TellsApart, stored_apart}
use Rattle.covering.proofs.Lists.{gather_append}
use Rattle.covering.proofs.Slices.{rest_free}
use Rattle.covering.proofs.Begun.{begun_record, begun_long}
use Rattle.covering.proofs.Wider.{Wider, record_written}
use Rattle.covering.proofs.Fitting.{sound_fits}

module _ (L : Layout) (n : ℕ) (A : Question) where
  pub held_count : get_or (held_in L n A) 0 0 ≡ length A
  unfolding held_in record_bytes
  held_count = refl

  pub held_length : 1 + length A * size L ≤ n → length (held_in L n A) ≡ n
  unfolding held_in
  held_length h =
      length-append (record_bytes L A) _
      ∙ ap (λ k. length (record_bytes L A) + k) (length-replicate (n - length (record_bytes L A)) 255)
      ∙ omega (arith, record_long L A)

  module _ (ap-L : TellsApart L) (each : (a : Atom) → a ∈ A → AtomFits L a) where
    read : (atoms_at L (held_in L n A) 1 (length A) ≡ A) × T (are_atoms L (held_in L n A) 1 (length A))
    unfolding held_in record_bytes
    read = atoms_read L ap-L (held_in L n A) 1 A (replicate (n - length (record_bytes L A)) 255) each refl

    pub held_question : question_of L (held_in L n A) ≡ A
    unfolding question_of
    held_question = rw held_count read.0

    pub held_atoms : T (are_atoms L (held_in L n A) 1 (get_or (held_in L n A) 0 0))
    held_atoms = rw held_count read.1

    -- what `put_atom` and `put_on` ask of a record under construction
    pub held_room : 1 + (length A + 1) * size L ≤ n → RoomLeft L n (held_in L n A)
    held_room h =
        record { holds = ap (held_in L n) (sym held_question); atoms = held_atoms; room = rw held_count h }

  pub held_sound : TellsApart L → Fits L A → 1 + length A * size L ≤ n → SoundRecord L (held_in L n A)
  held_sound ap-L fits h =
      record {
        most = rw held_count fits.most;
        fits = rw (held_count, held_length h) h;
        atoms = held_atoms ap-L fits.each;
      }

-- an atom put after those that are there
module _ (L : Layout) (n : ℕ) (A : Question) (a : Atom) (s : List ℕ) where
  one_more : length (A ++ a ∷ []) ≡ length A + 1
  one_more = length-append A (a ∷ [])

  record_more : record_bytes L (A ++ a ∷ []) ≡ (length A + 1) ∷ (gather (atom_bytes L) A ++ atom_bytes L a)
  unfolding record_bytes
  record_more =
      ap₂
      ◌∷◌
      one_more
      (gather_append (atom_bytes L) A (a ∷ []) ∙ ap (λ l. gather (atom_bytes L) A ++ l) (append-nil (atom_bytes L a)))

  pub held_put : take (size L) s ≡ atom_bytes L a → 1 + (length A + 1) * size L ≤ n
      → paste (set (held_in L n A) 0 (length A + 1)) (1 + length A * size L) s (size L) ≡ held_in L n (A ++ a ∷ [])
  unfolding held_in record_bytes
  held_put e h =
      ap₂ (λ x y. x ++ take (size L) s ++ y) front back
      ∙ ap (λ x. whole ++ x ++ replicate left 255) e
      ∙ sym (ap₂ (λ x y. x ++ replicate y 255) record_more fewer)
    where
      whole : List ℕ
      whole = (length A + 1) ∷ gather (atom_bytes L) A

      free : ℕ
      free = n - length (record_bytes L A)

      left : ℕ
      left = free - size L

      start : length whole ≡ 1 + length A * size L
      start = ap suc (atoms_long L A) ∙ omega arith

      front : take (1 + length A * size L) (whole ++ replicate free 255) ≡ whole
      front = take_at whole (replicate free 255) (1 + length A * size L) start

      back : drop (1 + length A * size L + size L) (whole ++ replicate free 255) ≡ replicate left 255
      back =
          ap (λ k. drop (k + size L) (whole ++ replicate free 255)) (sym start)
          ∙ drop-append-add whole (replicate free 255) (size L)
          ∙ rest_free (size L) free (omega (arith, record_long L A))

      fewer : n - length (record_bytes L (A ++ a ∷ [])) ≡ left
      fewer = omega (arith, record_long L A, record_long L (A ++ a ∷ []), ap (λ k. k * size L) one_more)

-- the same, of bytes that are a record under construction
pub put_after : (L : Layout) (n : ℕ) (B : List ℕ) (a : Atom) (s : List ℕ) → RoomLeft L n B
    → take (size L) s ≡ atom_bytes L a
    → paste (set B 0 (get_or B 0 0 + 1)) (1 + get_or B 0 0 * size L) s (size L) ≡ held_in L n (question_of L B ++ a ∷ [])
put_after L n B a s r e =
    ap₂ (λ x k. paste (set x 0 (k + 1)) (1 + k * size L) s (size L)) r.holds count
    ∙ held_put L n (question_of L B) a s e (subst (λ k. 1 + (k + 1) * size L ≤ n) count r.room)
  where
    count : get_or B 0 0 ≡ length (question_of L B)
    count = ap (λ x. get_or x 0 0) r.holds ∙ held_count L n (question_of L B)

-- a record that a buffer begins with, copied to the front of n bytes of 255, is the record that they hold
pub begun_held : (L : Layout) (B : List ℕ) → TellsApart L → SoundRecord L B → (n : ℕ) → 1 + get_or B 0 0 * size L ≤ n
    → paste (replicate n 255) 0 B (1 + get_or B 0 0 * size L) ≡ held_in L n (question_of L B)
unfolding held_in
begun_held L B ap-L s n h =
    ap₂ (λ (l r : List ℕ). l ++ r) (begun_record L B ap-L s)
    (rest_free (0 + (1 + get_or B 0 0 * size L)) n (omega arith)
    ∙ ap (λ (k : ℕ). replicate (n - k) 255) (zero-add (1 + get_or B 0 0 * size L) ∙ sym (begun_long L B)))

-- sound atoms that stand elsewhere, copied behind their count, are the record of their question
pub copied_held : (L : Layout) → TellsApart L → (B : List ℕ) (i n m : ℕ) → AtomsIn L B i n → n * size L ≤ m
    → paste (n ∷ replicate m 255) 1 (drop i B) (n * size L) ≡ held_in L (suc m) (atoms_at L B i n)
unfolding held_in
copied_held L ap-L B i n m a h =
    ap₂ (λ (l r : List ℕ). n ∷ (l ++ r)) (sym (atoms_back L ap-L B n i a.fits a.sound)) left
    ∙ ap (λ (k : ℕ). k ∷ gather (atom_bytes L) A ++ replicate (suc m - length (record_bytes L A)) 255) (sym count)
    ∙ ap (λ (l : List ℕ). l ++ replicate (suc m - length (record_bytes L A)) 255) (sym (record_is L A))
  where
    A : Question
    A = atoms_at L B i n

    count : length (atoms_at L B i n) ≡ n
    count = count_atoms L B n i

    long : length (record_bytes L A) ≡ 1 + n * size L
    long = record_long L A ∙ ap (λ (k : ℕ). 1 + k * size L) count

    left : drop (1 + n * size L) (n ∷ replicate m 255) ≡ replicate (suc m - length (record_bytes L A)) 255
    left =
        ap (λ (k : ℕ). drop k (n ∷ replicate m 255)) one
        ∙ rest_free (n * size L) m h
        ∙ ap (λ (k : ℕ). replicate k 255) fewer
      where
        one : 1 + n * size L ≡ suc (n * size L)
        one = omega arith

        fewer : m - n * size L ≡ suc m - length (record_bytes L A)
        fewer = omega (arith, long)

-- a wider layout with the same places holds a record alike
pub held_written : (L M : Layout) → Wider L M → (n : ℕ) (A : Question) → held_in L n A ≡ held_in M n A
unfolding held_in
held_written L M w n A = ap (λ (r : List ℕ). r ++ replicate (n - length r) 255) (record_written L M w A)

-- in the bytes in which the code holds a record
pub sound_stored : (R : List ℕ) → SoundRecord stored R → Fits stored (question_of stored R)
sound_stored R s = sound_fits stored stored_apart R (omega arith) s

pub stored_sound : (A : Question) → Fits stored A → SoundRecord stored (held_in stored record_room A)
stored_sound A f = held_sound stored record_room A stored_apart f (omega (arith, f.most))

pub stored_question : (A : Question) → Fits stored A → question_of stored (held_in stored record_room A) ≡ A
stored_question A f = held_question stored record_room A stored_apart f.each
