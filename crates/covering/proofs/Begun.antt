-- A buffer that begins with a record and may go on after it: the record of a question that fits is sound there, and a
-- sound record is the record of the question read from it. Assumes nothing.
use mathlib.Core.Path.{◌≡◌, sym, ◌∙◌, ap, ap₂, subst}
use mathlib.Core.List.{List, ◌∷◌, ◌++◌}
use Prim.Native.Nat.{ℕ, suc, ◌+◌, ◌*◌, ◌≤◌}
use native.Mathlib.Omega.{arith}
use lib.Dec.{T}
use lib.ListN.{length, get_or, take, drop, length-append}
use lib.Seq.{drop-cons}
use Rattle.covering.specs.Lists.{gather}
use Rattle.covering.specs.Term.{Question}
use Rattle.covering.specs.Record.{Layout, size, are_atoms, question_of, atom_bytes, record_bytes, Fits, SoundRecord}
use Rattle.covering.proofs.Lengths.{question_count, record_is, record_long}
use Rattle.covering.proofs.RoundTrip.{atoms_read, atoms_back, TellsApart}

-- written
module _ (L : Layout) (ap-L : TellsApart L) (A : Question) (R : List ℕ) (fits : Fits L A) where
  abbrev B : List ℕ
  B = record_bytes L A ++ R

  begins_with : B ≡ length A ∷ (gather (atom_bytes L) A ++ R)
  begins_with = ap (λ (l : List ℕ). l ++ R) (record_is L A)

  first_byte : get_or B 0 0 ≡ length A
  first_byte = ap (λ (l : List ℕ). get_or l 0 0) begins_with

  atoms_there : T (are_atoms L B 1 (length A))
  atoms_there = (atoms_read L ap-L B 1 A R fits.each (ap (drop 1) begins_with)).1

  pub begun_sound : SoundRecord L (record_bytes L A ++ R)
  begun_sound =
      record {
        most = omega (arith, first_byte, fits.most);
        fits =
            subst (λ (n : ℕ). 1 + n * size L ≤ length B) (sym first_byte)
            (omega (arith, record_long L A, length-append (record_bytes L A) R));
        atoms = subst (λ (n : ℕ). T (are_atoms L B 1 n)) (sym first_byte) atoms_there;
      }

-- read, and written again
module _ (L : Layout) (B : List ℕ) where
  pub begun_long : length (record_bytes L (question_of L B)) ≡ 1 + get_or B 0 0 * size L
  begun_long = record_long L (question_of L B) ∙ ap (λ (n : ℕ). 1 + n * size L) (question_count L B)

  module _ (ap-L : TellsApart L) (s : SoundRecord L B) where
    pub begun_record : take (1 + get_or B 0 0 * size L) B ≡ record_bytes L (question_of L B)
    unfolding question_of
    begun_record =
        ap (λ (m : ℕ). take m B) one
        ∙ ap (take (suc (get_or B 0 0 * size L))) (drop-cons B 0 0 (omega (arith, s.fits)))
        ∙ ap₂ ◌∷◌ (sym (question_count L B)) (sym (atoms_back L ap-L B (get_or B 0 0) 1 s.fits s.atoms))
        ∙ sym (record_is L (question_of L B))
      where
        one : 1 + get_or B 0 0 * size L ≡ suc (get_or B 0 0 * size L)
        one = omega arith
