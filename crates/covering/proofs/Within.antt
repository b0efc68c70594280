-- Laws of sound atoms within bytes (`AtomsIn`): the first of them and the rest, those of a record, and what keeps to a
-- wider layout. Assumes nothing.
use mathlib.Core.Path.{◌≡◌, refl, sym, ◌∙◌, ap, subst}
use mathlib.Core.List.{List}
use Prim.Native.Nat.{ℕ, ◌+◌, ◌*◌, ◌-◌, ◌≤◌, ◌<◌}
use native.Mathlib.Omega.{arith}
use lib.Dec.{T}
use lib.ListN.{length, get_or}
use Rattle.covering.specs.Term.{Question}
use Rattle.covering.specs.Record.{Layout, size, stored, is_atom, are_atoms, atoms_at, question_of, SoundRecord, Fits}
use Rattle.covering.specs.Buffer.{AtomsIn, held_in, record_room}
use Rattle.covering.proofs.RoundTrip.{TellsApart}
use Rattle.covering.proofs.Places.{sound_more, question_at_lem}
use Rattle.covering.proofs.Padded.{stored_sound, stored_question}
use Rattle.covering.proofs.Wider.{Wider, same_size, atoms_wider}

-- sound atoms, the first of them taken
pub in_first : (L : Layout) (B : List ℕ) (i n : ℕ) → AtomsIn L B i n → 0 < n → AtomsIn L B i (n - 1 + 1)
in_first L B i n a h = rw back a
  where
    back : n - 1 + 1 ≡ n
    back = omega arith

pub in_rest : (L : Layout) (B : List ℕ) (i n : ℕ) → AtomsIn L B i (n + 1)
    → T (is_atom L B i) × AtomsIn L B (i + size L) n
in_rest L B i n a =
    let s = sound_more L B i (n + 1) (omega arith) a.sound in
    (s.0, record { fits = omega (arith, a.fits); sound = subst (λ m. T (are_atoms L B (i + size L) m)) back s.1 })
  where
    back : n + 1 - 1 ≡ n
    back = omega arith

pub sound_in : (L : Layout) (B : List ℕ) → SoundRecord L B → AtomsIn L B 1 (get_or B 0 0)
sound_in L B s = record { fits = s.fits; sound = s.atoms }

-- what keeps to a layout keeps to a wider one
pub in_wider : (L M : Layout) → Wider L M → TellsApart M → (B : List ℕ) (i n : ℕ) → AtomsIn L B i n → AtomsIn M B i n
in_wider L M w ap-M B i n a =
    record {
      fits = subst (λ s. i + n * s ≤ length B) (same_size L M w) a.fits;
      sound = atoms_wider L M w ap-M B n i a.sound;
    }

-- a question in the bytes in which the code holds a record: its atoms, and that they are the question
pub held_within : (A : Question) (R : List ℕ) → Fits stored A → R ≡ held_in stored record_room A
    → AtomsIn stored R 1 (get_or R 0 0) × (atoms_at stored R 1 (get_or R 0 0) ≡ A)
held_within A R fits is =
    let s : SoundRecord stored R = subst (SoundRecord stored) (sym is) (stored_sound A fits) in (
      sound_in stored R s,
      sym (question_at_lem stored R refl) ∙ ap (question_of stored) is ∙ stored_question A fits,
    )
