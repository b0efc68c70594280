-- A record of its own, in 85 bytes: what is known of its bytes is known from its question.
use mathlib.Core.Path.{◌≡◌, sym, ap, subst, ◌∙◌}
use mathlib.Core.Logic.{◌⊎◌, inl, inr}
use mathlib.Core.List.{List, [], ◌∷◌, ◌++◌}
use mathlib.Core.List.Memᴰ
use Prim.Native.Nat.{ℕ, ◌<◌}
use native.Mathlib.Omega.{arith}
use lib.ListN.{length, get_or, length-append}
use Rattle.covering.specs.Lists.{◌∈◌}
use Rattle.covering.specs.Term.{Atom, Question}
use Rattle.covering.specs.Record.{stored, question_of, AtomFits, Fits}
use Rattle.covering.specs.Buffer.{held_in, RoomLeft, record_room}
use Rattle.covering.proofs.Padded.{stored_sound, stored_question, sound_stored}
use Rattle.covering.proofs.Lengths.{question_count}
use Rattle.records.specs.Holding.{HeldRecord}

-- the bytes that hold a question that fits hold just it
pub held_bytes : (A : Question) (R : List ℕ) → Fits stored A → R ≡ held_in stored record_room A → HeldRecord R
held_bytes A R f e =
    subst HeldRecord (sym e) (record {
      sound = stored_sound A f;
      rest = sym (ap (held_in stored record_room) (stored_question A f));
    })

pub held_question : (A : Question) (R : List ℕ) → Fits stored A → R ≡ held_in stored record_room A
    → question_of stored R ≡ A
held_question A R f e = ap (question_of stored) e ∙ stored_question A f

pub empty_fits : Fits stored []
empty_fits = record { most = omega arith; each = λ a m. absurd (Memᴰ.not-nil m) }

-- the count byte is the number of atoms
pub held_count : (B : List ℕ) → get_or B 0 0 ≡ length (question_of stored B)
held_count B = sym (question_count stored B)

pub held_fits : (B : List ℕ) → HeldRecord B → Fits stored (question_of stored B)
held_fits B h = sound_stored B h.sound

-- with fewer than twelve atoms there is room for one more
pub held_room : (B : List ℕ) → HeldRecord B → length (question_of stored B) < 12 → RoomLeft stored record_room B
held_room B h l = record { holds = h.rest; atoms = h.sound.atoms; room = omega (arith, held_count B) }

-- and one that fits leaves a record
pub more_fits : (A : Question) (a : Atom) → Fits stored A → length A < 12 → AtomFits stored a → Fits stored (A ++ a ∷ [])
more_fits A a f l g = record { most = omega (arith, length-append A (a ∷ [])); each = λ b m. go b (Memᴰ.append_cases A m) }
  where
    go : (b : Atom) → (b ∈ A) ⊎ (b ∈ a ∷ []) → AtomFits stored b
    go b (inl m) = f.each b m
    go b (inr m) = subst (AtomFits stored) (sym (Memᴰ.eq_of_singleton m)) g
