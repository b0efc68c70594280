-- What is written of a copy, and of the book that a reader gives. Assumes nothing.
use Rattle.std.proofs.Common.{◌≡◌, ℕ, List, ◌<◌, ◌≤◌, take, drop, length, length-append, refl, ap, ◌∙◌, subst, arith, IfSome}
use lib.Seq.{take_at}
use Rattle.std.specs.declared.option.Option.{Option}
use Rattle.std.specs.Io.KnownBytes.{Appends}
use Rattle.reading.specs.Copy.{Copied, copied, refused, copy_room, Copies}
use Rattle.input.specs.Looked.{looked_at}
use Rattle.input.specs.Filled.{Fills}
use Rattle.input.proofs.Filled.{of_front}
use Rattle.copier.specs.Told.{refusal, written, told}

written_refusal : (m q : ℕ) (after : List ℕ) → 0 < m → written m q after ≡ refusal m q
written_refusal m q after some = grind arith

pub written_told : (c : Copied) → ((m q : ℕ) → c ≡ refused m q → 0 < m) → (out after : List ℕ) (n p : ℕ) → Copies c
    out n p after → written n p after ≡ told c
written_told (copied l) f out after n p k =
    ap (λ (x : ℕ × ℕ). written x.0 x.1 after) k.answers ∙ ap (take (length l)) k.writes ∙ take_at l _ (length l) refl
written_told (refused m q) f out after n p k =
    ap (λ (x : ℕ × ℕ). written x.0 x.1 after) k.answers ∙ written_refusal m q after (f m q refl)

-- and where it is no refusal, its bytes are there
pub told_within : (c : Copied) → ((m q : ℕ) → c ≡ refused m q → 0 < m) → (out after : List ℕ) (n p : ℕ) → Copies c
    out n p after → n ≡ 0 → p ≤ length after
told_within (copied l) f out after n p k zero =
    omega (arith, ap (λ (x : ℕ × ℕ). x.1) k.answers, ap length k.writes, length-append l (drop (length l) out))
told_within (refused m q) f out after n p k zero =
    absurd (omega (arith, f m q refl, ap (λ (x : ℕ × ℕ). x.0) k.answers))

-- what is told of the front of what a reader had is written
pub told_front : (make : List ℕ → ℕ → Copied) (a b old new : Option (List ℕ)) (read bytes : List ℕ) {room size : ℕ} → room ≡ looked_at
    → size ≡ copy_room → bytes ≡ told (make read size) → Fills room a b read → Appends old new bytes
    → IfSome a (λ xs. Appends old new (told (make (take looked_at xs) copy_room)))
told_front make a b old new read bytes full fits e fills w =
    of_front (λ xs. Appends old new (told (make xs copy_room))) a b looked_at read
    (subst (λ r. Fills r a b read) full fills) (subst (Appends old new) (e ∙ ap (λ r. told (make read r)) fits) w)
