-- The atoms left so far: one more of them, and how a record of its own holds them. Assumes nothing.
use mathlib.Core.Path.{◌≡◌, sym, ◌∙◌, subst}
use mathlib.Core.Logic.{◌⊎◌, inl, inr}
use mathlib.Core.List.Memᴰ
use mathlib.Core.List.{List, [], ◌∷◌, ◌++◌}
use Prim.Native.Nat.{ℕ, ◌+◌}
use native.Mathlib.Omega.{arith}
use lib.Dec.{T}
use lib.ListN.{length, get_or, length-append}
use Rattle.covering.specs.Lists.{◌∈◌}
use Rattle.covering.specs.Term.{Atom, Question}
use Rattle.covering.specs.Record.{stored, question_of, are_atoms, AtomFits, SoundRecord}
use Rattle.covering.specs.Buffer.{held_in, AtomsIn, record_room}
use Rattle.covering.proofs.Padded.{held_atoms, held_written}
use Rattle.covering.proofs.Wider.{atom_fits_wider}
use Rattle.unify.specs.InBytes.{in_book}
use Rattle.lister.specs.Listing.{LeftIn}
use Rattle.lister.proofs.RewritingBytes.{book_stored, book_apart}

pub fits_stored : (a : Atom) → AtomFits in_book a → AtomFits stored a
fits_stored a f = atom_fits_wider in_book stored book_stored f

pub left_none : LeftIn []
left_none = record { each = λ a m. absurd (Memᴰ.not-nil m) }

-- one atom more
pub one_more : (A : Question) (a : Atom) → length (A ++ a ∷ []) ≡ length A + 1
one_more A a = length-append A (a ∷ [])

pub left_put : (A : Question) (a : Atom) → LeftIn A → AtomFits in_book a → LeftIn (A ++ a ∷ [])
left_put A a l f = record { each = λ b m. go b (Memᴰ.append_cases A m) }
  where
    go : (b : Atom) → (b ∈ A) ⊎ (b ∈ a ∷ []) → AtomFits in_book b
    go b (inl i) = l.each b i
    go b (inr i) = subst (AtomFits in_book) (sym (Memᴰ.eq_of_singleton i)) f

-- a record of its own that holds them has them in its bytes
pub left_bytes : (B : List ℕ) → SoundRecord stored B → B ≡ held_in stored record_room (question_of stored B)
    → LeftIn (question_of stored B) → AtomsIn in_book B 1 (get_or B 0 0)
left_bytes B s e l = record { fits = omega (arith, s.fits); sound = sound }
  where
    sound : T (are_atoms in_book B 1 (get_or B 0 0))
    sound =
        subst (λ C. T (are_atoms in_book C 1 (get_or C 0 0)))
        (held_written in_book stored book_stored record_room (question_of stored B) ∙ sym e)
        (held_atoms in_book record_room (question_of stored B) book_apart l.each)
