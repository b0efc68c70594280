-- Laws of the atoms still to place: there are none, or the first of them and the rest; those of a record. Assumes
-- nothing.
use mathlib.Core.Path.{◌≡◌, refl, sym, ◌∙◌, ap, ap₂, subst}
use mathlib.Core.List.{List, [], ◌∷◌}
use Prim.Native.Nat.{ℕ, ◌*◌, ◌-◌, ◌/◌, ◌≤◌, ◌<◌}
use native.Mathlib.Omega.{arith}
use lib.Dec.{T}
use lib.ListN.{length, get_or, take, drop, length-take, length-drop}
use Rattle.covering.specs.Term.{Question}
use Rattle.covering.specs.Record.{stored, atom_at, atoms_at, is_atom, are_atoms, question_of}
use Rattle.covering.specs.Buffer.{AtomsIn}
use Rattle.covering.proofs.Places.{atoms_none, atoms_more, sound_more, question_at_lem}
use Rattle.covering.proofs.Slices.{part_is}
use Rattle.cover.specs.Rest.{atoms_of, SoundAtoms}
use Rattle.cover.proofs.Parts.{atoms_part, are_part}

pub rest_none : (B : List ℕ) → length B ≡ 0 → atoms_of B ≡ []
unfolding atoms_of
rest_none B e = atoms_none stored B 0 (length B / 7) (omega arith)

-- the first, and those after it
module _ (B : List ℕ) (s : SoundAtoms B) (some : 0 < length B) where
  count : ℕ
  count = length B / 7

  pub rest_room : 7 ≤ length B
  rest_room = omega (arith, s.whole)

  pub rest_first : T (is_atom stored B 0)
  rest_first = (sound_more stored B 0 (length B / 7) (omega (arith, s.whole)) s.sound).0

  fewer : length (drop 7 B) / 7 ≡ length B / 7 - 1
  fewer = omega (arith, length-drop 7 B, rest_room)

  pub rest_sound : SoundAtoms (drop 7 B)
  rest_sound =
      record {
        whole = omega (arith, length-drop 7 B, s.whole, rest_room);
        sound =
            subst T
            (sym (are_part B 7 (length B - 7) (length B / 7 - 1) 0 (omega (arith, rest_room)))
            ∙ ap₂ (λ (P : List ℕ) (n : ℕ). are_atoms stored P 0 n) (part_is B 7) (sym fewer))
            (sound_more stored B 0 (length B / 7) (omega (arith, s.whole)) s.sound).1;
      }

  pub rest_more : atoms_of B ≡ atom_at stored B 0 ∷ atoms_of (drop 7 B)
  unfolding atoms_of
  rest_more =
      atoms_more stored B 0 (length B / 7) (omega (arith, s.whole))
      ∙ ap (λ (A : Question). atom_at stored B 0 ∷ A)
      (sym (atoms_part B 7 (length B - 7) (length B / 7 - 1) 0 (omega (arith, rest_room)))
      ∙ ap₂ (λ (P : List ℕ) (n : ℕ). atoms_at stored P 0 n) (part_is B 7) (sym fewer))

-- the atoms of a record
module _ (B : List ℕ) (a : AtomsIn stored B 1 (get_or B 0 0)) (m : ℕ) (e : m ≡ get_or B 0 0 * 7) where
  long : length (take m (drop 1 B)) / 7 ≡ get_or B 0 0
  long = omega (arith, length-take {A = ℕ}, length-drop 1 B, a.fits)

  pub held_sound : SoundAtoms (take m (drop 1 B))
  held_sound =
      record {
        whole = omega (arith, length-take {A = ℕ}, length-drop 1 B, a.fits);
        sound =
            subst T
            (sym (are_part B 1 m (get_or B 0 0) 0 (omega arith))
            ∙ ap (are_atoms stored (take m (drop 1 B)) 0) (sym long))
            a.sound;
      }

  pub held_atoms : atoms_of (take m (drop 1 B)) ≡ question_of stored B
  unfolding atoms_of
  held_atoms =
      ap (atoms_at stored (take m (drop 1 B)) 0) long
      ∙ atoms_part B 1 m (get_or B 0 0) 0 (omega arith)
      ∙ sym (question_at_lem stored B refl)
