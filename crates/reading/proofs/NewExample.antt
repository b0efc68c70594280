-- A small book in the new form, the rule r1(v0) -> r0(v0,v47,c0,v0,v0,v0) and the question
-- a(v0,c0,v47,v0) r0(v0,v47,c0,v0,v0,v0): it is accepted, and with a byte or two changed it is accepted or refused as
-- 02, i) says. Assumes nothing.
use mathlib.Core.Path.{◌≡◌, refl}
use mathlib.Core.List.{List, [], ◌∷◌, ◌++◌}
use Prim.Native.Nat.{ℕ}
use lib.ListN.{set, take}
use Rattle.covering.specs.Record.{term_of, args_at, atom_at, atoms_at}
use Rattle.reading.specs.Word.{word}
use Rattle.reading.specs.Header.{form_for, announced}
use Rattle.reading.specs.Refusals.{used_places}
use Rattle.reading.specs.Verdict.{in_table, offsets_right, wrong_places, rule_right, wrong_rule, wrong_place}
use Rattle.reading.specs.Verdict.{wrong_in_atom, wrong_in_atoms, wrong_in_rules, wrong_answer, wrong_in_question}
use Rattle.reading.specs.Verdict.{wrong_byte, loose_from, loose_variable, contents, verdict}
use Rattle.reading.proofs.Example.{small, example}
use Rattle.reading.proofs.AnswerExample.{judged}

-- relations of six places and of one, one constant; the rule at 22, its atoms at 24 and 31, the answer record at 38 and
-- the atom at 45
pub lent : List ℕ
unfolding small
lent =
    small (2 ∷ 1 ∷ 1 ∷ 1 ∷ 10 ∷ 20 ∷ 22 ∷ 38 ∷ 52 ∷ 6 ∷ [])
    ++ (6 ∷ 1 ∷ 1 ∷ 1 ∷ [])
    ++ (1 ∷ 0 ∷ 255 ∷ 255 ∷ 255 ∷ 255 ∷ 255 ∷ 0 ∷ 0 ∷ 47 ∷ 128 ∷ 0 ∷ 0 ∷ 0 ∷ [])
    ++ (255 ∷ 0 ∷ 128 ∷ 47 ∷ 0 ∷ 255 ∷ 255 ∷ 0 ∷ 0 ∷ 47 ∷ 128 ∷ 0 ∷ 0 ∷ 0 ∷ [])

-- with the byte at i changed to x
abbrev changed : ℕ → ℕ → ℕ × ℕ
changed i x = judged (set lent i x)

pub new_judged :
    -- six places and variable 47; seven places; 48 is no variable, and 47 that stands in no atom is refused 11
    (judged lent ≡ (0, 0)) × (changed 20 7 ≡ (5, 20)) × (changed 33 48 ≡ (7, 33)) × (changed 47 46 ≡ (11, 41))
    -- 19 bytes, and 11 of which the last says 20; 19 of an old book are long enough for a header
    × (judged (take 19 lent) ≡ (2, 0)) × (judged (take 11 lent) ≡ (2, 0)) × (judged (take 19 example) ≡ (4, 0))
    -- another tenth word; relations at 18 or at 22, as of an old book, and at 20 in an old one
    × (changed 18 5 ≡ (3, 0)) × (changed 19 1 ≡ (3, 0)) × (changed 10 18 ≡ (4, 0)) × (changed 10 22 ≡ (4, 0))
    × (judged (set (set lent 10 22) 18 5) ≡ (4, 0)) × (judged (set example 10 20) ≡ (3, 0))
    -- rules at 20, where the relations are; the total of atoms of five bytes
    × (changed 12 20 ≡ (4, 0)) × (changed 16 48 ≡ (4, 0))
    -- the fifth and the sixth place of an answer record, after four that are used and after three
    × (changed 43 0 ≡ (7, 43)) × (changed 44 0 ≡ (7, 44)) × (judged (set (set lent 42 255) 43 0) ≡ (7, 43))
    -- the fifth and the sixth place of an atom, unused and used
    × (changed 29 0 ≡ (7, 29)) × (changed 36 255 ≡ (7, 36)) × (changed 37 129 ≡ (7, 37))
unfolding lent example small word form_for in_table announced offsets_right wrong_places rule_right wrong_rule wrong_place
    wrong_in_atom wrong_in_atoms wrong_in_rules used_places wrong_answer wrong_in_question wrong_byte term_of args_at atom_at
    atoms_at loose_from loose_variable contents verdict
new_judged = (
  refl,
  refl,
  refl,
  refl,
  refl,
  refl,
  refl,
  refl,
  refl,
  refl,
  refl,
  refl,
  refl,
  refl,
  refl,
  refl,
  refl,
  refl,
  refl,
  refl,
  refl,
)
