-- A small book whose question has answer places, a(v0,c0) r0(v0) r1(v1,v0): it is accepted, and with a byte or two
-- changed it is accepted or refused as 02, a) says. Assumes nothing.
use mathlib.Core.Path.{◌≡◌, refl}
use mathlib.Core.List.{List, [], ◌∷◌, ◌++◌}
use Prim.Native.Nat.{ℕ}
use lib.ListN.{set}
use Rattle.covering.specs.Record.{term_of, args_at, atom_at, atoms_at}
use Rattle.reading.specs.Word.{word}
use Rattle.reading.specs.Header.{form_for, announced}
use Rattle.reading.specs.Refusals.{used_places}
use Rattle.reading.specs.Verdict.{in_table, offsets_right, wrong_places, rule_right, wrong_rule, wrong_place}
use Rattle.reading.specs.Verdict.{wrong_in_atom, wrong_in_atoms, wrong_in_rules, wrong_answer, wrong_in_question}
use Rattle.reading.specs.Verdict.{wrong_byte, loose_from, loose_variable, contents, verdict}
use Rattle.reading.proofs.Example.{small, example}

-- two relations, one constant, no rule; the answer record at 20, the atoms at 25 and 30
pub asked : List ℕ
unfolding small
asked =
    small (2 ∷ 1 ∷ 0 ∷ 2 ∷ 10 ∷ 18 ∷ 20 ∷ 20 ∷ 35 ∷ [])
    ++ (1 ∷ 2 ∷ [])
    ++ (255 ∷ 0 ∷ 128 ∷ 255 ∷ 255 ∷ [])
    ++ (0 ∷ 0 ∷ 255 ∷ 255 ∷ 255 ∷ 1 ∷ 1 ∷ 0 ∷ 255 ∷ 255 ∷ [])

-- the number and the place
abbrev pub judged : List ℕ → ℕ × ℕ
judged B = let r = verdict B in (r.number, r.place)

-- with the byte at i changed to x
abbrev changed : ℕ → ℕ → ℕ × ℕ
changed i x = judged (set asked i x)

pub answers_judged :
    (judged asked ≡ (0, 0))
    -- a total that is neither, of a book of so many bytes
    × (judged (set asked 16 36 ++ 255 ∷ []) ≡ (4, 0))
    -- another relation byte than 255; and 255 where no answer record is announced
    × (changed 20 0 ≡ (7, 20)) × (judged (set example 38 255) ≡ (7, 38))
    -- a first place of 255; a byte after a 255; constant 1 of 1
    × (changed 21 255 ≡ (7, 21)) × (changed 24 0 ≡ (7, 24)) × (changed 22 129 ≡ (7, 22))
    -- a variable that stands in the second atom alone, and one that stands in none
    × (changed 21 1 ≡ (0, 0)) × (changed 21 2 ≡ (11, 21)) × (changed 22 3 ≡ (11, 22))
    -- the earliest of two; and 7 comes before
    × (judged (set (set asked 21 2) 22 3) ≡ (11, 21)) × (judged (set (set asked 21 2) 34 0) ≡ (7, 34))
unfolding asked example small word form_for in_table announced offsets_right wrong_places rule_right wrong_rule wrong_place
    wrong_in_atom wrong_in_atoms wrong_in_rules used_places wrong_answer wrong_in_question wrong_byte term_of args_at atom_at
    atoms_at loose_from loose_variable contents verdict
answers_judged = (refl, refl, refl, refl, refl, refl, refl, refl, refl, refl, refl, refl)
