-- 01's printed book copied to the new form, byte for byte, and back; and one with answer places. What has no old form,
-- and where it is told. Assumes nothing.
use mathlib.Core.Path.{◌≡◌, refl}
use mathlib.Core.List.{List, [], ◌∷◌, ◌++◌}
use mathlib.Core.Option.{none}
use Prim.Native.Nat.{ℕ}
use lib.ListN.{set}
use Rattle.covering.specs.Record.{term_of, args_at, atom_at, atoms_at, atom_bytes}
use Rattle.reading.specs.Word.{word}
use Rattle.reading.specs.Header.{form_for, announced}
use Rattle.reading.specs.Book.{rule_at, rules_from, question_in, book_of}
use Rattle.reading.specs.Refusals.{used_places}
use Rattle.reading.specs.Verdict.{in_table, offsets_right, wrong_places, rule_right, wrong_rule, wrong_place}
use Rattle.reading.specs.Verdict.{wrong_in_atom, wrong_in_atoms, wrong_in_rules, wrong_answer, wrong_in_question}
use Rattle.reading.specs.Verdict.{wrong_byte, loose_from, loose_variable, contents, verdict}
use Rattle.reading.specs.Written.{rule_bytes, header_bytes, book_bytes}
use Rattle.reading.specs.Copy.{wide_places, late_from, late_in_atoms, late_in_rules, no_old_form, copied, refused}
use Rattle.reading.specs.Copy.{after_book, to_new, to_old, copy_answer, copy_written}
use Rattle.reading.proofs.Example.{small, example}

-- the printed book in the new form: a tenth word, relations at 20, rules at 23, the question at 46, 60 bytes
unfoldable pub widened : List ℕ
unfolding small
widened =
    small (3 ∷ 0 ∷ 1 ∷ 2 ∷ 10 ∷ 20 ∷ 23 ∷ 46 ∷ 60 ∷ 6 ∷ [])
    ++ (1 ∷ 1 ∷ 2 ∷ 1 ∷ 2 ∷ [])
    ++ (0 ∷ 0 ∷ 255 ∷ 255 ∷ 255 ∷ 255 ∷ 255 ∷ 1 ∷ 1 ∷ 255 ∷ 255 ∷ 255 ∷ 255 ∷ 255 ∷ [])
    ++ (2 ∷ 0 ∷ 1 ∷ 255 ∷ 255 ∷ 255 ∷ 255 ∷ [])
    ++ (1 ∷ 0 ∷ 255 ∷ 255 ∷ 255 ∷ 255 ∷ 255 ∷ 2 ∷ 1 ∷ 0 ∷ 255 ∷ 255 ∷ 255 ∷ 255 ∷ [])

-- one with answer places, a(v0,c0) r0(v0) r1(v1,v0): the answer record at 20, the atoms at 25 and 30
unfoldable pub asking_old : List ℕ
unfolding small
asking_old =
    small (2 ∷ 1 ∷ 0 ∷ 2 ∷ 10 ∷ 18 ∷ 20 ∷ 20 ∷ 35 ∷ [])
    ++ (1 ∷ 2 ∷ [])
    ++ (255 ∷ 0 ∷ 128 ∷ 255 ∷ 255 ∷ [])
    ++ (0 ∷ 0 ∷ 255 ∷ 255 ∷ 255 ∷ 1 ∷ 1 ∷ 0 ∷ 255 ∷ 255 ∷ [])

-- and in the new form: the record at 22, the atoms at 29 and 36
unfoldable pub asking_new : List ℕ
unfolding small
asking_new =
    small (2 ∷ 1 ∷ 0 ∷ 2 ∷ 10 ∷ 20 ∷ 22 ∷ 22 ∷ 43 ∷ 6 ∷ [])
    ++ (1 ∷ 2 ∷ [])
    ++ (255 ∷ 0 ∷ 128 ∷ 255 ∷ 255 ∷ 255 ∷ 255 ∷ [])
    ++ (0 ∷ 0 ∷ 255 ∷ 255 ∷ 255 ∷ 255 ∷ 255 ∷ 1 ∷ 1 ∷ 0 ∷ 255 ∷ 255 ∷ 255 ∷ 255 ∷ [])

pub copies_made : (to_new example 2003 ≡ copied widened) × (to_old widened 2003 ≡ copied example)
    -- already in the wanted form
    × (to_old example 2003 ≡ copied example) × (to_new widened 2003 ≡ copied widened)
    -- with an answer record, which comes before the atoms
    × (to_new asking_old 2003 ≡ copied asking_new) × (to_old asking_new 2003 ≡ copied asking_old)
unfolding widened asking_old asking_new example small word form_for in_table announced offsets_right wrong_places rule_right
    wrong_rule wrong_place wrong_in_atom wrong_in_atoms wrong_in_rules used_places wrong_answer wrong_in_question wrong_byte term_of
    args_at atom_at atoms_at loose_from loose_variable contents verdict rule_at rules_from question_in book_of atom_bytes
    rule_bytes header_bytes book_bytes wide_places late_from late_in_atoms late_in_rules no_old_form after_book to_new to_old
copies_made = (refl, refl, refl, refl, refl, refl)

-- the printed book with a fourth relation of five places, in no atom; its rule at 24 and its question at 47
unfoldable pub wide_one : List ℕ
unfolding small
wide_one =
    small (4 ∷ 0 ∷ 1 ∷ 2 ∷ 10 ∷ 20 ∷ 24 ∷ 47 ∷ 61 ∷ 6 ∷ [])
    ++ (1 ∷ 1 ∷ 2 ∷ 5 ∷ 1 ∷ 2 ∷ [])
    ++ (0 ∷ 0 ∷ 255 ∷ 255 ∷ 255 ∷ 255 ∷ 255 ∷ 1 ∷ 1 ∷ 255 ∷ 255 ∷ 255 ∷ 255 ∷ 255 ∷ [])
    ++ (2 ∷ 0 ∷ 1 ∷ 255 ∷ 255 ∷ 255 ∷ 255 ∷ [])
    ++ (1 ∷ 0 ∷ 255 ∷ 255 ∷ 255 ∷ 255 ∷ 255 ∷ 2 ∷ 1 ∷ 0 ∷ 255 ∷ 255 ∷ 255 ∷ 255 ∷ [])

pub none_old :
    -- a relation of five places, in no atom; relations come before a variable; a relation of four
    (to_old wide_one 2003 ≡ refused 13 23) × (to_old (set wide_one 27 32) 2003 ≡ refused 13 23)
    × (no_old_form (set wide_one 23 4) ≡ none)
    -- variable 32 in the question, in the rule's body and in its head, and 47; 31 has an old form
    × (to_old (set widened 47 32) 2003 ≡ refused 13 47) × (to_old (set widened 26 32) 2003 ≡ refused 13 26)
    × (to_old (set widened 40 47) 2003 ≡ refused 13 40) × (no_old_form (set widened 47 31) ≡ none)
    -- the earliest of two; in the answer record, before the atoms
    × (to_old (set (set widened 47 32) 54 33) 2003 ≡ refused 13 47)
    × (to_old (set (set asking_new 23 40) 30 40) 2003 ≡ refused 13 23)
    -- the book's own come first, and too little room before them; the new form has both
    × (to_old (set wide_one 60 0) 2003 ≡ refused 7 60) × (to_old wide_one 2002 ≡ refused 1 0)
    × (to_new (set wide_one 60 0) 2003 ≡ refused 7 60) × (to_new [] 2002 ≡ refused 1 0)
    × (to_new wide_one 2003 ≡ copied wide_one)
    -- what has its relations at 22 is judged as old, and its tenth word is not looked at
    × (to_new (set (set widened 10 22) 18 5) 2003 ≡ refused 4 0)
unfolding wide_one widened asking_new small word form_for in_table announced offsets_right wrong_places rule_right
    wrong_rule wrong_place wrong_in_atom wrong_in_atoms wrong_in_rules used_places wrong_answer wrong_in_question wrong_byte term_of
    args_at atom_at atoms_at loose_from loose_variable contents verdict rule_at rules_from question_in book_of atom_bytes
    rule_bytes header_bytes book_bytes wide_places late_from late_in_atoms late_in_rules no_old_form after_book to_new to_old
none_old = (refl, refl, refl, refl, refl, refl, refl, refl, refl, refl, refl, refl, refl, refl, refl)

-- the answer and the output: the copy and what stood after it, or the output as it was
pub answers_given : (copy_answer (copied widened) ≡ (0, 60)) × (copy_answer (refused 13 23) ≡ (13, 23))
    × (copy_written (copied (1 ∷ 2 ∷ [])) (7 ∷ 8 ∷ 9 ∷ []) ≡ 1 ∷ 2 ∷ 9 ∷ [])
    × (copy_written (refused 13 23) (7 ∷ 8 ∷ 9 ∷ []) ≡ 7 ∷ 8 ∷ 9 ∷ [])
unfolding widened small
answers_given = (refl, refl, refl, refl)
