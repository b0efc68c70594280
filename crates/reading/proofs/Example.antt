-- 01's printed example is a sound book: "For the header words 3 0 1 2 10 18 21 38 48, then bytes 1 1 2, 1 2,
-- 0 0 255 255 255, 1 1 255 255 255, 2 0 1 255 255, 1 0 255 255 255, 2 1 0 255 255". And with one byte changed it is
-- accepted or refused as the tables say, on either side of a limit. Assumes nothing.
use mathlib.Core.Path.{◌≡◌, refl}
use mathlib.Core.Logic.{inl, inr}
use mathlib.Core.List.{List, [], ◌∷◌, ◌++◌}
use Prim.Native.Nat.{ℕ, ◌<◌, ◌≤◌}
use native.Mathlib.Omega.{arith}
use lib.ListN.{set, take, drop}
use Rattle.reading.specs.Word.{word}
use Rattle.reading.specs.Header.{form_for, announced}
use Rattle.reading.specs.Book.{after}
use Rattle.reading.specs.Refusals.{OffsetWrong, total_not, RuleWrong, end_before, AtomWrong}
use Rattle.reading.specs.Verdict.{accepted, NoLater, verdict, contents, in_table, offsets_right, wrong_places}
use Rattle.reading.specs.Verdict.{rule_right, wrong_rule, wrong_place, wrong_in_atom, wrong_in_atoms, wrong_in_rules}
use Rattle.reading.specs.Verdict.{wrong_in_question, wrong_byte, loose_variable}

-- a word's two bytes
unfoldable pub small : List ℕ → List ℕ
small [] = []
small (n ∷ ns) = n ∷ 0 ∷ small ns

unfoldable pub example : List ℕ
unfolding small
example =
    small (3 ∷ 0 ∷ 1 ∷ 2 ∷ 10 ∷ 18 ∷ 21 ∷ 38 ∷ 48 ∷ [])
    ++ (1 ∷ 1 ∷ 2 ∷ 1 ∷ 2 ∷ [])
    ++ (0 ∷ 0 ∷ 255 ∷ 255 ∷ 255 ∷ 1 ∷ 1 ∷ 255 ∷ 255 ∷ 255 ∷ 2 ∷ 0 ∷ 1 ∷ 255 ∷ 255 ∷ [])
    ++ (1 ∷ 0 ∷ 255 ∷ 255 ∷ 255 ∷ 2 ∷ 1 ∷ 0 ∷ 255 ∷ 255 ∷ [])

pub example_sound : verdict example ≡ accepted
unfolding example small word form_for in_table offsets_right wrong_places rule_right wrong_rule wrong_place wrong_in_atom
    wrong_in_atoms wrong_in_rules announced wrong_in_question wrong_byte loose_variable contents verdict
example_sound = refl

-- the number and the place with the byte at i changed to x
abbrev changed : ℕ → ℕ → ℕ × ℕ
changed i x = let r = verdict (set example i x) in (r.number, r.place)

pub limits_hold :
    -- 31 is a variable, 32 and 47 none; 128 is no constant where there are none
    (changed 24 31 ≡ (0, 0)) × (changed 24 32 ≡ (7, 24)) × (changed 24 47 ≡ (7, 24)) × (changed 24 128 ≡ (7, 24))
    -- 65 relations, 33 rules, no explorations
    × (changed 0 65 ≡ (3, 0)) × (changed 4 33 ≡ (3, 0)) × (changed 8 0 ≡ (3, 0))
    -- a relation with no places and with five; a rule without body, which ends too soon, and one without head
    × (changed 18 0 ≡ (5, 18)) × (changed 18 5 ≡ (5, 18)) × (changed 21 0 ≡ (6, 33)) × (changed 22 0 ≡ (6, 21))
unfolding example small word form_for in_table offsets_right wrong_places rule_right wrong_rule wrong_place wrong_in_atom
    wrong_in_atoms wrong_in_rules announced wrong_in_question wrong_byte loose_variable contents verdict
limits_hold = (refl, refl, refl, refl, refl, refl, refl, refl, refl, refl, refl)

-- 38 and 43 are the question's atoms: of two wrong bytes the earlier is told, and it is a place of the atom at 38
abbrev two_wrong : List ℕ
two_wrong = set (set example 39 32) 44 32

-- the rules end at 38 and the question starts at 39, one byte later
abbrev gap : List ℕ
gap = take 38 (set (set example 14 39) 16 49) ++ (0 ∷ drop 38 example)

pub earliest_hold : (verdict two_wrong ≡ record { number = 7; place = 39 })
    × (verdict gap ≡ record { number = 6; place = 38 })
    -- a head atom less: the rules end at 33; one more: the rule runs past
    × (changed 22 1 ≡ (6, 33)) × (changed 22 3 ≡ (6, 21))
    -- an atom with a bad relation number and a bad place; a byte too many; 17 bytes; none
    × (verdict (set (set example 38 3) 39 32) ≡ record { number = 7; place = 38 })
    × (verdict (example ++ (0 ∷ [])) ≡ record { number = 4; place = 0 })
    × (verdict (take 17 example) ≡ record { number = 2; place = 0 }) × (verdict [] ≡ record { number = 2; place = 0 })
unfolding example small word form_for in_table offsets_right wrong_places rule_right wrong_rule wrong_place wrong_in_atom
    wrong_in_atoms wrong_in_rules announced wrong_in_question wrong_byte loose_variable contents verdict
earliest_hold = (refl, refl, refl, refl, refl, refl, refl, refl)

pub place_applies : AtomWrong two_wrong 38 39
unfolding example small word form_for
place_applies = AtomWrong.place (omega arith) 0 (omega arith) refl (λ t. t)

pub end_applies : RuleWrong gap 38
unfolding example small word form_for after
end_applies = let below : 38 < 39 = omega arith in end_before refl below

-- a total of 40 is the question's offset and N, not 5N, nor five more
pub total_applies : OffsetWrong (set example 16 40)
unfolding example small word form_for
total_applies =
    let without : ◌≡◌ {A = ℕ} 40 48 → ⊥ = λ e. omega arith in
    let with_it : ◌≡◌ {A = ℕ} 40 53 → ⊥ = λ e. omega arith in
    total_not without with_it

-- 6 comes before 7, and of 7 the earlier place
pub sooner : NoLater (record { number = 6; place = 44 }) 7 39 × NoLater (record { number = 7; place = 39 }) 7 44
sooner =
    let less : 6 < 7 = omega arith in
    let earlier : 39 ≤ 44 = omega arith in
    (inl less, inr (refl, earlier))
