-- The desk's limits and answers, by computation: "A record has .. to 11 atoms and exactly fitting length, relations 0 to
-- 63, first one to four places used with 0 to 63 or 128 to 254, the rest 255"; and with answer places. Assumes nothing.
use mathlib.Core.Path.{◌≡◌, refl}
use mathlib.Core.Bool.{true, false}
use mathlib.Core.List.{List, [], ◌∷◌, ◌++◌}
use Prim.Native.Nat.{ℕ}
use lib.ListN.{replicate}
use Rattle.covering.specs.Lists.{gather, numbers}
use Rattle.covering.specs.Search.{find_map, first_map, covers}
use Rattle.covering.specs.Record.{term_of, args_at, atom_at, atoms_at, is_term, unused, used_first, are_places}
use Rattle.covering.specs.Record.{is_relation, is_atom, are_atoms, has_answer, asking_of, is_record, are_answer_places, is_desk_record}
use Rattle.covering.specs.Record.{desk_record}
use Rattle.covering.specs.Desk.{covers_answer, covers_map, the_first, the_second, neither, which, kept_map}
use Rattle.covering.specs.FirstMap.{map_bytes}

-- an atom with one place used, and with two
abbrev atom : ℕ → ℕ → List ℕ
atom relation term = relation ∷ term ∷ 255 ∷ 255 ∷ 255 ∷ []

abbrev pair : ℕ → ℕ → ℕ → List ℕ
pair relation t u = relation ∷ t ∷ u ∷ 255 ∷ 255 ∷ []

-- a record of one atom
abbrev one : ℕ → ℕ → List ℕ
one relation term = 1 ∷ atom relation term

-- n atoms after a count
abbrev many : ℕ → ℕ → List ℕ
many count n = count ∷ gather (λ (k : ℕ). atom 0 0) (numbers 0 n)

pub limits_hold : (is_desk_record 4 (one 63 63) ≡ true) × (is_desk_record 4 (one 64 63) ≡ false)
    × (is_desk_record 4 (one 0 64) ≡ false) × (is_desk_record 4 (one 0 127) ≡ false)
    × (is_desk_record 4 (one 0 128) ≡ true) × (is_desk_record 4 (one 0 254) ≡ true) × (is_desk_record 4 (one 0 255) ≡ false)
    × (is_desk_record 4 (0 ∷ []) ≡ true) × (is_desk_record 4 [] ≡ false) × (is_desk_record 4 (many 11 11) ≡ true) × (is_desk_record 4 (many 12 12) ≡ false)
    × (is_desk_record 4 (many 1 2) ≡ false) × (is_desk_record 4 (many 2 1) ≡ false)
unfolding is_term unused used_first are_places is_relation is_atom are_atoms has_answer are_answer_places is_record is_desk_record
limits_hold = (refl, refl, refl, refl, refl, refl, refl, refl, refl, refl, refl, refl, refl)

-- records of six places (02, i): a relation's six places; variables 0 to 65; an answer of four places and of five;
-- records of four places are none there, and of another width every record is malformed
abbrev six : ℕ → ℕ → ℕ → List ℕ
six relation t u = relation ∷ t ∷ 1 ∷ 2 ∷ 3 ∷ u ∷ 255 ∷ []

pub widths_hold : (is_desk_record 6 (1 ∷ 63 ∷ 0 ∷ 1 ∷ 2 ∷ 3 ∷ 4 ∷ 65 ∷ []) ≡ true)
    × (is_desk_record 6 (1 ∷ six 0 66 4) ≡ false) × (is_desk_record 6 (1 ∷ (six 255 0 255 ++ six 0 0 4)) ≡ true)
    × (is_desk_record 6 (1 ∷ (six 255 0 4 ++ six 0 0 4)) ≡ false)
    × (is_desk_record 6 (one 0 0) ≡ false) × (is_desk_record 4 (1 ∷ six 0 0 4) ≡ false)
    × (is_desk_record 5 (one 0 0) ≡ false) × (is_desk_record 0 (0 ∷ []) ≡ false) × (is_desk_record 6 (0 ∷ []) ≡ true)
    × (is_desk_record 5 (0 ∷ []) ≡ false)
unfolding is_term unused used_first are_places is_relation is_atom are_atoms has_answer are_answer_places is_record is_desk_record
widths_hold = (refl, refl, refl, refl, refl, refl, refl, refl, refl, refl)

-- p(v0), a(v0) p(v0), a(c0) p(c0), a(v0,v0) p(v0)
abbrev plain : List ℕ
plain = one 0 0

abbrev asked : List ℕ
asked = 1 ∷ (atom 255 0 ++ atom 0 0)

abbrev constant : List ℕ
constant = 1 ∷ (atom 255 128 ++ atom 0 128)

abbrev twice : List ℕ
twice = 1 ∷ (pair 255 0 0 ++ atom 0 0)

-- the answer record is not counted, must be right, and is no atom; "if only one does, covering is no"
pub answers_hold : (is_desk_record 4 asked ≡ true) × (is_desk_record 4 (2 ∷ (atom 255 0 ++ atom 0 0)) ≡ false)
    × (is_desk_record 4 (1 ∷ (atom 255 255 ++ atom 0 0)) ≡ false) × (is_desk_record 4 (1 ∷ (atom 0 0 ++ atom 255 0)) ≡ false)
    × (is_desk_record 4 (1 ∷ atom 255 0) ≡ false)
    × (covers_answer 4 plain (one 0 128) ≡ 1) × (covers_answer 4 (one 0 128) plain ≡ 0)
    × (covers_answer 4 asked constant ≡ 1) × (covers_answer 4 constant asked ≡ 0)
    × (covers_answer 4 plain constant ≡ 0) × (covers_answer 4 constant plain ≡ 0)
    × (covers_answer 4 asked twice ≡ 0) × (covers_answer 4 twice asked ≡ 0)
    × (covers_answer 4 (1 ∷ []) plain ≡ 2) × (covers_answer 4 plain (1 ∷ []) ≡ 3)
    × (covers_answer 4 (1 ∷ []) (1 ∷ []) ≡ 2)
    × (covers_answer 4 (0 ∷ []) plain ≡ 1) × (covers_answer 4 plain (0 ∷ []) ≡ 0)
    × (covers_answer 4 (0 ∷ []) (0 ∷ []) ≡ 1) × (covers_answer 4 (0 ∷ []) asked ≡ 0)
unfolding is_term unused used_first are_places is_relation is_atom are_atoms has_answer are_answer_places is_record is_desk_record desk_record asking_of term_of args_at
    atom_at atoms_at find_map first_map covers covers_answer
answers_hold =
    (refl, refl, refl, refl, refl, refl, refl, refl, refl, refl, refl, refl, refl, refl, refl, refl, refl, refl, refl, refl)

-- which of two is kept: the covering one, the first of two equivalent ones, or neither
pub keeping_holds : (which (desk_record 4 plain) (desk_record 4 (one 0 128)) ≡ the_first)
    × (which (desk_record 4 (one 0 128)) (desk_record 4 plain) ≡ the_second)
    × (which (desk_record 4 plain) (desk_record 4 (one 0 1)) ≡ the_first)
    × (which (desk_record 4 plain) (desk_record 4 asked) ≡ neither)
unfolding is_term unused used_first are_places is_relation is_atom are_atoms has_answer are_answer_places is_record is_desk_record desk_record asking_of term_of args_at
    atom_at atoms_at find_map first_map covers
keeping_holds = (refl, refl, refl, refl)

-- the map's bytes: c0 for v0 and 255 for the other 65; all 255 where the answer is not yes; of the one that is kept
pub maps_told : (covers_map 4 plain (one 0 128) ≡ 128 ∷ replicate 65 255) × (covers_map 4 (one 0 128) plain ≡ replicate 66 255)
    × (covers_map 4 [] plain ≡ replicate 66 255)
    × (kept_map 4 (one 0 128) plain ≡ 128 ∷ replicate 65 255) × (kept_map 4 plain asked ≡ replicate 66 255)
unfolding is_term unused used_first are_places is_relation is_atom are_atoms has_answer are_answer_places is_record is_desk_record desk_record asking_of term_of args_at
    atom_at atoms_at find_map first_map covers covers_map kept_map map_bytes
maps_told = (refl, refl, refl, refl, refl)
