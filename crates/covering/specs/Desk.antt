-- The search desk's operations (01, "The search desk's covering"), for records of either width (02, i): w is how many
-- places an atom of them has.
use Rattle.std.specs.Prelude.{◌≡◌, Bool, cond, List, [], ℕ, eqb, length}
use Rattle.std.proofs.Math.Option.{Option, none, some}
use Rattle.std.specs.Borrow.{Bor}
use Rattle.covering.specs.Lists.{is_some}
use Rattle.covering.specs.Asking.{Asking, joined}
use Rattle.covering.specs.Search.{Part, first_map}
use Rattle.covering.specs.Record.{desk_record}
use Rattle.covering.specs.FirstMap.{map_or}

-- "Covering is to give the map it found" (02, f): the first of all, or none. Conjunctions do not tell that "only one
-- does", have answer places: p(v0) covers a(c0) p(c0) as they do; so this is a test of its own.
abbrev pub covering_map : Asking → Asking → Option Part
covering_map p q = cond (eqb (length p.answer) (length q.answer)) (first_map (joined p) (joined q)) none

-- whether one covers the other (`CoversAsking`, `proofs/AnsweredCovers`)
abbrev pub covers_asking : Asking → Asking → Bool
covers_asking p q = is_some (covering_map p q)

-- "0 no, 1 yes, 2 first malformed, 3 second malformed; 2 wins"
abbrev pub covers_number : Option Asking → Option Asking → ℕ
covers_number none b = 2
covers_number (some p) none = 3
covers_number (some p) (some q) = cond (covers_asking p q) 1 0

-- "It takes two member records and answers if the first covers the second"
unfoldable pub covers_answer : ℕ → List ℕ → List ℕ → ℕ
covers_answer w first second = covers_number (desk_record w first) (desk_record w second)

abbrev pub found_map : Option Asking → Option Asking → Option Part
found_map none b = none
found_map (some p) none = none
found_map (some p) (some q) = covering_map p q

-- "Variables run .. in the desk's records 0 to 65" (02, i): the bytes of a map, whatever the width
abbrev pub map_size : ℕ
map_size = 66

-- and the map, a byte for each variable of the first record; 255 for all where the answer is not yes
unfoldable pub covers_map : ℕ → List ℕ → List ℕ → List ℕ
covers_map w first second = map_or map_size (found_map (desk_record w first) (desk_record w second))

-- "The desk also asks which of two records to keep"
pub data Chosen : Type 0 where
  the_first : Chosen
  the_second : Chosen
  neither : Chosen

-- "the covering one is handed back ..  Equivalent records give the first. Malformed or incomparable ones give the
-- empty part"
abbrev pub which : Option Asking → Option Asking → Chosen
which none b = neither
which (some p) none = neither
which (some p) (some q) = cond (covers_asking p q) the_first (cond (covers_asking q p) the_second neither)

-- the same as a number, where no part can be handed back: 0 neither, 1 the first, 2 the second
abbrev pub chosen_number : Chosen → ℕ
chosen_number neither = 0
chosen_number the_first = 1
chosen_number the_second = 2

unfoldable pub kept_answer : ℕ → List ℕ → List ℕ → ℕ
kept_answer w first second = chosen_number (which (desk_record w first) (desk_record w second))

-- the map by which the one that is kept covers the other
abbrev pub chosen_map : Chosen → Option Asking → Option Asking → Option Part
chosen_map the_first a b = found_map a b
chosen_map the_second a b = found_map b a
chosen_map neither a b = none

unfoldable pub kept_map : ℕ → List ℕ → List ℕ → List ℕ
kept_map w first second =
    let a = desk_record w first in
    let b = desk_record w second in
    map_or map_size (chosen_map (which a b) a b)

abbrev pub kept_bytes : Chosen → List ℕ → List ℕ → List ℕ
kept_bytes the_first a b = a
kept_bytes the_second a b = b
kept_bytes neither a b = []

-- "as a part of its own buffer"; "the empty part at the first's start". A place is a block of memory and an offset in
-- it.
abbrev pub kept_place : Chosen → ℕ × ℕ → ℕ × ℕ → ℕ × ℕ
kept_place the_first p q = p
kept_place the_second p q = q
kept_place neither p q = p

pub record Keeps (w : ℕ) (first second r : Bor (List ℕ)) : Type 0 where
  pub bytes : r.now ≡ kept_bytes (which (desk_record w first.now) (desk_record w second.now)) first.now second.now
  pub place : r.ref_ptr ≡ kept_place (which (desk_record w first.now) (desk_record w second.now)) first.ref_ptr second.ref_ptr
