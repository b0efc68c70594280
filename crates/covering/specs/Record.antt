-- The member record: how a question stands in bytes (01, "Stored book", "Union as written", "The search desk's
-- covering"). "one count byte and its atoms, five bytes each"; "An atom is five bytes: relation number .., then four
-- places." The five and the four are a layout's numbers here: "atoms and answer records of seven bytes" (02, i) have six
-- places. With answer places (02, a) the answer record stands after the count byte, uncounted.
use Rattle.std.specs.Prelude.{Bool, true, false, cond, ◌&&◌, ◌||◌, List, [], ◌∷◌, ℕ, zero, suc, ◌+◌, ◌*◌, ◌-◌, ◌≤◌, ◌<◌, T, eqb, ltb, leb, length, get_or}
use Rattle.std.proofs.Math.Option.{Option, none, some}
use Rattle.covering.specs.Lists.{◌∈◌, gather}
use Rattle.covering.specs.Term.{Term, var, con, Atom, Question}
use Rattle.covering.specs.Asking.{Asking, answer_relation, answer_most, joined}

-- what a record keeps to; an atom of it may be an answer record, or may not
pub record Layout : Type 0 where
  pub atoms : ℕ
  pub relations : ℕ
  pub answers : Bool
  pub places : ℕ
  pub variables : ℕ
  pub constants : ℕ

-- "covering and evaluating are told the width" (02, i): how many places an atom has, four or six
abbrev pub old_places : ℕ
old_places = 4

abbrev pub new_places : ℕ
new_places = 6

abbrev pub is_width : ℕ → Bool
is_width w = eqb w old_places || eqb w new_places

-- "used with 0 to 63 or 128 to 254"; "in the desk's records 0 to 65" (02, i)
abbrev pub desk_variables : ℕ → ℕ
desk_variables w = cond (eqb w old_places) 64 66

-- "A record has 1 to 11 atoms .., relations 0 to 63, first one to four places used with 0 to 63 or 128 to 254"
abbrev pub desk : ℕ → Layout
desk w =
    record { atoms = 11; relations = 64; answers = false; places = w; variables = desk_variables w; constants = 127 }

-- what bytes of atoms with w places keep to, the answer record an atom as the others, the first of twelve. A record that
-- is not in its form yet has a question's variables, 48 of them, and a rule's.
abbrev pub holding : ℕ → Layout
holding w = record { atoms = 12; relations = 64; answers = true; places = w; variables = 96; constants = 127 }

-- what all the bytes inside keep to: six places, whatever a book or a record has
abbrev pub stored : Layout
stored = holding new_places

-- an atom's bytes: its relation number and its places
abbrev pub size : Layout → ℕ
size L = 1 + L.places

-- a record's bytes: "one count byte and its atoms, five bytes each"
abbrev pub width : Layout → ℕ → ℕ
width L n = 1 + n * size L

-- from bytes: "0 to 31 for a variable or 128 to 127 + C for a constant"
unfoldable pub term_of : ℕ → Term
term_of b = cond (ltb b 128) (var b) (con (b - 128))

-- the terms in the next w places from i on: those before the first 255
unfoldable pub args_at : List ℕ → ℕ → ℕ → List Term
args_at B i zero = []
args_at B i (suc w) = let r = term_of (get_or B i 0) ∷ args_at B (i + 1) w in cond (eqb (get_or B i 0) 255) [] r

unfoldable pub atom_at : Layout → List ℕ → ℕ → Atom
atom_at L B i = record { rel = get_or B i 0; args = args_at B (i + 1) L.places }

-- n atoms, one after the other, from i on
unfoldable pub atoms_at : Layout → List ℕ → ℕ → ℕ → Question
atoms_at L B i zero = []
atoms_at L B i (suc n) = atom_at L B i ∷ atoms_at L B (i + size L) n

-- the atoms that a record counts, from its count byte on
unfoldable pub question_of : Layout → List ℕ → Question
question_of L B = atoms_at L B 1 (get_or B 0 0)

-- "A leading record with relation byte 255": whether a record has one, and how many
unfoldable pub has_answer : List ℕ → Bool
has_answer B = eqb (get_or B 1 0) answer_relation

abbrev pub answers : List ℕ → ℕ
answers B = cond (has_answer B) 1 0

-- the question that a record holds: "Members carry it uncounted after the count byte"
unfoldable pub asking_of : Layout → List ℕ → Asking
asking_of L B =
    record {
      answer = cond (has_answer B) (args_at B 2 L.places) [];
      atoms = atoms_at L B (1 + answers B * size L) (get_or B 0 0);
    }

-- "used with 0 to 63 or 128 to 254"
unfoldable pub is_term : Layout → ℕ → Bool
is_term L b = ltb b L.variables || (leb 128 b && ltb b (128 + L.constants))

-- "the rest 255"
unfoldable pub unused : List ℕ → ℕ → ℕ → Bool
unused B i zero = true
unused B i (suc w) = eqb (get_or B i 0) 255 && unused B (i + 1) w

-- first some places used, then the rest 255
unfoldable pub used_first : Layout → List ℕ → ℕ → ℕ → Bool
used_first L B i zero = true
used_first L B i (suc w) = cond (is_term L (get_or B i 0)) (used_first L B (i + 1) w) (unused B i (suc w))

-- "first one to four places used .., the rest 255"
unfoldable pub are_places : Layout → List ℕ → ℕ → Bool
are_places L B i = is_term L (get_or B i 0) && used_first L B i L.places

-- "used places first and at least one used" of an answer record, "but still at most four answer places" (02, i)
unfoldable pub are_answer_places : Layout → List ℕ → ℕ → Bool
are_answer_places L B i = are_places L B i && unused B (i + answer_most) (L.places - answer_most)

-- "relations 0 to 63", and 255 where the layout has answer records
unfoldable pub is_relation : Layout → ℕ → Bool
is_relation L b = ltb b L.relations || (L.answers && eqb b answer_relation)

unfoldable pub is_atom : Layout → List ℕ → ℕ → Bool
is_atom L B i = is_relation L (get_or B i 0) && are_places L B (i + 1)

unfoldable pub are_atoms : Layout → List ℕ → ℕ → ℕ → Bool
are_atoms L B i zero = true
are_atoms L B i (suc n) = is_atom L B i && are_atoms L B (i + size L) n

-- "A record has .. to 11 atoms and exactly fitting length"; "The desk's records run 0 to 11" (02, c); "Desk records may
-- too" have an answer record (02, a): "used places first and at least one used"
unfoldable pub is_record : Layout → List ℕ → Bool
is_record L B =
    let n = get_or B 0 0 in
    let places = cond (has_answer B) (are_answer_places L B 2) true in
    leb n L.atoms
    && (eqb (length B) (width L (answers B + n)) && (places && are_atoms L B (1 + answers B * size L) n))

-- "another width than 4 or 6 makes every record .. malformed" (02, i)
unfoldable pub is_desk_record : ℕ → List ℕ → Bool
is_desk_record w B = is_width w && is_record (desk w) B

-- the question of a record whose atoms have w places, none if it is malformed
unfoldable pub desk_record : ℕ → List ℕ → Option Asking
desk_record w B = cond (is_desk_record w B) (some (asking_of (desk w) B)) none

-- what is known of a sound record that a buffer begins with: it may go on after the record
pub record SoundRecord (L : Layout) (B : List ℕ) : Type 0 where
  pub most : get_or B 0 0 ≤ L.atoms
  pub fits : width L (get_or B 0 0) ≤ length B
  pub atoms : T (are_atoms L B 1 (get_or B 0 0))

-- to bytes
abbrev pub byte_of : Term → ℕ
byte_of (var n) = n
byte_of (con c) = 128 + c

-- the terms in w places, the rest 255
abbrev pub places_bytes : ℕ → List Term → List ℕ
places_bytes zero ts = []
places_bytes (suc w) [] = 255 ∷ places_bytes w []
places_bytes (suc w) (t ∷ ts) = byte_of t ∷ places_bytes w ts

unfoldable pub atom_bytes : Layout → Atom → List ℕ
atom_bytes L a = a.rel ∷ places_bytes L.places a.args

-- a record that counts all its atoms
unfoldable pub record_bytes : Layout → Question → List ℕ
record_bytes L A = length A ∷ gather (atom_bytes L) A

-- a record with its answer record, if it has one, "uncounted after the count byte"
unfoldable pub asking_bytes : Layout → Asking → List ℕ
asking_bytes L q = length q.atoms ∷ gather (atom_bytes L) (joined q)

-- a question that a record can hold
abbrev pub TermFits : Layout → Term → Type 0
TermFits L (var n) = n < L.variables
TermFits L (con c) = c < L.constants

pub record AtomFits (L : Layout) (a : Atom) : Type 0 where
  pub relation : T (is_relation L a.rel)
  pub some_place : 1 ≤ length a.args
  pub places : length a.args ≤ L.places
  pub terms : (t : Term) → t ∈ a.args → TermFits L t

pub record Fits (L : Layout) (A : Question) : Type 0 where
  pub most : length A ≤ L.atoms
  pub each : (a : Atom) → a ∈ A → AtomFits L a

-- a question with or without answer places that a record can hold
pub record AskingFits (L : Layout) (q : Asking) : Type 0 where
  pub atoms : Fits L q.atoms
  pub places : length q.answer ≤ answer_most
  pub terms : (t : Term) → t ∈ q.answer → TermFits L t
