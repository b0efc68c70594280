-- Questions of one relation p: the search and the bytes by computation, covering by its map. p(v0) covers p(c0), and
-- does not cover p(v0,v1). The desk's answers are in `Limits`. Assumes nothing.
use mathlib.Core.Path.{◌≡◌, refl, ap}
use mathlib.Core.Bool.{true, false}
use mathlib.Core.List.Memᴰ
use mathlib.Core.List.{List, [], ◌∷◌, ◌++◌}
use mathlib.Core.Option.{some}
use Prim.Native.Nat.{ℕ}
use Rattle.covering.specs.Lists.{bind}
use Rattle.covering.specs.Term.{Term, var, con, Question, Sub, on_atom}
use Rattle.covering.specs.Asking.{Asking}
use Rattle.covering.specs.Covers.{Sends, Covers, Equivalent, CoversAsking}
use Rattle.covering.specs.Search.{find_map, first_map, covers}
use Rattle.covering.specs.Form.{dedup}
use Rattle.covering.specs.Record.{desk, is_term, unused, used_first, are_places, is_relation, is_atom, are_atoms}
use Rattle.covering.specs.Record.{has_answer, are_answer_places, is_record, atom_bytes, record_bytes, asking_bytes}

-- p of these terms
abbrev p : List Term → Question
p ts = record { rel = 0; args = ts } ∷ []

abbrev general : Question
general = p (var 0 ∷ [])

abbrev special : Question
special = p (con 0 ∷ [])

abbrev wide : Question
wide = p (var 0 ∷ var 1 ∷ [])

abbrev twice : Question
twice = p (var 0 ∷ var 0 ∷ [])

-- p(v0,v1) p(v1,v2), and p(c0,c1) p(c1,c0)
abbrev path : Question
path = p (var 0 ∷ var 1 ∷ []) ++ p (var 1 ∷ var 2 ∷ [])

abbrev ring : Question
ring = p (con 0 ∷ con 1 ∷ []) ++ p (con 1 ∷ con 0 ∷ [])

-- of the path's two maps to the ring the first has v0 go to c0: its first atom is placed first
pub first_atom_first : bind (first_map path ring) (λ m. m 0) ≡ some (con 0)
unfolding find_map first_map
first_atom_first = refl

-- an atom goes to one with as many places; two variables may go to one term, one variable goes to one; of two
-- candidates the first is taken
pub maps_hold : (covers general wide ≡ false) × (covers wide twice ≡ true) × (covers twice wide ≡ false)
    × (bind (first_map general (special ++ p (con 1 ∷ []))) (λ m. m 0) ≡ some (con 0))
unfolding find_map first_map covers
maps_hold = (refl, refl, refl, refl)

-- p(t), to be has_answer with t
abbrev asked : Term → Asking
asked t = record { answer = t ∷ []; atoms = p (t ∷ []) }

-- equal atoms are one; the count byte is the number of atoms, and the answer record stands before them, uncounted
pub records_hold : (dedup (general ++ general) ≡ general)
    × (record_bytes (desk 4) general ≡ 1 ∷ 0 ∷ 0 ∷ 255 ∷ 255 ∷ 255 ∷ [])
    × (asking_bytes (desk 4) (asked (con 0)) ≡ 1 ∷ 255 ∷ 128 ∷ 255 ∷ 255 ∷ 255 ∷ 0 ∷ 128 ∷ 255 ∷ 255 ∷ 255 ∷ [])
unfolding atom_bytes record_bytes asking_bytes
records_hold = (refl, refl, refl)

-- a used place after a 255
pub gap_refused : is_record (desk 4) (1 ∷ 0 ∷ 0 ∷ 255 ∷ 0 ∷ 255 ∷ []) ≡ false
unfolding is_term unused used_first are_places is_relation is_atom are_atoms has_answer are_answer_places is_record
gap_refused = refl

-- every variable goes to c0
abbrev there : Sub
there n = con 0

general_sent : Sends there general special
general_sent a (Memᴰ.tail x4) = elim x4 [ ]
general_sent a (Memᴰ.head e) = Memᴰ.head (ap (on_atom there) e)

pub general_covers : Covers general special
general_covers = record { by = there; sends = general_sent }

pub asked_covers : CoversAsking (asked (var 0)) (asked (con 0))
asked_covers = record { by = there; answers = refl; sends = general_sent }

-- p(v0) and p(v1) are equivalent, by a map each way
abbrev all_to : ℕ → Sub
all_to k n = var k

sent : (k m : ℕ) → Sends (all_to k) (p (var m ∷ [])) (p (var k ∷ []))
sent k m a (Memᴰ.tail x4) = elim x4 [ ]
sent k m a (Memᴰ.head e) = Memᴰ.head (ap (on_atom (all_to k)) e)

pub renamed_equivalent : Equivalent (p (var 0 ∷ [])) (p (var 1 ∷ []))
renamed_equivalent = (record { by = all_to 1; sends = sent 1 0 }, record { by = all_to 0; sends = sent 0 1 })
