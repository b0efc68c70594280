-- Choices (01, "One-step rewritings"): "A choice gives each of the n question atoms a digit: 0 leaves it, 1 to h
-- sends it to that head atom." What it leaves, what it sends, and which terms it puts together.
use Rattle.std.specs.Prelude.{Bool, not, List, [], ◌∷◌, ◌++◌, map, ℕ, zero, suc, ◌+◌, ◌*◌, ◌^◌, ◌<◌, eqb, length}
use Rattle.covering.specs.Lists.{◌∈◌, any, gather, numbers}
use Rattle.covering.specs.Term.{Term, con, Atom, Question}
use Rattle.unification.specs.Classes.{Pair}

abbrev pub Choice : Type 0
Choice = List ℕ

-- "The counts (h + 1)^n"
abbrev pub count : ℕ → ℕ → ℕ
count h n = suc h ^ n

-- "as numbers in base h + 1, the first atom being the most significant digit"
abbrev pub number : ℕ → Choice → ℕ
number h [] = 0
number h (d ∷ ds) = d * count h (length ds) + number h ds

-- "Choices go in ascending order": for n atoms and h head atoms
abbrev pub choices : ℕ → ℕ → List Choice
choices h zero = [] ∷ []
choices h (suc n) = let r = choices h n in gather (λ d. map (λ ds. d ∷ ds) r) (numbers 0 (suc h))

-- numbers in ascending order, so that none stands twice
abbrev pub Ascending : List ℕ → Type 0
Ascending [] = Unit {0}
Ascending (n ∷ ns) = ((m : ℕ) → m ∈ ns → n < m) × Ascending ns

-- "At least one digit isn't 0."
abbrev pub some_sent : Choice → Bool
some_sent ds = any (λ d. not (eqb d 0)) ds

-- the left atoms: "0 leaves it"
abbrev pub left : Choice → Question → Question
left [] q = q
left (d ∷ ds) [] = []
left (zero ∷ ds) (a ∷ q) = a ∷ left ds q
left (suc d ∷ ds) (a ∷ q) = left ds q

-- the atoms that are sent
abbrev pub sent : Choice → Question → Question
sent [] q = []
sent (d ∷ ds) [] = []
sent (zero ∷ ds) (a ∷ q) = sent ds q
sent (suc d ∷ ds) (a ∷ q) = a ∷ sent ds q

-- a pair that never unifies, for what cannot be put together
abbrev pub never : List Pair
never = (con 0, con 1) ∷ []

-- "terms at equal places"
abbrev pub place_pairs : List Term → List Term → List Pair
place_pairs [] [] = []
place_pairs [] (u ∷ us) = never
place_pairs (t ∷ ts) [] = never
place_pairs (t ∷ ts) (u ∷ us) = (t, u) ∷ place_pairs ts us

-- "relations must agree": they are put together as constants are
abbrev pub atom_pairs : Atom → Atom → List Pair
atom_pairs a b = (con a.rel, con b.rel) ∷ place_pairs a.args b.args

-- the atom a with the head atom after the first d
abbrev pub to_head : Question → ℕ → Atom → List Pair
to_head [] d a = never
to_head (b ∷ h) zero a = atom_pairs a b
to_head (b ∷ h) (suc d) a = to_head h d a

-- what a choice of the question q and the head h puts together
abbrev pub pairing : Choice → Question → Question → List Pair
pairing [] q h = []
pairing (d ∷ ds) [] h = []
pairing (zero ∷ ds) (a ∷ q) h = pairing ds q h
pairing (suc d ∷ ds) (a ∷ q) h = to_head h d a ++ pairing ds q h
