-- How long what is printed can be: a term, an atom, a member of at most 8 atoms, a result. Assumes nothing.
use mathlib.Core.Path.{◌≡◌, refl, ap}
use mathlib.Core.List.Memᴰ
use mathlib.Core.List.{List, [], ◌∷◌, ◌++◌}
use Prim.Native.Nat.{ℕ, ◌+◌, ◌*◌, ◌^◌, ◌≤◌, ◌<◌}
use native.Mathlib.Omega.{arith}
use mathlib.Core.Logic.{◌⊎◌, inl, inr}
use lib.Dec.{T}
use lib.ListN.{length, length-append}
use Rattle.covering.specs.Lists.{◌∈◌, gather}
use Rattle.covering.specs.Term.{Term, var, con, Atom, Question}
use Rattle.covering.specs.Asking.{answer_relation, asking}
use Rattle.covering.specs.Record.{stored, is_relation, TermFits, AtomFits, Fits}
use Rattle.covering.proofs.Bytes.{relation_cases}
use Rattle.reading.specs.declared.Reason.{Reason}
use Rattle.reading.specs.declared.Reason.TheVariants.{ShortOutput, ShortBook, OutsideTable, WrongOffset, WrongRelation, WrongRule}
use Rattle.reading.specs.declared.Reason.TheVariants.{WrongByte, TooLong, NoRoom, NoneLeft, LooseAnswer, NoOldForm}
use Rattle.reading.specs.Told.{number_of}
use Rattle.exploration.specs.Answer.{union, refusal}
use Rattle.printing.specs.Printed.{ascii, marked, separated, term_text, relation_text, atom_text, member_line, line}
use Rattle.printing.specs.Printed.{printed, always_text}
use Rattle.printing.specs.Answer.{text_size}
use Rattle.printing.proofs.Decimal.{decimal_most}
use Rattle.printing.proofs.Texts.{var_text, con_text, answer_text, numbered_text, line_length}

module _ {A : Type 0} where
  gather_most : (f : A → List ℕ) (k : ℕ) (xs : List A) → ((x : A) → x ∈ xs → length (f x) ≤ k)
      → length (gather f xs) ≤ length xs * k
  gather_most f k [] h = omega arith
  gather_most f k (x ∷ xs) h =
      let one = h x (Memᴰ.head refl) in
      let more = gather_most f k xs (λ y m. h y (Memᴰ.tail m)) in
      omega (arith, length-append (f x) (gather f xs))

  separated_marked : (mark : List ℕ) (shown : A → List ℕ) (xs : List A)
      → length (separated mark shown xs) ≤ length (marked mark shown xs)
  separated_marked mark shown [] = omega arith
  separated_marked mark shown (x ∷ xs) =
      omega (
        arith,
        length-append (shown x) (marked mark shown xs),
        length-append (mark ++ shown x) (marked mark shown xs),
        length-append mark (shown x),
      )

  separated_most : (mark : List ℕ) (shown : A → List ℕ) (k : ℕ) (xs : List A)
      → ((x : A) → x ∈ xs → length (shown x) ≤ k) → length (separated mark shown xs) ≤ length xs * (length mark + k)
  separated_most mark shown k xs h =
      let all =
      gather_most (λ x. mark ++ shown x) (length mark + k) xs
      (λ x m. let one = h x m in omega (arith, length-append mark (shown x))) in
      omega (arith, separated_marked mark shown xs)

-- "v95", "c126"
term_most : (t : Term) → TermFits stored t → length (term_text t) ≤ 4
term_most (var n) h = let d = decimal_most 1 n (omega arith) in omega (arith, ap length (var_text n))
term_most (con c) h = let d = decimal_most 2 c (omega arith) in omega (arith, ap length (con_text c))

-- "r63", "a"
relation_most : (r : ℕ) → T (is_relation stored r) → length (relation_text r) ≤ 3
relation_most r t = go (relation_cases stored r t)
  where
    below : r < 64 → length (relation_text r) ≤ 3
    below h = let d = decimal_most 1 r (omega arith) in omega (arith, ap length (numbered_text r r (λ e. omega arith) refl))

    go : (r < 64) ⊎ (r ≡ answer_relation) → length (relation_text r) ≤ 3
    go (inl h) = below h
    go (inr e) = omega (arith, ap length (answer_text r e))

atom_is : (a : Atom)
    → atom_text a ≡ relation_text a.rel ++ (ascii "(" ++ (separated (ascii ",") term_text a.args ++ ascii ")"))
unfolding atom_text
atom_is a = refl

atom_most : (a : Atom) → AtomFits stored a → length (atom_text a) ≤ 35
atom_most a f =
    let r = relation_most a.rel f.relation in
    let ts = separated (ascii ",") term_text a.args in
    let t = separated_most (ascii ",") term_text 4 a.args (λ x m. term_most x (f.terms x m)) in
    omega (
      arith,
      ap length (atom_is a),
      length-append (relation_text a.rel) (ascii "(" ++ (ts ++ ascii ")")),
      length-append ts (ascii ")"),
      f.places,
    )

always_most : (ts : List Term) (A : Question) → length (always_text ts A) ≤ 7
always_most ts (a ∷ A) = omega arith
always_most [] [] = omega arith
always_most (t ∷ ts) [] = omega arith

member_is : (M : Question)
    → member_line M
    ≡ separated (ascii " ") atom_text M ++ (always_text (asking M).answer (asking M).atoms ++ ascii "\n")
unfolding member_line
member_is M = refl

member_most : (M : Question) → Fits stored M → length M ≤ 9 → length (member_line M) ≤ 332
member_most M f few =
    let t = separated_most (ascii " ") atom_text 35 M (λ a m. atom_most a (f.each a m)) in
    let e = always_text (asking M).answer (asking M).atoms in
    omega (
      arith,
      ap length (member_is M),
      length-append (separated (ascii " ") atom_text M) (e ++ ascii "\n"),
      length-append e (ascii "\n"),
      always_most (asking M).answer (asking M).atoms,
    )

-- "at most .. 64" members of 8 atoms, "L .. 1,000"
pub union_most : (U : List Question) (n : ℕ) → length U ≤ 64 → n ≤ 1000
    → ((M : Question) → M ∈ U → Fits stored M) → ((M : Question) → M ∈ U → length M ≤ 9)
    → length (printed (union U n)) ≤ text_size
union_most U n few allowed fits short =
    let a = decimal_most 1 (length U) (omega arith) in
    let b = decimal_most 3 n (omega arith) in
    let c = gather_most member_line 332 U (λ M m. member_most M (fits M m) (short M m)) in
    omega (
      arith,
      line_length (ascii "members ") (length U) (ascii " explored ") n,
      length-append (line (ascii "members ") (length U) (ascii " explored ") n) (gather member_line U),
    )

-- a number of the answer's width, and a place of it
pub refusal_most : (n p : ℕ) → n < 256 → p < 2 ^ 64 → length (printed (refusal n p)) ≤ text_size
refusal_most n p small fits =
    let a = decimal_most 2 n (omega arith) in
    let b = decimal_most 19 p (omega arith) in
    omega (arith, line_length (ascii "refused ") n (ascii " at ") p)

-- a reason's number has that width
pub number_small : (r : Reason) → number_of r < 256
number_small ShortOutput = omega arith
number_small ShortBook = omega arith
number_small OutsideTable = omega arith
number_small WrongOffset = omega arith
number_small WrongRelation = omega arith
number_small WrongRule = omega arith
number_small WrongByte = omega arith
number_small TooLong = omega arith
number_small NoRoom = omega arith
number_small NoneLeft = omega arith
number_small LooseAnswer = omega arith
number_small NoOldForm = omega arith
