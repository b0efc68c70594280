-- Laws of sets of relations (`specs/Relations`): a set has what was joined to it, so that a question some of whose
-- relations are not in the set of another's does not cover it. Assumes nothing.
use mathlib.Core.Path.{◌≡◌, refl, sym, ◌∙◌, ap, ap₂, subst}
use mathlib.Core.Bool.{false}
use mathlib.Core.List.Memᴰ
use mathlib.Core.List.{List, [], ◌∷◌}
use Prim.Native.Nat.{ℕ, suc, zero, ◌+◌, ◌*◌, ◌/◌, ◌%◌, ◌^◌, ◌<◌, ◌≤◌, max, suc-le-suc}
use native.Mathlib.Omega.{arith}
use native.Mathlib.Nat.{div_self, mod-lt, one-mul, zero-div, add-zero, div-add-mod', max-zero, zero-max, suc-max-suc, max-le}
use native.Mathlib.Nat.{le_of_suc-le-suc}
use lib.Arith.{bin_ind, digits_div, digits_mod}
use lib.Dec.{T, eqb, eqb→eq}
use lib.Bits.{bit_or, bit_and, or_step, or_block, or_shr, or_mod, or_comm, and_shr, and_mod}
use lib.ListN.{get_or}
use lib.Pow.{pow_pos, shl_exact, split}
use borrow.Author.Tests.{eq-eqb}
use Rattle.covering.specs.Lists.{◌∈◌}
use Rattle.covering.specs.Term.{Atom, Question}
use Rattle.covering.specs.Search.{covers}
use Rattle.covering.specs.Record.{stored, atom_at, atoms_at}
use Rattle.covering.proofs.Places.{relation_at}
use Rattle.covering.proofs.Relations.{relations_first}
use Rattle.covering.proofs.Tests.{true→T, no→false, false→no, fst_of, snd_of}
use Rattle.std.specs.List.{list_all, range_with_len}
use Rattle.records.proofs.Each.{atoms_all}
use Rattle.records.proofs.Onward.{from, from_more, from_none}
use Rattle.records.specs.Relations.{digit_of, is_in, joined_to, relations_of, are_in, is_part}

-- digit k of two numbers' bits together, and that it is 1 where that of the first is
or_digit : (a b k : ℕ) → bit_or a b / 2 ^ k % 2 ≡ bit_or (a / 2 ^ k % 2) (b / 2 ^ k % 2)
or_digit a b k = ap (λ (x : ℕ). x % 2) (or_shr a b k) ∙ or_mod (a / 2 ^ k) (b / 2 ^ k) 1

one_or : (d : ℕ) → d < 2 → bit_or 1 d ≡ 1
one_or zero h = refl
one_or (suc zero) h = refl
one_or (suc (suc d)) h = absurd (omega arith)

one_stays : (a b k : ℕ) → a / 2 ^ k % 2 ≡ 1 → bit_or a b / 2 ^ k % 2 ≡ 1
one_stays a b k e =
    or_digit a b k ∙ ap (λ (d : ℕ). bit_or d (b / 2 ^ k % 2)) e ∙ one_or (b / 2 ^ k % 2) (mod-lt (b / 2 ^ k) (omega arith))

-- what is in a set stays in it, and what is joined to it is in it
stays_in : (s m n : ℕ) → T (is_in s n) → T (is_in (bit_or s (digit_of m)) n)
unfolding is_in digit_of
stays_in s m n t = true→T _ (eq-eqb _ 1 (one_stays s (2 ^ (m % 64)) (n % 64) (eqb→eq _ 1 t)))

joined_in : (s n : ℕ) → T (is_in (bit_or s (digit_of n)) n)
unfolding is_in digit_of
joined_in s n =
    true→T _ (eq-eqb _ 1 (ap (λ (x : ℕ). x / 2 ^ k % 2) (or_comm s (2 ^ k)) ∙ one_stays (2 ^ k) s k own))
  where
    k : ℕ
    k = n % 64

    own : 2 ^ k / 2 ^ k % 2 ≡ 1
    own = ap (λ (x : ℕ). x % 2) (div_self (pow_pos k))

all_stay : (A : Question) (s n : ℕ) → T (is_in s n) → T (is_in (joined_to s A) n)
unfolding joined_to
all_stay [] s n t = t
all_stay (a ∷ A) s n t = all_stay A (bit_or s (digit_of a.rel)) n (stays_in s a.rel n t)

all_in : (a : Atom) (A : Question) (s : ℕ) → a ∈ A → T (is_in (joined_to s A) a.rel)
unfolding joined_to
all_in a A s (Memᴰ.head {x = b} {xs = B} e) =
    subst (λ (n : ℕ). T (is_in (joined_to s (b ∷ B)) n)) (ap (λ (x : Atom). x.rel) (sym e))
    (all_stay B (bit_or s (digit_of b.rel)) b.rel (joined_in s b.rel))
all_in a A s (Memᴰ.tail {x = b} {xs = B} m) = all_in a B (bit_or s (digit_of b.rel)) m

-- a relation of A that is not in the set of B's stands nowhere in B, so A does not cover B
pub not_among : (A B : Question) {s : ℕ} → s ≡ relations_of B → are_in s A ≡ false → covers A B ≡ false
unfolding are_in relations_of
not_among A B {s} h e = relations_first A B (is_in s) (λ b m. rw h (all_in b B 0 m)) e

-- the digits of three numbers together, in either order
max_three : (x y z : ℕ) → max (max x y) z ≡ max x (max y z)
max_three zero y z = rw (zero-max y, zero-max (max y z))
max_three (suc x) zero z = rw (max-zero (suc x), zero-max z)
max_three (suc x) (suc y) zero = rw (max-zero (suc y), max-zero (max (suc x) (suc y)))
max_three (suc x) (suc y) (suc z) =
    rw (suc-max-suc x y, suc-max-suc (max x y) z, suc-max-suc y z, suc-max-suc x (max y z)) (ap suc (max_three x y z))

or_last : (a b : ℕ) → max (a % 2) (b % 2) < 2
or_last a b = suc-le-suc (max-le (le_of_suc-le-suc (mod-lt a two)) (le_of_suc-le-suc (mod-lt b two)))
  where
    two : 0 < 2
    two = omega arith

or_half : (a b : ℕ) → bit_or a b / 2 ≡ bit_or (a / 2) (b / 2)
or_half a b = ap (λ (x : ℕ). x / 2) (or_step a b) ∙ digits_div (bit_or (a / 2) (b / 2)) (or_last a b)

or_odd : (a b : ℕ) → bit_or a b % 2 ≡ max (a % 2) (b % 2)
or_odd a b = ap (λ (x : ℕ). x % 2) (or_step a b) ∙ digits_mod (bit_or (a / 2) (b / 2)) (or_last a b)

or_three : (a b c : ℕ) → bit_or (bit_or a b) c ≡ bit_or a (bit_or b c)
or_three =
    bin_ind (λ (n : ℕ). (b c : ℕ) → bit_or (bit_or n b) c ≡ bit_or n (bit_or b c)) (λ b c. refl)
    (λ n ih b c.
    or_step (bit_or n b) c
    ∙ ap₂ (λ (x y : ℕ). x * 2 + y)
    (ap (λ (x : ℕ). bit_or x (c / 2)) (or_half n b) ∙ ih (b / 2) (c / 2) ∙ ap (bit_or (n / 2)) (sym (or_half b c)))
    (ap (λ (x : ℕ). max x (c % 2)) (or_odd n b)
    ∙ max_three (n % 2) (b % 2) (c % 2)
    ∙ ap (max (n % 2)) (sym (or_odd b c)))
    ∙ sym (or_step n (bit_or b c)))

-- a set that has a digit is the same with it
odd_or : (h : ℕ) → h % 2 ≡ 1 → bit_or 1 h ≡ h
odd_or h e =
    or_step 1 h ∙ ap (λ (d : ℕ). h / 2 * 2 + max 1 d) e ∙ ap (λ (d : ℕ). h / 2 * 2 + d) (sym e) ∙ div-add-mod' h 2

has_digit : (t k : ℕ) → t / 2 ^ k % 2 ≡ 1 → bit_or (2 ^ k) t ≡ t
has_digit t k e =
    ap₂ bit_or (sym (add-zero (1 * 2 ^ k) ∙ one-mul (2 ^ k))) (sym (split t k))
    ∙ or_block k 1 (t / 2 ^ k) 0 (t % 2 ^ k) (pow_pos k) (mod-lt t (pow_pos k))
    ∙ ap (λ (x : ℕ). x * 2 ^ k + t % 2 ^ k) (odd_or (t / 2 ^ k) e)
    ∙ split t k

has_relation : (t n : ℕ) → T (is_in t n) → bit_or (digit_of n) t ≡ t
unfolding is_in digit_of
has_relation t n i = has_digit t (n % 64) (eqb→eq _ 1 i)

-- where all relations of A are in a set, A's set is a part of it
all_part : (A : Question) (s t : ℕ) → bit_or s t ≡ t → T (are_in t A) → bit_or (joined_to s A) t ≡ t
unfolding joined_to are_in
all_part [] s t e i = e
all_part (a ∷ A) s t e i =
    let here = fst_of (is_in t a.rel) (are_in t A) i in
    all_part A (bit_or s (digit_of a.rel)) t
    (or_three s (digit_of a.rel) t ∙ ap (bit_or s) (has_relation t a.rel here) ∙ e)
    (snd_of (is_in t a.rel) (are_in t A) i)

-- so that A does not cover B where A's set is not a part of B's
pub not_part : (A B : Question) {s t : ℕ} → s ≡ relations_of A → t ≡ relations_of B → is_part s t ≡ false
    → covers A B ≡ false
unfolding relations_of is_part
not_part A B {s} {t} h g e =
    not_among A B g
    (no→false (are_in t A)
    (λ i. false→no _ e (true→T _ (eq-eqb _ t (ap (λ (x : ℕ). bit_or x t) h ∙ all_part A 0 t refl i)))))

-- where two sets have no digit in common, no relation stands in both questions
and_digit : (a b k : ℕ) → a / 2 ^ k % 2 ≡ 1 → b / 2 ^ k % 2 ≡ 1 → bit_and a b / 2 ^ k % 2 ≡ 1
and_digit a b k e f =
    ap (λ (x : ℕ). x % 2) (and_shr a b k)
    ∙ and_mod (a / 2 ^ k) (b / 2 ^ k) 1
    ∙ ap (λ (d : ℕ). bit_and d (b / 2 ^ k % 2)) e
    ∙ ap (bit_and 1) f

both_in : (s t n : ℕ) → T (is_in s n) → T (is_in t n) → bit_and s t ≡ 0 → ⊥
unfolding is_in digit_of
both_in s t n p q e = absurd (apart (sym (none (n % 64)) ∙ and_digit s t (n % 64) (eqb→eq _ 1 p) (eqb→eq _ 1 q)))
  where
    none : (k : ℕ) → bit_and s t / 2 ^ k % 2 ≡ 0
    none k = ap (λ (x : ℕ). x / 2 ^ k % 2) e ∙ ap (λ (x : ℕ). x % 2) (zero-div (2 ^ k))

    apart : (zero ≡ suc zero) → ⊥
    apart x = omega (arith, x)

pub none_in_both : (A B : Question) → bit_and (relations_of A) (relations_of B) ≡ 0
    → (a b : Atom) → a ∈ A → b ∈ B → a.rel ≡ b.rel → ⊥
unfolding relations_of
none_in_both A B e a b m n r =
    both_in (joined_to 0 A) (joined_to 0 B) b.rel
    (subst (λ (x : ℕ). T (is_in (joined_to 0 A) x)) r (all_in a A 0 m))
    (all_in b B 0 n) e

-- the digit of a relation as the code makes it: nothing is shifted out
digit_shifted : (n : ℕ) → 1 * 2 ^ (n % 64) % 2 ^ 64 ≡ digit_of n
unfolding digit_of
digit_shifted n =
    shl_exact 1 (n % 64) 64 (omega arith) (omega arith) ∙ one-mul (2 ^ (n % 64))

-- the relations of n atoms, of which k are passed: joined to a set
module _ (B : List ℕ) (i n s k : ℕ) where
  pub joined_more : k < n
      → joined_to s (from stored B i n k)
      ≡ joined_to (bit_or s (1 * 2 ^ (get_or B (i + k * 7) 0 % 64) % 2 ^ 64)) (from stored B i n (k + 1))
  unfolding joined_to
  joined_more lt = rw (from_more stored B i n k lt, relation_at stored B, digit_shifted (get_or B (i + k * 7) 0))

  pub joined_none : n ≤ k → joined_to s (from stored B i n k) ≡ s
  unfolding joined_to
  joined_none h = rw (from_none stored B i n k h)

-- and whether each is in it
pub each_in : (B : List ℕ) (i n s : ℕ)
    → list_all (λ k. eqb (s / 2 ^ (get_or B (i + k * 7) 0 % 64) % 2) 1) (range_with_len 0 n)
    ≡ are_in s (atoms_at stored B i n)
unfolding are_in is_in digit_of atom_at
each_in B i n s = atoms_all stored B i n (λ a. is_in s a.rel)
