-- The choices that have their first p digits in common: their numbers are those from w(h + 1)^m to below (w + 1)(h + 1)^m,
-- where w is the number of the p digits and m digits follow. So what covers the left atoms of the p digits, atoms after
-- them that no head atom can meet, and the body, under their classes, covers every rewriting that is listed with such a
-- number (`prefix_covered`). Assumes nothing.
use mathlib.Core.Path.{◌≡◌, refl, sym, ◌∙◌, ap, subst}
use mathlib.Core.List.Memᴰ
use mathlib.Core.List.{List, [], ◌∷◌, ◌++◌, map}
use mathlib.Core.Option.{some, some-injective}
use Prim.Native.Nat.{ℕ, zero, suc, ◌+◌, ◌*◌, ◌-◌, ◌/◌, ◌≤◌, ◌<◌}
use native.Mathlib.Nat.{sub-zero, zero-mul, mul_assoc, add-mul, mul-le-mul_right, pow-zero, le_of_eq, div-eq_of_lt-le}
use native.Mathlib.Omega.{arith}
use lib.ListN.{length, length-append, get_elem?, take, drop, take-append-drop}
use lib.Seq.{length-take-le}
use Rattle.covering.specs.Covers.{Covers}
use Rattle.covering.specs.Lists.{◌∈◌, numbers}
use Rattle.covering.specs.Term.{Atom, Question, Sub, var}
use Rattle.covering.specs.Rule.{Rule}
use Rattle.covering.proofs.Lists.{numbers_below}
use Rattle.unification.specs.Classes.{unify}
use Rattle.unification.specs.Choice.{Choice, count, number, choices, left, pairing}
use Rattle.unification.specs.Step.{move, rewriting, listed}
use Rattle.unification.proofs.Choices.{choices_in}
use Rattle.unification.proofs.Collected.{gather_out, numbers_in}
use Rattle.unification.proofs.Extending.{extension_covered}
use Rattle.unification.proofs.Listed.{listed_out}
use Rattle.unification.proofs.Unrelated.{Unrelated, unmet_left}
use Rattle.unification.proofs.Numbers.{count_suc, choice_length, choices_numbers, choice_number, number_below}

-- there is at least one choice
pub count_some : (h n : ℕ) → 1 ≤ count h n
count_some h zero = le_of_eq (sym (pow-zero (suc h)))
count_some h (suc n) =
    let one = count_some h n in
    let two : count h (suc n) ≡ suc h * count h n = count_suc h n in
    let three : 1 * count h n ≤ suc h * count h n = mul-le-mul_right (count h n) (omega arith) in
    omega arith

pub count_add : (h m n : ℕ) → count h (m + n) ≡ count h m * count h n
count_add h zero n =
    let none : 0 + n ≡ n = omega arith in
    let one : count h 0 * count h n ≡ 1 * count h n = ap (λ (x : ℕ). x * count h n) (pow-zero (suc h)) in
    let same : 1 * count h n ≡ count h n = omega arith in
    ap (count h) none ∙ sym (one ∙ same)
count_add h (suc m) n =
    let more : suc m + n ≡ suc (m + n) = omega arith in
    ap (count h) more
    ∙ count_suc h (m + n)
    ∙ ap (λ (x : ℕ). suc h * x) (count_add h m n)
    ∙ sym (mul_assoc (suc h) (count h m) (count h n))
    ∙ ap (λ (x : ℕ). x * count h n) (sym (count_suc h m))

-- the number of a choice that goes on from the digits ds
pub number_extends : (h : ℕ) (ds es : Choice) → number h (ds ++ es) ≡ number h ds * count h (length es) + number h es
number_extends h [] es =
    let none : 0 * count h (length es) ≡ 0 = zero-mul (count h (length es)) in
    omega arith
number_extends h (d ∷ ds) es =
    let c = count h (length es) in
    let long : count h (length (ds ++ es)) ≡ count h (length ds) * c =
    ap (count h) (length-append ds es) ∙ count_add h (length ds) (length es) in
    let one : d * count h (length (ds ++ es)) ≡ d * count h (length ds) * c =
    ap (λ (x : ℕ). d * x) long ∙ sym (mul_assoc d (count h (length ds)) c) in
    let two : number h (ds ++ es) ≡ number h ds * c + number h es = number_extends h ds es in
    let three : (d * count h (length ds) + number h ds) * c ≡ d * count h (length ds) * c + number h ds * c =
    add-mul (d * count h (length ds)) (number h ds) c in
    omega arith

-- a choice has a first digit, and the rest is a choice
pub record Split (h n : ℕ) (cs : Choice) : Type 0 where
  pub digit : ℕ
  pub rest : Choice
  pub small : digit ≤ h
  pub rest_in : rest ∈ choices h n
  pub is : cs ≡ digit ∷ rest

pub choice_split : (h n : ℕ) (cs : Choice) → cs ∈ choices h (suc n) → Split h n cs
choice_split h n cs m = go (gather_out (λ d. map (λ es. d ∷ es) (choices h n)) (numbers 0 (suc h)) m)
  where
    at : (d : ℕ) → d < 0 + suc h → (es : Choice) × (es ∈ choices h n) × (d ∷ es ≡ cs) → Split h n cs
    at d k x = record { digit = d; rest = x.0; small = omega arith; rest_in = x.1; is = sym x.2 }

    go : (d : ℕ) × (d ∈ numbers 0 (suc h)) × (cs ∈ map (λ es. d ∷ es) (choices h n)) → Split h n cs
    go x = at x.0 (numbers_below 0 (suc h) x.0 x.1) (Memᴰ.of_map (λ es. x.0 ∷ es) (choices h n) x.2)

-- its digits from the j-th on are one too
pub choice_drop : (h n j : ℕ) (cs : Choice) → j ≤ n → cs ∈ choices h n → drop j cs ∈ choices h (n - j)
choice_drop h n zero cs l m = subst (λ (i : ℕ). cs ∈ choices h i) (sym (sub-zero n)) m
choice_drop h zero (suc j) cs l m = absurd (omega arith)
choice_drop h (suc n) (suc j) cs l m =
    let x = choice_split h n cs m in
    let less : suc n - suc j ≡ n - j = omega arith in
    subst (λ (es : Choice). drop (suc j) es ∈ choices h (suc n - suc j)) (sym x.is)
    (subst (λ (i : ℕ). drop j x.rest ∈ choices h i) (sym less)
    (choice_drop h n j x.rest (omega arith) x.rest_in))

-- and its first j digits
pub choice_take : (h n j : ℕ) (cs : Choice) → j ≤ n → cs ∈ choices h n → take j cs ∈ choices h j
choice_take h n zero cs l m = Memᴰ.head refl
choice_take h zero (suc j) cs l m = absurd (omega arith)
choice_take h (suc n) (suc j) cs l m =
    let x = choice_split h n cs m in
    subst (λ (es : Choice). take (suc j) es ∈ choices h (suc j)) (sym x.is)
    (choices_in h j x.digit (take j x.rest) x.small
    (choice_take h n j x.rest (omega arith) x.rest_in))

-- each number below the count is a choice's
pub record Numbered (h n c : ℕ) : Type 0 where
  pub choice : Choice
  pub among : choice ∈ choices h n
  pub place : number h choice ≡ c

pub numbered : (h n c : ℕ) → c < count h n → Numbered h n c
numbered h n c l =
    let x =
    Memᴰ.of_map (number h) (choices h n)
    (subst (λ (ns : List ℕ). c ∈ ns) (sym (choices_numbers h n)) (numbers_in 0 (count h n) c (omega arith) (omega arith))) in
    record { choice = x.0; among = x.1; place = x.2 }

-- a choice is known by its number
pub number_one : (h n : ℕ) (ds es : Choice) → ds ∈ choices h n → es ∈ choices h n → number h ds ≡ number h es → ds ≡ es
number_one h n ds es m k e =
    some-injective ds es
    (sym (choice_number h n ds m) ∙ ap (get_elem? (choices h n)) e ∙ choice_number h n es k)

-- the number of its first p digits, m digits being still to come
pub number_taken : (h m p : ℕ) (cs : Choice) → cs ∈ choices h (p + m) → number h (take p cs) ≡ number h cs / count h m
number_taken h m p cs among =
    let rest_in = choice_drop h (p + m) p cs (omega arith) among in
    let rest : p + m - p ≡ m = omega arith in
    let long : length (drop p cs) ≡ m = choice_length h (p + m - p) (drop p cs) rest_in ∙ rest in
    let is : number h cs ≡ number h (take p cs) * count h m + number h (drop p cs) =
    ap (number h) (sym (take-append-drop p cs))
    ∙ number_extends h (take p cs) (drop p cs)
    ∙ ap (λ (n : ℕ). number h (take p cs) * count h n + number h (drop p cs)) long in
    let less : number h (drop p cs) < count h m =
    subst (λ (n : ℕ). number h (drop p cs) < count h n) rest (number_below h (p + m - p) (drop p cs) rest_in) in
    let more = add-mul (number h (take p cs)) 1 (count h m) in
    sym (div-eq_of_lt-le (count h m) (omega arith) (omega arith))

-- what covers the left atoms of the first p digits of the choice cs, unmet atoms X and the body, under their classes
module _ (k : ℕ) (r : Rule) (Q : Question) (p m : ℕ) (whole : length Q ≡ p + m) (cs : Choice)
    (among : cs ∈ choices (length r.head) (length Q)) (σ : Sub)
    (found : unify (pairing (take p cs) (take p Q) (move k r).head) var ≡ some σ)
    (X : Question) (unmet : (a : Atom) → a ∈ X → (a ∈ Q) × Unrelated (a ∷ []) r.head)
    (M : Question) (c : Covers M (rewriting σ (left (take p cs) (take p Q) ++ X) (move k r)))
  where
    abbrev h : ℕ
    h = length r.head

    abbrev each : ℕ
    each = count h m

    as_long : (es : Choice) → es ∈ choices h (length Q) → es ∈ choices h (p + m)
    as_long es = subst (λ (n : ℕ). es ∈ choices h n) whole

    begun_length : length (take p cs) ≡ length (take p Q)
    begun_length =
        length-take-le p cs (omega (arith, choice_length h (length Q) cs among)) ∙ sym (length-take-le p Q (omega arith))

    -- a choice whose number is in the same interval begins with the same digits
    begins : (es : Choice) → es ∈ choices h (length Q) → number h es / each ≡ number h cs / each → take p es ≡ take p cs
    begins es n e =
        number_one h p (take p es) (take p cs)
        (choice_take h (p + m) p es (omega arith) (as_long es n))
        (choice_take h (p + m) p cs (omega arith) (as_long cs among))
        (number_taken h m p es (as_long es n) ∙ e ∙ sym (number_taken h m p cs (as_long cs among)))

    -- covers every rewriting that is listed with a number of the interval in which cs has its own
    pub prefix_covered : (n : ℕ) (P : Question) → (n, P) ∈ listed k r Q
        → number h cs / each * each ≤ n → n < (number h cs / each + 1) * each → Covers M P
    prefix_covered n P i low high =
        let w = listed_out (subst (λ (A : Question). (n, P) ∈ listed k r A) (sym split) i) in
        extension_covered k r (take p Q) (drop p Q) (take p cs) σ begun_length found w (drop p w.choice)
        (sym (take-append-drop p w.choice)
        ∙ ap (λ (es : Choice). es ++ drop p w.choice)
        (begins w.choice (subst (λ (A : Question). w.choice ∈ choices h (length A)) split w.among)
        (ap (λ (x : ℕ). x / each) w.place ∙ div-eq_of_lt-le each low high)))
        X
        (λ a x.
        let u = unmet a x in
        unmet_left k r (take p Q ++ drop p Q) w a (subst (λ (A : Question). a ∈ A) (sym split) u.0) u.1)
        M c
      where
        split : take p Q ++ drop p Q ≡ Q
        split = take-append-drop p Q
