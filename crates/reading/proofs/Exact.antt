-- The verdict is exactly right, for every list of bytes: "The smallest applicable number among 1 to 7 wins, and within
-- it the earliest place."; 11 comes after 7. Assumes nothing.
use mathlib.Core.Path.{◌≡◌, refl, sym, ◌∙◌, subst}
use mathlib.Core.Logic.{◌⊎◌, inl, inr, ⊎_elim}
use mathlib.Core.List.{List}
use mathlib.Core.Option.{Option, none}
use Prim.Native.Nat.{ℕ, ◌+◌, ◌≤◌, ◌<◌}
use native.Mathlib.Omega.{arith}
use lib.Dec.{T, leb}
use lib.ListN.{length}
use Rattle.reading.specs.Refusal.{Refusal}
use Rattle.reading.specs.Header.{header_size, relations, rules, question_at, header_of}
use Rattle.reading.specs.Book.{rules_start, rule_start}
use Rattle.reading.specs.Refusals.{Short, OutsideTable, OffsetWrong, PlacesWrong, RuleWrong, ByteWrong}
use Rattle.reading.specs.Refusals.{LooseVariable}
use Rattle.reading.specs.Refusals.{ApplicableToBook, two, three, four, five, six, seven, eleven}
use Rattle.reading.specs.Verdict.{accepted, NoLater, IsVerdict, sound, refused, unless, in_table, offsets_right}
use Rattle.reading.specs.Verdict.{wrong_places, wrong_rule, wrong_byte, loose_variable, refuse, contents, verdict}
use Rattle.reading.proofs.Earliest.{Earliest, nowhere, first, earliest_same, here_or_later}
use Rattle.reading.proofs.Conditions.{short_earliest, table_earliest, offsets_earliest, relation_earliest}
use Rattle.reading.proofs.Conditions.{rule_earliest, offsets_right_lem, unless_none, rules_end}
use Rattle.reading.proofs.ByteConditions.{byte_earliest, variable_earliest}

module _ (B : List ℕ) where
  -- the verdict among the numbers from n on
  data From (n : ℕ) (r : Refusal) : Type 0 where
    all_sound : r ≡ accepted → ((m p : ℕ) → n ≤ m → ApplicableToBook B m p → ⊥) → From n r
    one_refused : ApplicableToBook B r.number r.place
        → ((m q : ℕ) → n ≤ m → ApplicableToBook B m q → NoLater r m q) → From n r

  -- one number more, before the others
  step : (n : ℕ) {o : Option ℕ} (r : Refusal) → Earliest (ApplicableToBook B n) o → (o ≡ none → From (n + 1) r)
      → From n (refuse n o r)
  step n r (nowhere f) next = go (next refl)
    where
      not_here : (m p : ℕ) → (m ≡ n) → ApplicableToBook B m p → ⊥
      not_here m p e a = f p (subst (λ (k : ℕ). ApplicableToBook B k p) e a)

      go : From (n + 1) r → From n r
      go (all_sound e g) =
          all_sound e
          (λ m p l a. ⊎_elim (λ h. not_here m p h a) (λ h. g m p h a) (here_or_later n m l))
      go (one_refused b g) =
          one_refused b
          (λ m q l a. ⊎_elim (λ h. absurd (not_here m q h a)) (λ h. g m q h a) (here_or_later n m l))
  step n r (first {p} a f) next = one_refused a (λ m q l b. go m q b (here_or_later n m l))
    where
      go : (m q : ℕ) → ApplicableToBook B m q → (m ≡ n) ⊎ (n + 1 ≤ m) → (n < m) ⊎ ((n ≡ m) × (p ≤ q))
      go m q b (inl e) = inr (sym e, f q (subst (λ (k : ℕ). ApplicableToBook B k q) e b))
      go m q b (inr l) = inl (omega arith)

  -- what an application of each number says
  says_two : {p : ℕ} → ApplicableToBook B 2 p → (p ≡ 0) × Short B
  says_two (two s) = (refl, s)

  says_three : {p : ℕ} → ApplicableToBook B 3 p → (p ≡ 0) × OutsideTable B
  says_three (three s) = (refl, s)

  says_four : {p : ℕ} → ApplicableToBook B 4 p → (p ≡ 0) × OffsetWrong B
  says_four (four s) = (refl, s)

  says_five : {p : ℕ} → ApplicableToBook B 5 p → PlacesWrong B p
  says_five (five s) = s

  says_six : {p : ℕ} → ApplicableToBook B 6 p → RuleWrong B p
  says_six (six s) = s

  says_seven : {p : ℕ} → ApplicableToBook B 7 p → ByteWrong B p
  says_seven (seven s) = s

  says_eleven : {p : ℕ} → ApplicableToBook B 11 p → LooseVariable B p
  says_eleven (eleven s) = s

  pub number_from_lem : {n p : ℕ} → ApplicableToBook B n p → 2 ≤ n
  number_from_lem (two s) = omega arith
  number_from_lem (three s) = omega arith
  number_from_lem (four s) = omega arith
  number_from_lem (five s) = omega arith
  number_from_lem (six s) = omega arith
  number_from_lem (seven s) = omega arith
  number_from_lem (eleven s) = omega arith

  number_to : {n p : ℕ} → ApplicableToBook B n p → n < 12
  number_to (two s) = omega arith
  number_to (three s) = omega arith
  number_to (four s) = omega arith
  number_to (five s) = omega arith
  number_to (six s) = omega arith
  number_to (seven s) = omega arith
  number_to (eleven s) = omega arith

  -- 8, 9 and 10 are not the book's own
  number_after : {n p : ℕ} → ApplicableToBook B n p → 8 ≤ n → 11 ≤ n
  number_after (two s) l = absurd (omega arith)
  number_after (three s) l = absurd (omega arith)
  number_after (four s) l = absurd (omega arith)
  number_after (five s) l = absurd (omega arith)
  number_after (six s) l = absurd (omega arith)
  number_after (seven s) l = absurd (omega arith)
  number_after (eleven s) l = omega arith

  after_seven : {r : Refusal} → From 11 r → From 8 r
  after_seven (all_sound e f) = all_sound e (λ m p l a. f m p (number_after a l) a)
  after_seven (one_refused b f) = one_refused b (λ m q l a. f m q (number_after a l) a)

  at_start : {W : Type 0} (n : ℕ) → (W → ApplicableToBook B n 0) → (p : ℕ) → (p ≡ 0) × W → ApplicableToBook B n p
  at_start n f p w = subst (λ (q : ℕ). ApplicableToBook B n q) (sym w.0) (f w.1)

  two_earliest : Earliest (ApplicableToBook B 2) (unless (leb (header_size B) (length B)) 0)
  two_earliest = earliest_same (at_start 2 two) (λ p a. says_two a) (short_earliest B)

  three_earliest : Earliest (ApplicableToBook B 3) (unless (in_table (header_of B)) 0)
  three_earliest = earliest_same (at_start 3 three) (λ p a. says_three a) (table_earliest B)

  four_earliest : Earliest (ApplicableToBook B 4) (unless (offsets_right (header_of B) (length B)) 0)
  four_earliest = earliest_same (at_start 4 four) (λ p a. says_four a) (offsets_earliest B)

  five_earliest : Earliest (ApplicableToBook B 5) (wrong_places B (header_size B) (relations B))
  five_earliest = earliest_same (λ p. five) (λ p a. says_five a) (relation_earliest B)

  six_earliest : Earliest (ApplicableToBook B 6) (wrong_rule B (question_at B) (rules_start B) (rules B))
  six_earliest = earliest_same (λ p. six) (λ p a. says_six a) (rule_earliest B)

  seven_earliest : rule_start B (rules B) ≤ question_at B → Earliest (ApplicableToBook B 7) (wrong_byte B)
  seven_earliest h = earliest_same (λ p. seven) (λ p a. says_seven a) (byte_earliest B h)

  eleven_earliest : Earliest (ApplicableToBook B 11) (loose_variable B)
  eleven_earliest = earliest_same (λ p. eleven) (λ p a. says_eleven a) (variable_earliest B)

  -- where 4 and 6 do not apply, the rules end where the question starts
  pub rules_end_at : T (offsets_right (header_of B) (length B))
      → wrong_rule B (question_at B) (rules_start B) (rules B) ≡ none
      → rule_start B (rules B) ≡ question_at B
  rules_end_at t h =
      let o = offsets_right_lem B t in
      rules_end B (question_at B) (rules_start B) (rules B) (omega (arith, o.rules_at_lem, o.question_at_lem)) h

  -- the verdict is the least number that applies, at the earliest place at which it does; where none applies it says
  -- so
  pub verdict_exact : IsVerdict B (verdict B)
  unfolding verdict contents
  verdict_exact =
      settled
      (step 2 _ two_earliest λ e₂.
      step 3 _ three_earliest λ e₃.
      step 4 _ four_earliest λ e₄.
      step 5 _ five_earliest λ e₅.
      step 6 _ six_earliest λ e₆.
      let t = unless_none (offsets_right (header_of B) (length B)) 0 e₄ in
      step 7 _ (seven_earliest (omega (arith, rules_end_at t e₆))) λ e₇.
      after_seven
      (step 11 _ eleven_earliest λ e₁₁.
      all_sound refl (λ m p l a. let h = number_to a in omega arith)))
    where
      settled : From 2 (verdict B) → IsVerdict B (verdict B)
      settled (all_sound e f) = sound e (λ n p a. f n p (number_from_lem a) a)
      settled (one_refused a f) = refused a (λ m q b. f m q (number_from_lem b) b)

  -- and no other answer is
  pub verdict_only : {r : Refusal} → IsVerdict B r → r ≡ verdict B
  verdict_only v = same v verdict_exact
    where
      path : (r t : Refusal) → r.number ≡ t.number → r.place ≡ t.place → r ≡ t
      path r t p q = λ i. record { number = p i; place = q i }

      order : (r t : Refusal) → NoLater r t.number t.place → NoLater t r.number r.place → r ≡ t
      order r t (inl a) (inl b) = absurd (omega arith)
      order r t (inl a) (inr b) = absurd (omega arith)
      order r t (inr a) (inl b) = absurd (omega arith)
      order r t (inr a) (inr b) = path r t a.0 (omega arith)

      same : {r t : Refusal} → IsVerdict B r → IsVerdict B t → r ≡ t
      same (sound e f) (sound d g) = e ∙ sym d
      same (sound e f) (refused b g) = absurd (f _ _ b)
      same (refused a f) (sound d g) = absurd (g _ _ a)
      same {r} {t} (refused a f) (refused b g) = order r t (f _ _ b) (g _ _ a)
