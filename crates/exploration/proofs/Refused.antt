-- Refuses exactly: for every book and every output the computed result is a refusal exactly when 01's table says,
-- with that number and place (`refuses_exactly`), and a union exactly when nothing applies and the run completes with
-- it (`completes_exactly`). Assumes nothing.
use mathlib.Core.Path.{◌≡◌, refl, sym, ◌∙◌, ap, ap₂, subst}
use mathlib.Core.Bool.{cond, not}
use mathlib.Core.Logic.{◌⊎◌, inl, inr, ◌↔◌}
use mathlib.Core.List.{List}
use Prim.Native.Nat.{ℕ, ◌≤◌, ◌<◌}
use native.Mathlib.Omega.{arith}
use lib.Dec.{T, eqb, ltb, ltb→lt, nltb→le, eqb→eq}
use borrow.Author.Tests.{eq-eqb}
use Rattle.covering.specs.Term.{Question}
use Rattle.covering.specs.Search.{covers}
use Rattle.covering.specs.Asking.{joined}
use Rattle.covering.proofs.Tests.{decide, clash, cond_yes, cond_no}
use Rattle.reading.specs.Book.{book_of}
use Rattle.reading.specs.Refusals.{ApplicableToBook}
use Rattle.reading.specs.Verdict.{NoLater, IsVerdict, sound, refused as refused-book, verdict, SoundBook}
use Rattle.reading.proofs.Exact.{verdict_exact, number_from_lem}
use Rattle.reading.proofs.SoundBook.{sound_none}
use Rattle.exploration.specs.Run.{Why, too_long, no_room, none_left, refusal_number, Outcome, complete}
use Rattle.exploration.specs.Run.{refused}
use Rattle.exploration.specs.Run.{all_rewritings}
use Rattle.exploration.specs.Union.{output_size}
use Rattle.exploration.specs.Answer.{Result, union, refusal, result_of, outcome_of, result}
use Rattle.exploration.specs.Refusals.{one, of_book, RunEnds, Refuses, smallest, met, Completes, Applicable}
use Rattle.exploration.specs.Refusals.{limits_of}
use Rattle.exploration.proofs.Ends.{run_ends, ends_only}
use Rattle.exploration.proofs.OfBook.{run_is}

-- the computed outcome is the end of the book's run, and the only one
module _ (B : List ℕ) where
  pub outcome_ends : RunEnds B (outcome_of B)
  outcome_ends =
      subst (RunEnds B) (sym (run_is (book_of B).rules (book_of B).allowed (book_of B).question))
      (run_ends covers (limits_of B) (all_rewritings (book_of B).rules) (book_of B).allowed (joined (book_of B).question))

  pub outcome_only : {o : Outcome} → RunEnds B o → outcome_of B ≡ o
  outcome_only e =
      run_is (book_of B).rules (book_of B).allowed (book_of B).question
      ∙ ends_only covers (limits_of B) (all_rewritings (book_of B).rules) (book_of B).allowed (joined (book_of B).question) e

  -- a refused book
  verdict_refused : ¬ (SoundBook B) → ApplicableToBook B (verdict B).number (verdict B).place
      × ((m q : ℕ) → ApplicableToBook B m q → NoLater (verdict B) m q)
  verdict_refused f = go (verdict_exact B)
    where
      go : IsVerdict B (verdict B) → ApplicableToBook B (verdict B).number (verdict B).place
          × ((m q : ℕ) → ApplicableToBook B m q → NoLater (verdict B) m q)
      go (sound e g) = absurd (f (ap (λ v. v.number) e))
      go (refused-book a g) = (a, g)

module _ (B : List ℕ) (room : ℕ) where
  -- the three ways in which a result comes about
  pub data Comes : Result → Type 0 where
    small : room < output_size → Comes (refusal 1 0)
    unsound : output_size ≤ room → ¬ (SoundBook B) → Comes (refusal (verdict B).number (verdict B).place)
    ran : output_size ≤ room → SoundBook B → Comes (result_of (outcome_of B))

  pub result_comes : Comes (result B room)
  unfolding result
  result_comes = go (decide (ltb room output_size))
    where
      read : Result
      read = cond (eqb (verdict B).number 0) (result_of (outcome_of B)) (refusal (verdict B).number (verdict B).place)

      second : output_size ≤ room → T (eqb (verdict B).number 0) ⊎ T (not (eqb (verdict B).number 0)) → Comes read
      second l (inl t) =
          subst Comes (sym (cond_yes (eqb (verdict B).number 0) _ _ t)) (ran l (eqb→eq (verdict B).number 0 t))
      second l (inr t) =
          subst Comes (sym (cond_no (eqb (verdict B).number 0) _ _ t))
          (unsound l (λ e. clash (eqb (verdict B).number 0) (subst T (sym (eq-eqb (verdict B).number 0 e)) tt) t))

      go : T (ltb room output_size) ⊎ T (not (ltb room output_size))
          → Comes (cond (ltb room output_size) (refusal 1 0) read)
      go (inl t) =
          subst Comes (sym (cond_yes (ltb room output_size) (refusal 1 0) read t)) (small (ltb→lt room output_size t))
      go (inr t) =
          subst Comes (sym (cond_no (ltb room output_size) (refusal 1 0) read t))
          (second (nltb→le room output_size t) (decide (eqb (verdict B).number 0)))

  -- what applies has a number from 1 on, and place 0 where that is 1
  applies_from : {n p : ℕ} → Applicable B room n p → 1 ≤ n
  applies_from (one l) = omega arith
  applies_from (of_book a) = let h = number_from_lem B a in omega arith

  applies_book : {n p : ℕ} → output_size ≤ room → Applicable B room n p → ApplicableToBook B n p
  applies_book l (one m) = absurd (omega arith)
  applies_book l (of_book a) = a

  nothing_applies : output_size ≤ room → SoundBook B → (m q : ℕ) → Applicable B room m q → ⊥
  nothing_applies l s m q a = sound_none B s m q (applies_book l a)

  -- what a result says
  abbrev Says : Result → Type 0
  Says (union U k) = Completes B room U k
  Says (refusal n p) = Refuses B room n p

  outcome_says : output_size ≤ room → SoundBook B → (o : Outcome) → RunEnds B o → Says (result_of o)
  outcome_says l s (complete U k) e = record { nothing = nothing_applies l s; ends = e }
  outcome_says l s (refused w p) e = met (nothing_applies l s) w refl e

  comes_says : {r : Result} → Comes r → Says r
  comes_says (small l) =
      smallest (one l) (λ m q a. go m q (let h = applies_from a in above m h))
    where
      above : (m : ℕ) → 1 ≤ m → (1 < m) ⊎ (1 ≡ m)
      above m h = at (decide (ltb 1 m))
        where
          at : T (ltb 1 m) ⊎ T (not (ltb 1 m)) → (1 < m) ⊎ (1 ≡ m)
          at (inl t) = inl (ltb→lt 1 m t)
          at (inr t) = let k : m ≤ 1 = nltb→le 1 m t in inr (omega arith)

      go : (m q : ℕ) → (1 < m) ⊎ (1 ≡ m) → (1 < m) ⊎ ((1 ≡ m) × (0 ≤ q))
      go m q (inl h) = inl h
      go m q (inr h) = inr (h, omega arith)
  comes_says (unsound l f) =
      let v = verdict_refused B f in
      smallest (of_book v.0) (λ m q a. v.1 m q (applies_book l a))
  comes_says (ran l s) = outcome_says l s (outcome_of B) (outcome_ends B)

  -- and no other result says it
  earliest_same : {n p m q : ℕ} → (n < m) ⊎ ((n ≡ m) × (p ≤ q)) → (m < n) ⊎ ((m ≡ n) × (q ≤ p))
      → (n ≡ m) × (p ≡ q)
  earliest_same (inl a) (inl b) = absurd (omega arith)
  earliest_same (inl a) (inr b) = absurd (omega (arith, b.0))
  earliest_same (inr a) (inl b) = absurd (omega (arith, a.0))
  earliest_same (inr a) (inr b) = (a.0, omega (arith, a.1, b.1))

  ends_same : {o q : Outcome} → RunEnds B o → RunEnds B q → result_of o ≡ result_of q
  ends_same a b = ap result_of (sym (outcome_only B a) ∙ outcome_only B b)

  says_one : (r t : Result) → Says r → Says t → r ≡ t
  says_one (union U k) (union Z l) a b = ends_same a.ends b.ends
  says_one (union U k) (refusal m q) a (smallest x f) = absurd (a.nothing m q x)
  says_one (union U k) (refusal m q) a (met f w e x) =
      ends_same a.ends x ∙ ap (λ (i : ℕ). refusal i q) (sym e)
  says_one (refusal n p) (union Z l) (smallest x f) b = absurd (b.nothing n p x)
  says_one (refusal n p) (union Z l) (met f w e x) b =
      ap (λ (i : ℕ). refusal i p) e ∙ ends_same x b.ends
  says_one (refusal n p) (refusal m q) (smallest x f) (smallest y g) =
      let s = earliest_same (f m q y) (g n p x) in ap₂ refusal s.0 s.1
  says_one (refusal n p) (refusal m q) (smallest x f) (met g w e y) = absurd (g n p x)
  says_one (refusal n p) (refusal m q) (met f w e x) (smallest y g) = absurd (f m q y)
  says_one (refusal n p) (refusal m q) (met f w e x) (met g v d y) =
      ap (λ (i : ℕ). refusal i p) e ∙ ends_same x y ∙ ap (λ (i : ℕ). refusal i q) (sym d)

  result_says : Says (result B room)
  result_says = comes_says result_comes

  pub refuses_exactly : (n p : ℕ) → (result B room ≡ refusal n p) ↔ Refuses B room n p
  refuses_exactly n p = ((λ e. subst Says e result_says), (λ r. says_one (result B room) (refusal n p) result_says r))

  pub completes_exactly : (U : List Question) (k : ℕ) → (result B room ≡ union U k) ↔ Completes B room U k
  completes_exactly U k = ((λ e. subst Says e result_says), (λ c. says_one (result B room) (union U k) result_says c))

  -- a refusal's number is not 0
  why_number : (w : Why) → 1 ≤ refusal_number w
  why_number too_long = omega arith
  why_number no_room = omega arith
  why_number none_left = omega arith

  pub refuses_from : {n p : ℕ} → Refuses B room n p → 1 ≤ n
  refuses_from (smallest a f) = applies_from a
  refuses_from (met f w e x) = let h = why_number w in omega arith

  -- where the result is a union, the output has room, the book is sound and its run completes with it
  outcome_union : (o : Outcome) {U : List Question} {k : ℕ} → result_of o ≡ union U k → o ≡ complete U k
  outcome_union (complete Z l) e = cc
  outcome_union (refused w p) e = let z : ◌≡◌ {A = ℕ} 0 1 = cc in absurd (omega arith)

  pub ran_union : {U : List Question} {k : ℕ} → result B room ≡ union U k
      → (output_size ≤ room) × SoundBook B × (outcome_of B ≡ complete U k)
  ran_union {U} {k} e = go result_comes e
    where
      go : {r : Result} → Comes r → r ≡ union U k → (output_size ≤ room) × SoundBook B × (outcome_of B ≡ complete U k)
      go (small l) q = let z : ◌≡◌ {A = ℕ} 0 1 = cc in absurd (omega arith)
      go (unsound l f) q = let z : ◌≡◌ {A = ℕ} 0 1 = cc in absurd (omega arith)
      go (ran l s) q = (l, s, outcome_union (outcome_of B) q)
