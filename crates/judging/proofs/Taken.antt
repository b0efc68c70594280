-- The places before the first 255, as `take_while` gives them, are the used ones. Assumes nothing.
use Rattle.std.proofs.Common.{◌≡◌, ℕ, zero, suc, ◌+◌, ◌<◌, Bool, true, false, not, ◌||◌, List, length, take_while, eqb}
use Rattle.std.proofs.Common.{refl, sym, ◌∙◌}
use Rattle.std.proofs.Common.{ap, ap₂, arith}
use Rattle.std.specs.List.{range_with_len, list_any}
use Rattle.std.proofs.lemmas.List.Sums.{take_while-cons}
use Rattle.covering.specs.Lists.{any}
use Rattle.covering.specs.Term.{Term, var, eq_term}
use Rattle.covering.specs.Record.{term_of, args_at}
use Rattle.covering.proofs.Bytes.{term_var, term_same}
use Rattle.reading.specs.Word.{byte}
use Rattle.reading.specs.Refusals.{used_places}

module _ (B : List ℕ) where
  -- whether a place has a term
  abbrev pub is_used : ℕ → Bool
  is_used j = not (eqb (byte B j) 255)

  abbrev pub taken : ℕ → ℕ → List ℕ
  taken i n = take_while is_used (range_with_len i n)

  pub used_taken : (i n : ℕ) → length (taken i n) ≡ used_places B i n
  unfolding used_places
  used_taken i zero = refl
  used_taken i (suc n) = one (eqb (byte B i) 255) refl (used_taken (i + 1) n)
    where
      one : (t : Bool) → eqb (byte B i) 255 ≡ t → length (taken (i + 1) n) ≡ used_places B (i + 1) n
          → length (taken i (suc n)) ≡ used_places B i (suc n)
      one true e h = rw (take_while-cons is_used i (range_with_len (i + 1) n), e)
      one false e h = rw (take_while-cons is_used i (range_with_len (i + 1) n), e) (ap suc h)

  module _ (b : ℕ) (few : b < 128) where
    -- the term of the byte x is the variable b
    is_variable : (x : ℕ) → eqb b x ≡ eq_term (var b) (term_of x)
    is_variable x = sym (ap (λ (t : Term). eq_term t (term_of x)) (sym (term_var b (omega arith))) ∙ term_same b x)

    pub has_taken : (i n : ℕ) → list_any (λ j. eqb b (byte B j)) (taken i n) ≡ any (eq_term (var b)) (args_at B i n)
    unfolding args_at
    has_taken i zero = refl
    has_taken i (suc n) = one (eqb (byte B i) 255) refl (has_taken (i + 1) n)
      where
        one : (t : Bool) → eqb (byte B i) 255 ≡ t
            → list_any (λ j. eqb b (byte B j)) (taken (i + 1) n) ≡ any (eq_term (var b)) (args_at B (i + 1) n)
            → list_any (λ j. eqb b (byte B j)) (taken i (suc n)) ≡ any (eq_term (var b)) (args_at B i (suc n))
        one true e h = rw (take_while-cons is_used i (range_with_len (i + 1) n), e)
        one false e h = rw (take_while-cons is_used i (range_with_len (i + 1) n), e)
            (ap₂ ◌||◌ (is_variable (byte B i)) h)
