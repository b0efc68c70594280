-- The first number of a range that fails a test, as `find` gives it, is the place that a search of `Verdict` tells.
-- Assumes nothing.
use Rattle.std.proofs.Common.{◌≡◌, ℕ, zero, suc, ◌+◌, ◌-◌, ◌≤◌, Bool, true, false, not, List, refl, ◌∙◌, ap}
use Rattle.std.proofs.Common.{ltb, Option as Maybe, Some, None, find, option_map, arith}
use Rattle.std.specs.List.{range_with_len}
use Rattle.std.proofs.Math.Option.{Option, none}
use Rattle.covering.specs.Lists.{or_else}
use Rattle.covering.specs.Term.{Question}
use Rattle.reading.specs.Word.{byte}
use Rattle.reading.specs.Header.{in_bounds, constants, variables, atom_places}
use Rattle.reading.specs.Refusals.{place_allowed}
use Rattle.reading.specs.Verdict.{unless, told, wrong_places, wrong_place, stands_in, loose_from}
use Rattle.judging.specs.Found.{told_at}

-- the first of the n numbers from i on that fails the test
abbrev pub first_wrong : (ℕ → Bool) → ℕ → ℕ → Maybe ℕ
first_wrong test i n = find (λ j. not (test j)) (range_with_len i n)

-- where f a n, from a on, is the first of n places that fails the test: what is told of it
module _ (test : ℕ → Bool) (f : ℕ → ℕ → Option ℕ) (i k : ℕ) (ends : (a : ℕ) → f a 0 ≡ none)
    (more : (a n : ℕ) → i ≤ a → f a (suc n) ≡ or_else (unless (test a) a) (f (a + 1) n)) where
  from : (n a : ℕ) → i ≤ a → told_at k (first_wrong test a n) ≡ told k (f a n)
  from zero a l = rw (ends a)
  from (suc n) a l = one (test a) refl (from n (a + 1) (omega arith))
    where
      one : (b : Bool) → test a ≡ b → told_at k (first_wrong test (a + 1) n) ≡ told k (f (a + 1) n)
          → told_at k (first_wrong test a (suc n)) ≡ told k (f a (suc n))
      one true e h = rw (more a n l, e) h
      one false e h = rw (more a n l, e)

  pub first_told : (n : ℕ) (r : Maybe ℕ) → option_map (λ x. x) r ≡ first_wrong test i n → told_at k r ≡ told k (f i n)
  first_told n None e = ap (told_at k) e ∙ from n i (omega arith)
  first_told n (Some p) e = ap (told_at k) e ∙ from n i (omega arith)

module _ (B : List ℕ) (i n : ℕ) (r : Maybe ℕ) where
  pub places_told : (w : ℕ) → w ≡ atom_places B
      → option_map (λ x. x) r ≡ first_wrong (λ j. in_bounds 1 w (byte B j)) i n
      → told_at 5 r ≡ told 5 (wrong_places B i n)
  unfolding wrong_places
  places_told w e =
      first_told (λ j. in_bounds 1 w (byte B j)) (wrong_places B) i 5 (λ a. refl) (λ a m l. rw e) n r

  pub place_told : (u k c : ℕ) → k ≡ variables B → c ≡ constants B
      → option_map (λ x. x) r ≡ first_wrong (λ j. place_allowed k c (ltb (j - i) u) (byte B j)) i n
      → told_at 7 r ≡ told 7 (wrong_place B u i 0 n)
  unfolding wrong_place
  place_told u k c e d h =
      first_told (λ j. place_allowed k c (ltb (j - i) u) (byte B j)) (λ a m. wrong_place B u i (a - i) m) i 7
      (λ a. refl)
      (λ a m l.
      let here : i + (a - i) ≡ a = omega arith in
      let next : a - i + 1 ≡ a + 1 - i = omega arith in
      rw (e, d, here, next)) n r h
      ∙ ap (λ w. told 7 (wrong_place B u i w n)) (omega arith)

  pub loose_told : (A : Question) (k : ℕ) → k ≡ variables B
      → option_map (λ x. x) r ≡ first_wrong (λ j. stands_in k A (byte B j)) i n
      → told_at 11 r ≡ told 11 (loose_from B A i n)
  unfolding loose_from
  loose_told A k e =
      first_told (λ j. stands_in k A (byte B j)) (loose_from B A) i 11 (λ a. refl) (λ a m l. rw e) n r
