-- Laws of the desk's answers: one for each way through the code, and that each answer is determined. Assumes nothing.
use mathlib.Core.Path.{◌≡◌, refl}
use mathlib.Core.Bool.{true, false, cond}
use mathlib.Core.Logic.{◌⊎◌, inl, inr}
use mathlib.Core.List.{List}
use mathlib.Core.Option.{Option, none, some}
use Prim.Native.Nat.{ℕ}
use native.Mathlib.Omega.{arith}
use lib.ListN.{replicate}
use Rattle.covering.specs.Asking.{Asking}
use Rattle.covering.specs.Record.{desk, asking_of, is_desk_record, desk_record}
use Rattle.covering.specs.Desk.{covers_answer, covers_asking, the_first, the_second, neither, which, covers_number}
use Rattle.covering.specs.Desk.{Chosen, chosen_number, kept_answer, covering_map, covers_map, kept_map, map_size}
use Rattle.covering.specs.FirstMap.{map_or}
use Rattle.covering.proofs.Tests.{either}

module _ (w : ℕ) (B : List ℕ) where
  pub record_of : is_desk_record w B ≡ true → desk_record w B ≡ some (asking_of (desk w) B)
  unfolding desk_record
  record_of e = rw e

  pub no_record : is_desk_record w B ≡ false → desk_record w B ≡ none
  unfolding desk_record
  no_record e = rw e

module _ (w : ℕ) (A B : List ℕ) where
  pub answer_2 : is_desk_record w A ≡ false → covers_answer w A B ≡ 2
  unfolding covers_answer
  answer_2 e = rw (no_record w A e)

  pub answer_3 : is_desk_record w A ≡ true → is_desk_record w B ≡ false → covers_answer w A B ≡ 3
  unfolding covers_answer
  answer_3 e f = rw (record_of w A e, no_record w B f)

  pub answer_covers : is_desk_record w A ≡ true → is_desk_record w B ≡ true
      → covers_answer w A B ≡ cond (covers_asking (asking_of (desk w) A) (asking_of (desk w) B)) 1 0
  unfolding covers_answer
  answer_covers e f = rw (record_of w A e, record_of w B f)

-- which to keep, from the two answers
first_kept : (x y : Option Asking) → covers_number x y ≡ 1 → which x y ≡ the_first
first_kept none y e = absurd (omega arith)
first_kept (some A) none e = absurd (omega arith)
first_kept (some A) (some B) e = go (either (covers_asking A B))
  where
    go : (covers_asking A B ≡ true) ⊎ (covers_asking A B ≡ false) → which (some A) (some B) ≡ the_first
    go (inl t) = rw t
    go (inr f) = let z : ◌≡◌ {A = ℕ} 0 1 = rw f at e in absurd (omega arith)

second_kept : (x y : Option Asking) → (covers_number x y ≡ 1 → ⊥) → covers_number y x ≡ 1 → which x y ≡ the_second
second_kept none none n e = absurd (omega arith)
second_kept none (some B) n e = absurd (omega arith)
second_kept (some A) none n e = absurd (omega arith)
second_kept (some A) (some B) n e = go (either (covers_asking A B)) (either (covers_asking B A))
  where
    go : (covers_asking A B ≡ true) ⊎ (covers_asking A B ≡ false) → (covers_asking B A ≡ true) ⊎ (covers_asking B A ≡ false)
        → which (some A) (some B) ≡ the_second
    go (inl t) u = absurd (n (rw t))
    go (inr f) (inl u) = rw (f, u)
    go (inr f) (inr u) = let z : ◌≡◌ {A = ℕ} 0 1 = rw u at e in absurd (omega arith)

none_kept : (x y : Option Asking) → (covers_number x y ≡ 1 → ⊥) → (covers_number y x ≡ 1 → ⊥) → which x y ≡ neither
none_kept none y n m = refl
none_kept (some A) none n m = refl
none_kept (some A) (some B) n m = go (either (covers_asking A B)) (either (covers_asking B A))
  where
    go : (covers_asking A B ≡ true) ⊎ (covers_asking A B ≡ false) → (covers_asking B A ≡ true) ⊎ (covers_asking B A ≡ false)
        → which (some A) (some B) ≡ neither
    go (inl t) u = absurd (n (rw t))
    go (inr f) (inl u) = absurd (m (rw u))
    go (inr f) (inr u) = rw (f, u)

module _ (w : ℕ) (A B : List ℕ) where
  pub keeps_first : covers_answer w A B ≡ 1 → which (desk_record w A) (desk_record w B) ≡ the_first
  unfolding covers_answer
  keeps_first e = first_kept (desk_record w A) (desk_record w B) e

  pub keeps_second : (covers_answer w A B ≡ 1 → ⊥) → covers_answer w B A ≡ 1
      → which (desk_record w A) (desk_record w B) ≡ the_second
  unfolding covers_answer
  keeps_second n e = second_kept (desk_record w A) (desk_record w B) n e

  pub keeps_neither : (covers_answer w A B ≡ 1 → ⊥) → (covers_answer w B A ≡ 1 → ⊥)
      → which (desk_record w A) (desk_record w B) ≡ neither
  unfolding covers_answer
  keeps_neither n m = none_kept (desk_record w A) (desk_record w B) n m

module _ (w : ℕ) (A B : List ℕ) where
  pub map_2 : is_desk_record w A ≡ false → covers_map w A B ≡ replicate map_size 255
  unfolding covers_map
  map_2 e = rw (no_record w A e)

  pub map_3 : is_desk_record w A ≡ true → is_desk_record w B ≡ false → covers_map w A B ≡ replicate map_size 255
  unfolding covers_map
  map_3 e f = rw (record_of w A e, no_record w B f)

  pub map_covers : is_desk_record w A ≡ true → is_desk_record w B ≡ true
      → covers_map w A B ≡ map_or map_size (covering_map (asking_of (desk w) A) (asking_of (desk w) B))
  unfolding covers_map
  map_covers e f = rw (record_of w A e, record_of w B f)

  -- the map of the one that is kept
  pub map_first : which (desk_record w A) (desk_record w B) ≡ the_first → kept_map w A B ≡ covers_map w A B
  unfolding kept_map covers_map
  map_first e = rw e

  pub map_second : which (desk_record w A) (desk_record w B) ≡ the_second → kept_map w A B ≡ covers_map w B A
  unfolding kept_map covers_map
  map_second e = rw e

  pub map_neither : which (desk_record w A) (desk_record w B) ≡ neither → kept_map w A B ≡ replicate map_size 255
  unfolding kept_map
  map_neither e = rw e

-- the number says which
chosen_1 : (c : Chosen) → chosen_number c ≡ 1 → c ≡ the_first
chosen_1 the_first e = refl
chosen_1 the_second e = absurd (omega arith)
chosen_1 neither e = absurd (omega arith)

chosen_2 : (c : Chosen) → chosen_number c ≡ 2 → c ≡ the_second
chosen_2 the_first e = absurd (omega arith)
chosen_2 the_second e = refl
chosen_2 neither e = absurd (omega arith)

chosen_0 : (c : Chosen) → (chosen_number c ≡ 1 → ⊥) → (chosen_number c ≡ 2 → ⊥) → c ≡ neither
chosen_0 the_first n m = absurd (n refl)
chosen_0 the_second n m = absurd (m refl)
chosen_0 neither n m = refl

module _ (w : ℕ) (A B : List ℕ) where
  pub kept_first : kept_answer w A B ≡ 1 → which (desk_record w A) (desk_record w B) ≡ the_first
  unfolding kept_answer
  kept_first e = chosen_1 _ e

  pub kept_second : kept_answer w A B ≡ 2 → which (desk_record w A) (desk_record w B) ≡ the_second
  unfolding kept_answer
  kept_second e = chosen_2 _ e

  pub kept_neither : (kept_answer w A B ≡ 1 → ⊥) → (kept_answer w A B ≡ 2 → ⊥)
      → which (desk_record w A) (desk_record w B) ≡ neither
  unfolding kept_answer
  kept_neither n m = chosen_0 _ n m
