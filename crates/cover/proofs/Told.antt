-- Laws of the desk's answers: what the search says of two sound records, and which of two is kept. Assumes nothing.
use mathlib.Core.Path.{◌≡◌, refl, sym, ap, ap₂, ◌∙◌}
use mathlib.Core.Bool.{Bool, true, cond}
use Prim.Native.Nat.{ℕ}
use mathlib.Core.List.{List}
use lib.ListN.{replicate, take}
use Rattle.std.specs.Prelude.{Result, Ok, Err, Option, Some, None, zero, suc}
use Rattle.std.specs.Result.{result_ok}
use Rattle.std.specs.Option.{option_flatten}
use Rattle.covering.specs.Record.{desk, asking_of, is_desk_record}
use Rattle.covering.specs.Desk.{covering_map, covers_answer, covers_map, map_size}
use Rattle.covering.proofs.Answers.{answer_covers, map_covers}
use Rattle.cover.specs.HeldMap.{Searched}
use Rattle.cover.specs.Told.{number_of, number_told, map_told, which_told, kept_map_told}
use Rattle.cover.specs.declared.Malformed.{Malformed}
use Rattle.cover.specs.declared.Malformed.TheVariants as malformed
use Rattle.cover.specs.declared.Which.{Which}
use Rattle.cover.specs.declared.Which.TheVariants as which
use Rattle.cover.specs.declared.Keeping.{Keeping}
use Rattle.cover.proofs.Maps.{said_yes, searched_map, front_map}

-- 1 for yes, 0 for no
abbrev as_number : Bool → ℕ
as_number b = cond b 1 0

-- two sound records, searched from nowhere
module _ (w : ℕ) (A B : List ℕ) (a : is_desk_record w A ≡ true) (b : is_desk_record w B ≡ true) {m : List ℕ} {r : Bool}
    (s : Searched (covering_map (asking_of (desk w) A) (asking_of (desk w) B)) (replicate 96 255) m r) where
  pub number_searched : cond r 1 0 ≡ covers_answer w A B
  number_searched = ap as_number (said_yes _ _ _ s.finds) ∙ sym (answer_covers w A B a b)

  pub map_searched : take map_size m ≡ covers_map w A B
  map_searched =
      ap (take map_size) (searched_map _ _ _ s)
      ∙ front_map (covering_map (asking_of (desk w) A) (asking_of (desk w) B))
      ∙ sym (map_covers w A B a b)

-- the answer is yes exactly where it has a map
module _ (A B : List ℕ) (w : ℕ) (r : Result (Option (List ℕ)) Malformed) (p : Option (Option (List ℕ)))
    (o : Option (List ℕ))
    (number : number_told r ≡ covers_answer w A B) (map : map_told r ≡ covers_map w A B)
    (d : p ≡ result_ok r) (e : o ≡ option_flatten p) where
  pub found_yes : {m : List ℕ} → o ≡ Some m → (covers_answer w A B ≡ 1) × (m ≡ covers_map w A B)
  found_yes {m} f = let t = go r (ap option_flatten (sym d) ∙ sym e ∙ f) in (sym number ∙ t.0, sym t.1 ∙ map)
    where
      go : (r : Result (Option (List ℕ)) Malformed) → option_flatten (result_ok r) ≡ Some m
          → (number_told r ≡ 1) × (map_told r ≡ m)
      go (Ok (Some x)) g = (refl, cc)
      go (Ok None) g = cc
      go (Err x) g = cc

  pub found_no : o ≡ None → covers_answer w A B ≡ 1 → ⊥
  found_no f one = go r (ap option_flatten (sym d) ∙ sym e ∙ f) (number ∙ one)
    where
      go : (r : Result (Option (List ℕ)) Malformed) → option_flatten (result_ok r) ≡ None → number_told r ≡ 1 → ⊥
      go (Ok (Some x)) g n = cc
      go (Ok None) g n = cc
      go (Err malformed.First) g n = cc
      go (Err malformed.Second) g n = cc

-- the answer that has a number and a map
answered : ℕ → List ℕ → Result (Option (List ℕ)) Malformed
answered zero m = Ok None
answered (suc zero) m = Ok (Some m)
answered (suc (suc zero)) m = Err malformed.First
answered (suc (suc (suc n))) m = Err malformed.Second

answered_back : (r : Result (Option (List ℕ)) Malformed) → answered (number_told r) (map_told r) ≡ r
unfolding answered
answered_back (Ok None) = refl
answered_back (Ok (Some m)) = refl
answered_back (Err malformed.First) = refl
answered_back (Err malformed.Second) = refl

chosen : ℕ → List ℕ → Option Keeping
chosen zero m = None
chosen (suc zero) m = Some record { which = which.First; map = m }
chosen (suc (suc n)) m = Some record { which = which.Second; map = m }

chosen_back : (r : Option Keeping) → chosen (which_told r) (kept_map_told r) ≡ r
unfolding chosen
chosen_back None = refl
chosen_back (Some k) = go k.which
  where
    go : (w : Which) → chosen (number_of w) k.map ≡ Some record { which = w; map = k.map }
    go which.First = refl
    go which.Second = refl

-- so they determine it
pub answer_same : (r s : Result (Option (List ℕ)) Malformed) → number_told r ≡ number_told s → map_told r ≡ map_told s → r ≡ s
answer_same r s e f = sym (answered_back r) ∙ ap₂ answered e f ∙ answered_back s

pub choice_same : (r s : Option Keeping) → which_told r ≡ which_told s → kept_map_told r ≡ kept_map_told s → r ≡ s
choice_same r s e f = sym (chosen_back r) ∙ ap₂ chosen e f ∙ chosen_back s
