-- The two forms of a book: what holds of both holds of every book; and sizes that are products with the number of
-- places. Assumes nothing.
use mathlib.Core.Path.{◌≡◌, refl, sym, ap, subst}
use mathlib.Core.Bool.{Bool, true, false, cond}
use mathlib.Core.Logic.{◌⊎◌, inl, inr}
use mathlib.Core.List.{List}
use Prim.Native.Nat.{ℕ, suc, ◌+◌, ◌*◌, ◌≤◌, ◌<◌}
use native.Mathlib.Nat.{mul-le-mul_left}
use native.Mathlib.Omega.{arith}
use Rattle.covering.specs.Asking.{answer_most}
use Rattle.covering.specs.Record.{new_places, holding, stored}
use Rattle.reading.specs.Header.{relations_at, BookForm, old, new, says_new, form_for, is_new, form_of, header_size}
use Rattle.reading.specs.Header.{atom_places, variables, atom_size}
use Rattle.reading.specs.Book.{body_count, head_count, head_at, rule_end}

-- what is found from a relations' offset
pub says_new_lem : (t : ℕ) → says_new t ≡ true → form_for t ≡ new
unfolding form_for
says_new_lem t e = ap (λ (b : Bool). cond b new old) e

pub says_old : (t : ℕ) → says_new t ≡ false → form_for t ≡ old
unfolding form_for
says_old t e = ap (λ (b : Bool). cond b new old) e

pub for_cases : (t : ℕ) → (form_for t ≡ old) ⊎ (form_for t ≡ new)
unfolding form_for
for_cases t = go (says_new t)
  where
    go : (b : Bool) → (cond b new old ≡ old) ⊎ (cond b new old ≡ new)
    go true = inr refl
    go false = inl refl

-- what holds of both forms
pub by_form : (P : BookForm → Type 0) → P old → P new → (t : ℕ) → P (form_for t)
by_form P p q t = go (for_cases t)
  where
    go : (form_for t ≡ old) ⊎ (form_for t ≡ new) → P (form_for t)
    go (inl e) = subst P (sym e) p
    go (inr e) = subst P (sym e) q

-- the numbers of a form
pub record FormKnown (f : BookForm) : Type 0 where
  pub some_header : 18 ≤ f.header
  pub few_header : f.header ≤ 20
  pub some_places : answer_most ≤ f.places
  pub few_places : f.places ≤ new_places
  pub few_variables : f.variables ≤ 48
  pub variables_are : f.variables ≡ 8 * f.places

known_old : FormKnown old
known_old =
    record {
      some_header = omega arith;
      few_header = omega arith;
      some_places = omega arith;
      few_places = omega arith;
      few_variables = omega arith;
      variables_are = omega arith;
    }

known_new : FormKnown new
known_new =
    record {
      some_header = omega arith;
      few_header = omega arith;
      some_places = omega arith;
      few_places = omega arith;
      few_variables = omega arith;
      variables_are = omega arith;
    }

pub for_known : (t : ℕ) → FormKnown (form_for t)
for_known = by_form FormKnown known_old known_new

module _ (B : List ℕ) where
  pub form_cases : (form_of B ≡ old) ⊎ (form_of B ≡ new)
  form_cases = for_cases (relations_at B)

  pub form_known : FormKnown (form_of B)
  form_known = for_known (relations_at B)

  pub is_new_lem : is_new B ≡ true → form_of B ≡ new
  is_new_lem e = says_new_lem (relations_at B) e

  pub is_old : is_new B ≡ false → form_of B ≡ old
  is_old e = says_old (relations_at B) e

  -- a book in the new form
  module _ (e : form_of B ≡ new) where
    pub new_header : header_size B ≡ 20
    new_header = ap (λ (f : BookForm). f.header) e

    pub new_places_lem : atom_places B ≡ new_places
    new_places_lem = ap (λ (f : BookForm). f.places) e

    pub new_variables : variables B ≡ 48
    new_variables = ap (λ (f : BookForm). f.variables) e

    pub new_size : atom_size B ≡ 7
    new_size = ap (λ (w : ℕ). 1 + w) new_places_lem

    pub new_held : holding (atom_places B) ≡ stored
    new_held = ap holding new_places_lem

    pub new_head : (s : ℕ) → head_at B s ≡ s + 2 + 7 * body_count B s
    new_head s = ap (λ (z : ℕ). s + 2 + z * body_count B s) new_size

    pub new_rule_end : (s : ℕ) → rule_end B s ≡ s + 2 + 7 * (body_count B s + head_count B s)
    new_rule_end s = ap (λ (z : ℕ). s + 2 + z * (body_count B s + head_count B s)) new_size

-- j of n atoms, and one more of them
module _ (z : ℕ) {j n : ℕ} where
  pub atoms_within : j < n → z * j + z ≤ z * n
  atoms_within l = let m : z * suc j ≤ z * n = mul-le-mul_left z l in omega arith

  pub atoms_upto : j ≤ n → z * j ≤ z * n
  atoms_upto l = mul-le-mul_left z l
