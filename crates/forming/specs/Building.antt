-- How the code builds a form, from left to right: what is kept so far, and the table of new numbers. The contracts of
-- the form's own functions are said with it; `in_form`'s does not need it.
use Rattle.std.specs.Prelude.{◌≡◌, Bool, cond, List, [], ◌∷◌, ◌++◌, ℕ, ◌<◌, eqb, length, get_or}
use Rattle.covering.specs.Lists.{any}
use Rattle.covering.specs.Term.{Term, var, con, Sub}
use Rattle.covering.specs.Form.{index}
use Rattle.covering.specs.Record.{term_of}

module _ {A : Type 0} (eq : A → A → Bool) where
  -- whether an element equal to a is among those kept
  abbrev pub has : List A → A → Bool
  has K a = any (λ k. eq k a) K

  -- a is kept too, unless it is there already
  unfoldable pub added : List A → A → List A
  added K a = cond (has K a) K (K ++ a ∷ [])

  unfoldable pub added_all : List A → List A → List A
  added_all K [] = K
  added_all K (a ∷ l) = added_all (added K a) l

-- the variables seen so far, in order of first appearance, and one more term, more terms
unfoldable pub seen : List ℕ → Term → List ℕ
seen S (var n) = added eqb S n
seen S (con c) = S

unfoldable pub all_seen : List ℕ → List Term → List ℕ
all_seen S [] = S
all_seen S (t ∷ ts) = all_seen (seen S t) ts

-- the new number of a variable, 255 for one not seen yet
unfoldable pub new_number : List ℕ → ℕ → ℕ
new_number S n = cond (has eqb S n) (index S n) 255

-- a table of new numbers and how many are given, for these variables
pub record NumberTable (S table : List ℕ) (given : ℕ) : Type 0 where
  pub each : (n : ℕ) → n < 96 → get_or table n 0 ≡ new_number S n
  pub count : given ≡ length S

-- a table of bytes as a substitution
unfoldable pub sub_of : List ℕ → Sub
sub_of table n = term_of (get_or table n 0)
