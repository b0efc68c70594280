-- The table of new numbers: each step keeps it right, and a question on the whole table is the question renumbered.
-- Assumes nothing.
use mathlib.Core.Path.{◌≡◌, refl, sym, ◌∙◌, ap, subst}
use mathlib.Core.Bool.{Bool, true, false, cond, ◌||◌}
use mathlib.Core.Logic.{◌⊎◌, inl, inr}
use mathlib.Core.List.Memᴰ
use mathlib.Core.List.{List, [], ◌∷◌, ◌++◌}
use Prim.Native.Nat.{ℕ, suc, ◌+◌, ◌-◌, ◌≤◌, ◌<◌}
use native.Mathlib.Omega.{arith}
use borrow.Author.Tests.{eqb-true, eqb-false}
use lib.Dec.{T, eqb, eqb→eq, eqb_refl}
use lib.ListN.{length, get_or, set, replicate, length-append, get_or-replicate}
use lib.Seq.{get_or-set_same, get_or-set_other}
use Rattle.covering.specs.Lists.{◌∈◌}
use Rattle.covering.specs.Term.{Term, var, con, Atom, Question, on_term, on_atom, terms}
use Rattle.covering.specs.Form.{firsts, index, numbering}
use Rattle.covering.specs.Record.{stored, term_of, args_at, TermFits, Fits}
use Rattle.forming.specs.Building.{has, seen, all_seen, new_number, sub_of, NumberTable}
use Rattle.covering.proofs.Lists.{any_in, any_out}
use Rattle.covering.proofs.Tests.{either, cond_yes, true→T, T→true, false→no}
use Rattle.covering.proofs.Terms.{terms_in, on_atom_same}
use Rattle.covering.proofs.Form.{firsts_in}
use Rattle.covering.proofs.Bytes.{term_var, term_con, args_more, args_end}
use Rattle.forming.proofs.Leftward.{has_more, added_old, added_new}
use Rattle.covering.proofs.Fitting.{index_below, variables_few}

-- where a number stands in a list that grows at its end
index_old : (S R : List ℕ) (n : ℕ) → has eqb S n ≡ true → index (S ++ R) n ≡ index S n
index_old [] R n h = absurd (true→T false h)
index_old (m ∷ S) R n h = go (eqb m n) h (λ u. index_old S R n u)
  where
    go : (b : Bool) → (b || has eqb S n) ≡ true → (has eqb S n ≡ true → index (S ++ R) n ≡ index S n)
        → cond b 0 (suc (index (S ++ R) n)) ≡ cond b 0 (suc (index S n))
    go true h below = refl
    go false h below = ap suc (below h)

index_new : (S : List ℕ) (n : ℕ) → has eqb S n ≡ false → index (S ++ n ∷ []) n ≡ length S
index_new [] n h = cond_yes (eqb n n) 0 1 (eqb_refl n)
index_new (m ∷ S) n h = go (eqb m n) h (λ u. index_new S n u)
  where
    go : (b : Bool) → (b || has eqb S n) ≡ false → (has eqb S n ≡ false → index (S ++ n ∷ []) n ≡ length S)
        → cond b 0 (suc (index (S ++ n ∷ []) n)) ≡ suc (length S)
    go true h below = absurd (false→no true h tt)
    go false h below = ap suc (below h)

-- the number of a variable that is there, and of one that is not
pub has_in : (S : List ℕ) (n : ℕ) → n ∈ S → has eqb S n ≡ true
has_in S n m = T→true (has eqb S n) (any_in (λ k. eqb k n) S m (eqb_refl n))

in_has : (S : List ℕ) (n : ℕ) → has eqb S n ≡ true → n ∈ S
in_has S n e = go (any_out (λ k. eqb k n) S (true→T (has eqb S n) e))
  where
    go : (k : ℕ) × (k ∈ S) × T (eqb k n) → n ∈ S
    go r = Memᴰ.cast (sym (eqb→eq r.0 n r.2)) r.1

module _ (S : List ℕ) (n : ℕ) where
  pub number_there : has eqb S n ≡ true → new_number S n ≡ index S n
  unfolding new_number
  number_there e = rw e

  number_none : has eqb S n ≡ false → new_number S n ≡ 255
  unfolding new_number
  number_none e = rw e

  is_there : (new_number S n ≡ 255 → ⊥) → has eqb S n ≡ true
  is_there ne = go (either (has eqb S n))
    where
      go : (has eqb S n ≡ true) ⊎ (has eqb S n ≡ false) → has eqb S n ≡ true
      go (inl e) = e
      go (inr e) = absurd (ne (number_none e))

  is_none : length S < 255 → new_number S n ≡ 255 → has eqb S n ≡ false
  is_none few e = go (either (has eqb S n))
    where
      go : (has eqb S n ≡ true) ⊎ (has eqb S n ≡ false) → has eqb S n ≡ false
      go (inl h) = absurd (omega (arith, index_below S n (in_has S n h), number_there h))
      go (inr h) = h

number_next : (S : List ℕ) (n : ℕ) → has eqb S n ≡ false → new_number (S ++ n ∷ []) n ≡ length S
number_next S n e = number_there (S ++ n ∷ []) n there ∙ index_new S n e
  where
    there : has eqb (S ++ n ∷ []) n ≡ true
    there = has_more eqb S n n ∙ rw (T→true (eqb n n) (eqb_refl n), e)

number_kept : (S : List ℕ) (t n : ℕ) → eqb t n ≡ false → new_number (S ++ t ∷ []) n ≡ new_number S n
number_kept S t n ne = go (either (has eqb S n))
  where
    more : (b : Bool) → has eqb S n ≡ b → has eqb (S ++ t ∷ []) n ≡ (b || false)
    more b e = has_more eqb S t n ∙ ap (λ x. has eqb S n || x) ne ∙ ap (λ x. x || false) e

    go : (has eqb S n ≡ true) ⊎ (has eqb S n ≡ false) → new_number (S ++ t ∷ []) n ≡ new_number S n
    go (inl e) =
        number_there (S ++ t ∷ []) n (more true e) ∙ index_old S (t ∷ []) n e ∙ sym (number_there S n e)
    go (inr e) = number_none (S ++ t ∷ []) n (more false e) ∙ sym (number_none S n e)

-- no variable is seen yet
pub numbered_none : NumberTable [] (replicate 96 255) 0
unfolding new_number
numbered_none = record { each = λ n h. get_or-replicate 96 n 255 0 h; count = refl }

-- one more term
module _ (S table : List ℕ) (given t : ℕ) (k : NumberTable S table given) where
  pub seen_constant : 128 ≤ t → NumberTable (seen S (term_of t)) table given
  unfolding seen
  seen_constant h = rw (term_con t h) k

  pub seen_again : t < 96 → (get_or table t 0 ≡ 255 → ⊥) → NumberTable (seen S (term_of t)) table given
  unfolding seen
  seen_again h ne = subst (λ l. NumberTable l table given) (sym same) k
    where
      same : seen S (term_of t) ≡ S
      same = ap (seen S) (term_var t (omega arith)) ∙ added_old eqb S t (is_there S t (λ e. ne (k.each t h ∙ e)))

  pub seen_first : t < 96 → t < length table → given < 96 → get_or table t 0 ≡ 255
      → NumberTable (seen S (term_of t)) (set table t given) (given + 1)
  unfolding seen
  seen_first h in_table few e =
      subst
      (λ l. NumberTable l (set table t given) (given + 1))
      (sym (ap (seen S) (term_var t (omega arith)) ∙ added_new eqb S t none))
      record { each = λ n lt. go n lt (either (eqb t n)); count = omega (arith, k.count, length-append S (t ∷ [])) }
    where
      none : has eqb S t ≡ false
      none = is_none S t (omega (arith, k.count)) (sym (k.each t h) ∙ e)

      go : (n : ℕ) → n < 96 → (eqb t n ≡ true) ⊎ (eqb t n ≡ false)
          → get_or (set table t given) n 0 ≡ new_number (S ++ t ∷ []) n
      go n lt (inl q) =
          rw (← eqb-true t n q)
          (get_or-set_same table t given 0 in_table ∙ k.count ∙ sym (number_next S t none))
      go n lt (inr q) =
          get_or-set_other table t n given 0 (λ r. eqb-false t n q (sym r)) ∙ k.each n lt ∙ sym (number_kept S t n q)

-- the whole table puts its number for each variable
pub on_table : (A : Question) (table : List ℕ) → Fits stored A
    → ((n : ℕ) → n < 96 → get_or table n 0 ≡ new_number (firsts (terms A)) n)
    → (a : Atom) → a ∈ A → on_atom (sub_of table) a ≡ on_atom (numbering A) a
unfolding sub_of
on_table A table f each a m = on_atom_same (sub_of table) (numbering A) a (λ t k. go t k ((f.each a m).terms t k))
  where
    S : List ℕ
    S = firsts (terms A)

    go : (t : Term) → t ∈ a.args → TermFits stored t → on_term (sub_of table) t ≡ on_term (numbering A) t
    go (con c) k fits = refl
    go (var n) k fits =
        let there = firsts_in (terms A) n (terms_in A m k) in
        let low = index_below S n there in
        ap term_of (each n fits ∙ number_there S n (has_in S n there))
        ∙ term_var (index S n) (omega (arith, variables_few stored A f, f.most))

-- the terms of an atom, of whose w places j are passed
module _ (B : List ℕ) (i j w : ℕ) (lt : j < w) (S : List ℕ) where
  pub seen_end : get_or B (i + j) 0 ≡ 255 → all_seen S (args_at B (i + j) (w - j)) ≡ S
  unfolding all_seen
  seen_end e = rw (args_end B i j w lt e)

  pub seen_more : (get_or B (i + j) 0 ≡ 255 → ⊥)
      → all_seen S (args_at B (i + j) (w - j))
      ≡ all_seen (seen S (term_of (get_or B (i + j) 0))) (args_at B (i + (j + 1)) (w - (j + 1)))
  unfolding all_seen
  seen_more used = rw (args_more B i j w lt used)

pub seen_done : (B : List ℕ) (i w : ℕ) (S : List ℕ) → w ≡ 0 → all_seen S (args_at B i w) ≡ S
unfolding all_seen args_at
seen_done B i w S e = rw (e, args_at)
