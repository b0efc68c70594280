-- One step of each search in an answer record, and of the search for its variables in the atoms, as the code goes: w of
-- n places, or k of n atoms, are done. Assumes nothing.
use mathlib.Core.Path.{◌≡◌, sym, ◌∙◌, ap, ap₂}
use mathlib.Core.Bool.{Bool, true, false, ◌||◌}
use mathlib.Core.Logic.{◌⊎◌, inl, inr}
use mathlib.Core.List.{List}
use mathlib.Core.Option.{none, some}
use Prim.Native.Nat.{ℕ, ◌+◌, ◌-◌, ◌≤◌, ◌<◌}
use native.Mathlib.Nat.{sub-eq-zero_of_le}
use native.Mathlib.Omega.{arith}
use borrow.Author.Tests.{eq-eqb, ne_eqb, lt-ltb}
use Rattle.covering.specs.Lists.{any}
use Rattle.covering.specs.Term.{Term, var, Question, terms, eq_term}
use Rattle.covering.specs.Asking.{answer_relation, answer_most}
use Rattle.covering.specs.Record.{holding, size, args_at, atoms_at}
use Rattle.covering.proofs.Tests.{either, true→T}
use Rattle.covering.proofs.Lists.{any_append}
use Rattle.covering.proofs.Places.{atoms_none, terms_first}
use Rattle.reading.specs.Word.{byte}
use Rattle.reading.specs.Header.{atoms, question_at, atom_places, announced, answer_records}
use Rattle.reading.specs.Header.{question_atoms_at}
use Rattle.reading.specs.Book.{question_atoms}
use Rattle.reading.specs.Refusals.{used_places, answer_places}
use Rattle.reading.specs.Verdict.{wrong_place, wrong_answer, stands_in, loose_from, loose_variable}
use Rattle.reading.proofs.FoundQuestion.{atoms_after}
use Rattle.judging.specs.Judged.{wrong_record}

-- whether the variable b is one of these terms
abbrev has : ℕ → List Term → Bool
has b ts = any (eq_term (var b)) ts

module _ (B : List ℕ) where
  -- the answer record
  pub answer_wrong : (i : ℕ) → (byte B i ≡ answer_relation → ⊥) → wrong_answer B i ≡ some i
  unfolding wrong_answer
  answer_wrong i f = rw (ne_eqb (byte B i) answer_relation f)

  pub answer_right : (i : ℕ) → byte B i ≡ answer_relation
      → wrong_answer B i ≡ wrong_place B (answer_places B i) (i + 1) 0 (atom_places B)
  unfolding wrong_answer
  answer_right i e = rw (eq-eqb (byte B i) answer_relation e)

  -- where it is announced, and where it is not
  pub not_announced : answer_records B ≡ 0 → announced B ≡ false
  not_announced e = go (either (announced B))
    where
      go : (announced B ≡ true) ⊎ (announced B ≡ false) → announced B ≡ false
      go (inl t) = let x : ◌≡◌ {A = ℕ} 1 0 = rw t at e in absurd (omega arith)
      go (inr f) = f

  pub is_announced : (answer_records B ≡ 0 → ⊥) → announced B ≡ true
  is_announced ne = go (either (announced B))
    where
      go : (announced B ≡ true) ⊎ (announced B ≡ false) → announced B ≡ true
      go (inl t) = t
      go (inr f) = absurd (ne (rw f))

  pub record_none : announced B ≡ false → wrong_record B ≡ none
  record_none e = rw e

  pub record_some : announced B ≡ true → wrong_record B ≡ wrong_answer B (question_at B)
  record_some e = rw e

  -- its places, of which u after the first are used
  pub record_places : announced B ≡ true → (i u : ℕ) → i ≡ question_at B → byte B i ≡ answer_relation
      → u ≡ used_places B (i + 2) (answer_most - 1)
      → wrong_record B ≡ wrong_place B (1 + u) (i + 1) 0 (atom_places B)
  record_places t i u at e d =
      record_some t
      ∙ ap (wrong_answer B) (sym at)
      ∙ answer_right i e
      ∙ ap (λ (k : ℕ). wrong_place B k (i + 1) 0 (atom_places B)) (omega (arith, d))

  pub variable_none : announced B ≡ false → loose_variable B ≡ none
  unfolding loose_variable
  variable_none e = rw e

  variable_some : announced B ≡ true
      → loose_variable B ≡ loose_from B (question_atoms B) (question_at B + 1) (atom_places B)
  unfolding loose_variable
  variable_some e = rw e

  -- the atoms of a question at q, which start after its answer record, of w places each
  pub variables_from : announced B ≡ true → (q n w : ℕ) → q ≡ question_at B → n ≡ atoms B → w ≡ atom_places B
      → loose_variable B ≡ loose_from B (atoms_at (holding w) B (q + 1 + w) n) (q + 1) w
  variables_from t q n w e d p =
      variable_some t
      ∙ ap₂ (λ (A : Question) (i : ℕ). loose_from B A i (atom_places B))
      (ap₂ (atoms_at (holding (atom_places B)) B) after (sym d)) (omega arith)
      ∙ ap (λ (x : ℕ). loose_from B (atoms_at (holding x) B (q + 1 + w) n) (q + 1) x) (sym p)
    where
      after : question_atoms_at B ≡ q + 1 + w
      after = omega (arith, atoms_after B (true→T _ t))

  -- among the atoms, of p places
  module _ (b p i n k : ℕ) where
    pub stands_end : n ≤ k → has b (terms (atoms_at (holding p) B i (n - k))) ≡ false
    stands_end h = rw (atoms_none (holding p) B i (n - k) (sub-eq-zero_of_le h))

    stands_more : k < n
        → has b (terms (atoms_at (holding p) B i (n - k)))
        ≡ has b (args_at B (i + 1) p) || has b (terms (atoms_at (holding p) B (i + 1 + p) (n - (k + 1))))
    stands_more h =
        ap (has b) (terms_first (holding p) B i (n - k) (omega arith))
        ∙ any_append (eq_term (var b)) (args_at B (i + 1) p)
        (terms (atoms_at (holding p) B (i + size (holding p)) (n - k - 1)))
        ∙ ap₂ (λ (a m : ℕ). has b (args_at B (i + 1) p) || has b (terms (atoms_at (holding p) B a m))) after fewer
      where
        after : i + size (holding p) ≡ i + 1 + p
        after = omega arith

        fewer : n - k - 1 ≡ n - (k + 1)
        fewer = omega arith

    module _ (h : k < n) where
      pub stands_found : has b (args_at B (i + 1) p) ≡ true
          → has b (terms (atoms_at (holding p) B i (n - k))) ≡ true
      stands_found e = stands_more h ∙ rw e

      pub stands_next : has b (args_at B (i + 1) p) ≡ false
          → has b (terms (atoms_at (holding p) B i (n - k)))
          ≡ has b (terms (atoms_at (holding p) B (i + 1 + p) (n - (k + 1))))
      stands_next e = stands_more h ∙ rw e

-- a byte that is one of m variables stands where it is one of the terms
module _ (m : ℕ) (A : Question) (b : ℕ) where
  pub is_variable : b < m → stands_in m A b ≡ has b (terms A)
  is_variable h = rw (lt-ltb b m h)
