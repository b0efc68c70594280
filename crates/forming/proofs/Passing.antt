-- Laws of a pass over atoms that stand one after the other in bytes, of which k are passed: the next one is taken up,
-- the others are left. Assumes nothing.
use mathlib.Core.Path.{◌≡◌, refl, sym, ◌∙◌, ap, subst}
use mathlib.Core.Bool.{Bool, true, false}
use mathlib.Core.List.Memᴰ
use mathlib.Core.List.{List, [], ◌∷◌, ◌++◌, append-nil}
use Prim.Native.Nat.{ℕ, ◌+◌, ◌*◌, ◌-◌, ◌<◌, ◌≤◌}
use native.Mathlib.Omega.{arith}
use lib.ListN.{get_or}
use lib.Seq.{append_snoc}
use Rattle.covering.specs.Lists.{◌∈◌, any}
use Rattle.covering.specs.Term.{Atom, Question, terms, eq_atom}
use Rattle.covering.specs.Record.{stored, atoms_at, question_of}
use Rattle.covering.specs.Form.{dedup}
use Rattle.forming.specs.Building.{has, added, added_all, all_seen}
use Rattle.records.proofs.Onward.{nth, from, from_start, from_more, from_none}
use Rattle.forming.proofs.Leftward.{dedup_new, seen_append}

module _ (B : List ℕ) (i n : ℕ) where
  abbrev pub left : ℕ → Question
  left = from stored B i n

  abbrev pub next : ℕ → Atom
  next = nth stored B i

  pub left_start : left 0 ≡ atoms_at stored B i n
  left_start = from_start stored B i n

  -- when all are passed
  module _ (k : ℕ) (h : n ≤ k) where
    pub some_none : (f : Atom → Bool) → any f (left k) ≡ false
    some_none f = rw (from_none stored B i n k h)

    pub terms_none : (S : List ℕ) → all_seen S (terms (left k)) ≡ S
    unfolding all_seen
    terms_none S = rw (from_none stored B i n k h)

    pub added_done : (K : Question) → added_all eq_atom K (left k) ≡ K
    unfolding added_all
    added_done K = rw (from_none stored B i n k h)

    pub differ_none : dedup (left k) ≡ left k
    differ_none = rw (from_none stored B i n k h)

    pub split_done : (A P : Question) → A ≡ P ++ left k → P ≡ A
    split_done A P e = sym (e ∙ ap (λ R. P ++ R) (from_none stored B i n k h) ∙ append-nil P)

  module _ (k : ℕ) (lt : k < n) where
    more : left k ≡ next k ∷ left (k + 1)
    more = from_more stored B i n k lt

    -- whether a test holds of some
    pub some_hit : (f : Atom → Bool) → f (next k) ≡ true → any f (left k) ≡ true
    some_hit f e = rw (more, e)

    pub some_miss : (f : Atom → Bool) → f (next k) ≡ false → any f (left k) ≡ any f (left (k + 1))
    some_miss f e = rw (more, e)

    -- the variables of their terms
    pub terms_next : (S : List ℕ)
        → all_seen S (terms (left k)) ≡ all_seen (all_seen S (next k).args) (terms (left (k + 1)))
    terms_next S = ap (λ A. all_seen S (terms A)) more ∙ seen_append S (next k).args (terms (left (k + 1)))

    -- added to those kept
    pub added_next : (K : Question)
        → added_all eq_atom K (left k) ≡ added_all eq_atom (added eq_atom K (next k)) (left (k + 1))
    unfolding added_all
    added_next K = rw more

    -- none of them dropped
    pub differ_next : has eq_atom (atoms_at stored B (i + k * 7 + 7) (n - (k + 1))) (next k) ≡ false
        → dedup (left (k + 1)) ≡ left (k + 1) → dedup (left k) ≡ left k
    differ_next new e = ap dedup more ∙ dedup_new (next k) _ others e ∙ sym more
      where
        others : has eq_atom (left (k + 1)) (next k) ≡ false
        others = ap (λ (j : ℕ). has eq_atom (atoms_at stored B j (n - (k + 1))) (next k)) (omega arith) ∙ new

    -- the last part of a question
    module _ (A P : Question) (e : A ≡ P ++ left k) where
      pub split_in : next k ∈ A
      split_in =
          subst
          (λ (l : Question). next k ∈ l)
          (sym (e ∙ ap (λ R. P ++ R) more))
          (Memᴰ.append_right P (Memᴰ.head refl))

      pub split_next : A ≡ (P ++ next k ∷ []) ++ left (k + 1)
      split_next = e ∙ ap (λ R. P ++ R) more ∙ sym (append_snoc P (next k) _)

-- a record's atoms, of which none is passed
pub question_left : (B : List ℕ) → question_of stored B ≡ left B 1 (get_or B 0 0) 0
unfolding question_of
question_left B = sym (left_start B 1 (get_or B 0 0))
