-- A question with answer places as one conjunction, and back; where no atom is an answer record (`NoRecord`). Assumes
-- nothing.
use mathlib.Core.Path.{◌≡◌, refl, sym, ◌∙◌, ap}
use mathlib.Core.Bool.{not}
use mathlib.Core.Logic.{◌⊎◌, inl, inr}
use mathlib.Core.List.Memᴰ
use mathlib.Core.List.{List, [], ◌∷◌, ◌++◌, map}
use Prim.Native.Nat.{◌+◌, ◌≤◌}
use native.Mathlib.Omega.{arith}
use lib.Dec.{T, eqb, eqb→eq}
use lib.ListN.{length}
use Rattle.covering.specs.Lists.{◌∈◌}
use Rattle.covering.specs.Term.{Term, Atom, Question, Sub, on_term, on_atom, on_question, terms}
use Rattle.covering.specs.Asking.{Asking, answer_relation, answer_atom, with_answer, joined, asking, records, NoRecord}
use Rattle.covering.proofs.Tests.{decide, not_of, cond_yes, cond_no}
use Rattle.covering.proofs.Terms.{atom_path}

-- no answer record: in a part, in two parts together, after a substitution
pub free_part : {A B : Question} → ((a : Atom) → a ∈ A → a ∈ B) → NoRecord B → NoRecord A
free_part h f a m = f a (h a m)

pub free_append : (A B : Question) → NoRecord A → NoRecord B → NoRecord (A ++ B)
free_append A B f g a m = at (Memᴰ.append_cases A m)
  where
    at : (a ∈ A) ⊎ (a ∈ B) → ¬ (a.rel ≡ answer_relation)
    at (inl n) = f a n
    at (inr n) = g a n

pub free_on : (s : Sub) (A : Question) → NoRecord A → NoRecord (on_question s A)
free_on s A f b m = at (Memᴰ.of_map (on_atom s) A m)
  where
    at : (a : Atom) × (a ∈ A) × (on_atom s a ≡ b) → ¬ (b.rel ≡ answer_relation)
    at h e = f h.0 h.1 (ap (λ (x : Atom). x.rel) h.2 ∙ e)

-- what stands after the record, if there is one
pub after_in : (ts : List Term) (A : Question) {a : Atom} → a ∈ A → a ∈ with_answer ts A
after_in [] A m = m
after_in (t ∷ ts) A m = Memᴰ.tail m

pub after_out : (ts : List Term) (A : Question) {a : Atom} → a ∈ with_answer ts A → ¬ (a.rel ≡ answer_relation) → a ∈ A
after_out [] A m f = m
after_out (t ∷ ts) A {a} m f = at (Memᴰ.cases_cons m)
  where
    at : (a ≡ answer_atom (t ∷ ts)) ⊎ (a ∈ A) → a ∈ A
    at (inl e) = absurd (f (ap (λ (x : Atom). x.rel) e))
    at (inr n) = n

-- the record stands in front of what is appended, and a substitution goes through it
pub after_append : (ts : List Term) (A B : Question) → with_answer ts A ++ B ≡ with_answer ts (A ++ B)
after_append [] A B = refl
after_append (t ∷ ts) A B = refl

pub after_on : (s : Sub) (ts : List Term) (A : Question)
    → on_question s (with_answer ts A) ≡ with_answer (map (on_term s) ts) (on_question s A)
after_on s [] A = refl
after_on s (t ∷ ts) A = refl

pub after_terms : (ts : List Term) (A : Question) → terms (with_answer ts A) ≡ ts ++ terms A
after_terms [] A = refl
after_terms (t ∷ ts) A = refl

pub after_length : (ts : List Term) (A : Question) → length (with_answer ts A) ≡ records ts + length A
after_length [] A = omega arith
after_length (t ∷ ts) A = omega arith

-- a question whose first atom is no record has no answer places
pub asking_free : (A : Question) → NoRecord A → asking A ≡ record { answer = []; atoms = A }
asking_free [] f = refl
asking_free (a ∷ A) f =
    cond_no (eqb a.rel answer_relation) _ _
    (not_of (eqb a.rel answer_relation) (λ t. f a (Memᴰ.head refl) (eqb→eq a.rel answer_relation t)))

-- from a question with answer places and back
pub asking_after : (ts : List Term) (A : Question) → NoRecord A
    → asking (with_answer ts A) ≡ record { answer = ts; atoms = A }
asking_after [] A f = asking_free A f
asking_after (t ∷ ts) A f = refl

pub asking_joined : (q : Asking) → NoRecord q.atoms → asking (joined q) ≡ q
asking_joined q f = asking_after q.answer q.atoms f

-- from a conjunction and back: a record without terms would be lost
pub joined_asking : (A : Question) → ((a : Atom) → a ∈ A → 1 ≤ length a.args) → joined (asking A) ≡ A
joined_asking [] h = refl
joined_asking (a ∷ A) h = at (decide (eqb a.rel answer_relation))
  where
    some : (ts : List Term) → 1 ≤ length ts → with_answer ts A ≡ answer_atom ts ∷ A
    some [] k = absurd (omega arith)
    some (t ∷ ts) k = refl

    at : T (eqb a.rel answer_relation) ⊎ T (not (eqb a.rel answer_relation)) → joined (asking (a ∷ A)) ≡ a ∷ A
    at (inl t) =
        rw (cond_yes (eqb a.rel answer_relation) _ _ t)
        (some a.args (h a (Memᴰ.head refl))
        ∙ ap (λ (b : Atom). b ∷ A) (atom_path (sym (eqb→eq a.rel answer_relation t)) refl))
    at (inr t) = ap joined (cond_no (eqb a.rel answer_relation) _ _ t)
