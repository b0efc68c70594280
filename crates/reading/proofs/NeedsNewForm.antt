-- "13, no old form, exactly when a sound book has a relation of over four places or a variable above 31": a byte has no
-- old form exactly if the book that is meant needs the new one, and a book that needs it not keeps to the old one.
-- Assumes nothing.
use mathlib.Core.Path.{◌≡◌, refl, subst}
use mathlib.Core.Logic.{◌⊎◌, inl, inr}
use mathlib.Core.List.Memᴰ
use mathlib.Core.List.{List, [], ◌∷◌}
use Prim.Native.Nat.{ℕ, ◌≤◌, ◌<◌}
use native.Mathlib.Omega.{arith}
use lib.ListN.{length, get_or}
use Rattle.covering.specs.Lists.{◌∈◌}
use Rattle.covering.specs.Term.{Term, var, con, Atom, Question, terms}
use Rattle.covering.specs.Asking.{answer_atom, with_answer}
use Rattle.covering.specs.Rule.{Rule}
use Rattle.covering.proofs.Tests.{le_or_lt}
use Rattle.covering.proofs.Terms.{terms_in, terms_out}
use Rattle.reading.specs.Header.{BookForm, old}
use Rattle.reading.specs.Book.{Book}
use Rattle.reading.specs.Written.{BookTerm, BookAtom, BookRule, BookFits}
use Rattle.reading.specs.Copy.{NeedsNew, relation, in_body, in_head, in_question}

-- a book that keeps to the old form needs no new one
module _ (b : Book) (fits : BookFits old b) where
  atoms_old : (A : Question) → ((a : Atom) → a ∈ A → BookAtom old b a) → (n : ℕ) → var n ∈ terms A → 32 ≤ n → ⊥
  atoms_old A f n m h =
      let t = terms_out A m in
      let l : n < 32 = (f t.0 t.1).terms (var n) t.2 in
      omega arith

  joined_old : (ts : List Term) → ((t : Term) → t ∈ ts → BookTerm old b t) → (n : ℕ)
      → var n ∈ terms (with_answer ts b.question.atoms) → 32 ≤ n → ⊥
  joined_old [] f n m h = atoms_old b.question.atoms fits.atoms n m h
  joined_old (t ∷ ts) f n m h = go (Memᴰ.append_cases (t ∷ ts) m)
    where
      go : (var n ∈ t ∷ ts) ⊎ (var n ∈ terms b.question.atoms) → ⊥
      go (inl k) = let l : n < 32 = f (var n) k in omega arith
      go (inr k) = atoms_old b.question.atoms fits.atoms n k h

  pub old_suffices : NeedsNew b → ⊥
  old_suffices (relation r l h) = omega (arith, (fits.places r l).1)
  old_suffices (in_body r n m v h) = atoms_old r.body (fits.rules r m).body n v h
  old_suffices (in_head r n m v h) = atoms_old r.head (fits.rules r m).head n v h
  old_suffices (in_question n v h) = joined_old b.question.answer fits.answer n v h

-- and one that needs no new one keeps to it
module _ (f : BookForm) (b : Book) (fits : BookFits f b) (no : NeedsNew b → ⊥) where
  small : (n : ℕ) → (32 ≤ n → ⊥) → n < 32
  small n g = go (le_or_lt 32 n)
    where
      go : (32 ≤ n) ⊎ (n < 32) → n < 32
      go (inl h) = absurd (g h)
      go (inr h) = h

  term_old : (t : Term) → BookTerm f b t → ((n : ℕ) → t ≡ var n → 32 ≤ n → ⊥) → BookTerm old b t
  term_old (var n) h g = small n (g n refl)
  term_old (con c) h g = h

  atom_old : (A : Question) → ((n : ℕ) → var n ∈ terms A → 32 ≤ n → ⊥) → (a : Atom) → a ∈ A → BookAtom f b a
      → BookAtom old b a
  atom_old A g a m k =
      record {
        relation = k.relation;
        places = k.places;
        terms = λ t u.
            term_old t (k.terms t u) (λ n e. g n (terms_in A m (subst (λ (x : Term). x ∈ a.args) e u)));
      }

  rule_old : (r : Rule) → r ∈ b.rules → BookRule f b r → BookRule old b r
  rule_old r m k =
      record {
        the_body_count = k.the_body_count;
        the_head_count = k.the_head_count;
        body = λ a u. atom_old r.body (λ n v h. no (in_body r n m v h)) a u (k.body a u);
        head = λ a u. atom_old r.head (λ n v h. no (in_head r n m v h)) a u (k.head a u);
      }

  -- the answer's terms and the atoms' are those of the whole
  answer_whole : (ts : List Term) (A : Question) (t : Term) → t ∈ ts → t ∈ terms (with_answer ts A)
  answer_whole [] A t m = absurd (Memᴰ.not-nil m)
  answer_whole (u ∷ ts) A t m = terms_in (answer_atom (u ∷ ts) ∷ A) (Memᴰ.head refl) m

  atoms_whole : (ts : List Term) (A : Question) (t : Term) → t ∈ terms A → t ∈ terms (with_answer ts A)
  atoms_whole [] A t m = m
  atoms_whole (u ∷ ts) A t m = Memᴰ.append_right (u ∷ ts) m

  few : (r : ℕ) → r < length b.places → get_or b.places r 0 ≤ 4
  few r l = go (le_or_lt (get_or b.places r 0) 4)
    where
      go : (get_or b.places r 0 ≤ 4) ⊎ (4 < get_or b.places r 0) → get_or b.places r 0 ≤ 4
      go (inl h) = h
      go (inr h) = absurd (no (relation r l h))

  pub no_need_fits : BookFits old b
  no_need_fits =
      record {
        relations = fits.relations;
        constants = fits.constants;
        rule_count = fits.rule_count;
        atom_count = fits.atom_count;
        allowed = fits.allowed;
        places = λ r l. ((fits.places r l).0, few r l);
        rules = λ r m. rule_old r m (fits.rules r m);
        atoms = λ a m.
            atom_old b.question.atoms
            (λ n v h. no (in_question n (atoms_whole b.question.answer b.question.atoms (var n) v) h))
            a m (fits.atoms a m);
        answer_count = fits.answer_count;
        answer = λ t m.
            term_old t (fits.answer t m)
            (λ n e h.
            no
            (in_question n
            (answer_whole b.question.answer b.question.atoms (var n)
            (subst (λ (x : Term). x ∈ b.question.answer) e m)) h));
        stands = fits.stands;
      }
