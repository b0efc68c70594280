-- The shape of a question that may have answer places: it is asked for rows of n terms, no atom after its record is a
-- record, and every answer variable stands in an atom. A substitution and the form keep it. Assumes nothing.
use mathlib.Core.Path.{◌≡◌, refl, sym, ◌∙◌, ap, subst}
use mathlib.Core.Bool.{not}
use mathlib.Core.List.Memᴰ
use mathlib.Core.List.{List, [], ◌∷◌, map}
use Prim.Native.Nat.{ℕ, ◌+◌, ◌≤◌}
use native.Mathlib.Omega.{arith}
use lib.ListN.{length, length-map}
use Rattle.covering.specs.Lists.{◌∈◌}
use Rattle.covering.specs.Term.{Term, var, con, Atom, Question, Sub, on_term, on_atom, on_question, terms, eq_atom}
use Rattle.covering.specs.Form.{dedup, numbering, form}
use Rattle.covering.specs.Asking.{Asking, answer_atom, with_answer, joined, asking, records, NoRecord, Stands, Shaped}
use Rattle.covering.proofs.Tests.{not_of}
use Rattle.covering.proofs.Lists.{keep_all}
use Rattle.covering.proofs.Terms.{var≢con, eq_atom→eq, terms_in, terms_out, terms_on}
use Rattle.covering.proofs.Form.{dedup_in, dedup_out}
use Rattle.covering.proofs.FormSizes.{dedup_few}
use Rattle.covering.proofs.Asked.{free_part, free_on, after_in, after_on, after_length, asking_joined}

pub shaped_joined : (q : Asking) → NoRecord q.atoms → Stands q → Shaped (length q.answer) (joined q)
shaped_joined q f s =
    record {
      places = ap (λ (p : Asking). length p.answer) same;
      is = ap joined same;
      free = subst (λ (p : Asking). NoRecord p.atoms) (sym same) f;
      stands = subst Stands (sym same) s;
    }
  where
    same : asking (joined q) ≡ q
    same = asking_joined q f

pub shaped_free : (A : Question) → NoRecord A → Shaped 0 A
shaped_free A f = shaped_joined (record { answer = []; atoms = A }) f (λ n m. absurd (Memᴰ.not-nil m))

module _ {n : ℕ} {M : Question} (s : Shaped n M) where
  -- its atoms are atoms of the conjunction, which has one more where there is a record
  pub shaped_in : {a : Atom} → a ∈ (asking M).atoms → a ∈ M
  shaped_in {a} m = subst (λ (A : Question). a ∈ A) s.is (after_in (asking M).answer (asking M).atoms m)

  pub shaped_length : length M ≡ records (asking M).answer + length (asking M).atoms
  shaped_length = sym (ap length s.is) ∙ after_length (asking M).answer (asking M).atoms

-- and what has the shape 0 is its own atoms
pub shaped_none : {M : Question} → Shaped 0 M → asking M ≡ record { answer = []; atoms = M }
shaped_none {M} s = λ i. record { answer = none i; atoms = whole i }
  where
    empty : (ts : List Term) → length ts ≡ 0 → ts ≡ []
    empty [] e = refl
    empty (t ∷ ts) e = absurd (omega arith)

    none : (asking M).answer ≡ []
    none = empty (asking M).answer s.places

    whole : (asking M).atoms ≡ M
    whole = sym (ap (λ (ts : List Term). with_answer ts (asking M).atoms) none) ∙ s.is

pub none_free : {M : Question} → Shaped 0 M → NoRecord M
none_free s = subst (λ (p : Asking). NoRecord p.atoms) (shaped_none s) s.free

-- as many places, as many records
pub records_same : (ts us : List Term) → length ts ≡ length us → records ts ≡ records us
records_same [] [] e = refl
records_same [] (u ∷ us) e = absurd (omega arith)
records_same (t ∷ ts) [] e = absurd (omega arith)
records_same (t ∷ ts) (u ∷ us) e = refl

-- a substitution
abbrev pub on_asking : Sub → Asking → Asking
on_asking s q = record { answer = map (on_term s) q.answer; atoms = on_question s q.atoms }

pub joined_on : (s : Sub) (q : Asking) → on_question s (joined q) ≡ joined (on_asking s q)
joined_on s q = after_on s q.answer q.atoms

pub stands_on : (s : Sub) (q : Asking) → Stands q → Stands (on_asking s q)
stands_on s q h n m = at (Memᴰ.of_map (on_term s) q.answer m)
  where
    by : (t : Term) → t ∈ q.answer → on_term s t ≡ var n → var n ∈ terms (on_question s q.atoms)
    by (var x) k e =
        subst (λ (l : List Term). var n ∈ l) (sym (terms_on s q.atoms))
        (Memᴰ.cast (sym e) (Memᴰ.map (on_term s) (h x k)))
    by (con c) k e = absurd (var≢con (sym e))

    at : (t : Term) × (t ∈ q.answer) × (on_term s t ≡ var n) → var n ∈ terms (on_question s q.atoms)
    at x = by x.0 x.1 x.2

-- the form: no atom equals the record, so that equal atoms are dropped among the others
dedup_after : (ts : List Term) (A : Question) → NoRecord A → dedup (with_answer ts A) ≡ with_answer ts (dedup A)
dedup_after [] A f = refl
dedup_after (t ∷ ts) A f =
    ap (λ (B : Question). answer_atom (t ∷ ts) ∷ B)
    (keep_all (λ b. not (eq_atom (answer_atom (t ∷ ts)) b)) (dedup A)
    (λ b m. not_of (eq_atom (answer_atom (t ∷ ts)) b) (λ e. other b m (eq_atom→eq (answer_atom (t ∷ ts)) b e))))
  where
    other : (b : Atom) → b ∈ dedup A → answer_atom (t ∷ ts) ≡ b → ⊥
    other b m e = f b (dedup_out A b m) (sym (ap (λ (x : Atom). x.rel) e))

-- its numbering goes by the answer's terms first
abbrev pub formed : Asking → Asking
formed q = on_asking (numbering (dedup (joined q))) (record { answer = q.answer; atoms = dedup q.atoms })

module _ (q : Asking) (f : NoRecord q.atoms) where
  pub form_joined : form (joined q) ≡ joined (formed q)
  unfolding form
  form_joined =
      ap (on_question (numbering (dedup (joined q)))) (dedup_after q.answer q.atoms f)
      ∙ after_on (numbering (dedup (joined q))) q.answer (dedup q.atoms)

  pub formed_free : NoRecord (formed q).atoms
  formed_free = free_on (numbering (dedup (joined q))) (dedup q.atoms) (free_part (dedup_out q.atoms) f)

  pub asking_form : asking (form (joined q)) ≡ formed q
  asking_form = ap asking form_joined ∙ asking_joined (formed q) formed_free

  pub shaped_form : Stands q → Shaped (length q.answer) (form (joined q))
  shaped_form s =
      subst (λ (n : ℕ). Shaped n (form (joined q))) (length-map q.answer (on_term ν))
      (subst (Shaped (length (formed q).answer)) (sym form_joined)
      (shaped_joined (formed q) formed_free (stands_on ν first stay)))
    where
      ν : Sub
      ν = numbering (dedup (joined q))

      first : Asking
      first = record { answer = q.answer; atoms = dedup q.atoms }

      stay : Stands first
      stay n m =
          let x = terms_out q.atoms (s n m) in
          terms_in (dedup q.atoms) (dedup_in q.atoms x.0 x.1) x.2

  -- it has no more atoms than the question, and each is one of them with other variables
  pub formed_few : length (asking (form (joined q))).atoms ≤ length q.atoms
  formed_few =
      rw asking_form
      (omega (arith, length-map (dedup q.atoms) (on_atom (numbering (dedup (joined q)))), dedup_few q.atoms))

  pub formed_atom : (a : Atom) → a ∈ (asking (form (joined q))).atoms
      → (b : Atom) × (b ∈ q.atoms) × (on_atom (numbering (dedup (joined q))) b ≡ a)
  formed_atom a m = at (Memᴰ.of_map (on_atom ν) (dedup q.atoms) (subst (λ (p : Asking). a ∈ p.atoms) asking_form m))
    where
      ν : Sub
      ν = numbering (dedup (joined q))

      at : (b : Atom) × (b ∈ dedup q.atoms) × (on_atom ν b ≡ a) → (b : Atom) × (b ∈ q.atoms) × (on_atom ν b ≡ a)
      at x = (x.0, dedup_out q.atoms x.0 x.1, x.2)

-- what has a shape has a form of that shape
pub form_shaped : {n : ℕ} {M : Question} → Shaped n M → Shaped n (form M)
form_shaped {n} {M} s =
    subst (λ (k : ℕ). Shaped k (form M)) s.places
    (subst (λ (A : Question). Shaped (length (asking M).answer) (form A)) s.is
    (shaped_form (asking M) s.free s.stands))

-- without atoms there are only constants to answer with
pub only_constants : (q : Asking) → Stands q → q.atoms ≡ [] → (t : Term) → t ∈ q.answer → (c : ℕ) × (t ≡ con c)
only_constants q s e (con c) m = (c, refl)
only_constants q s e (var n) m = absurd (Memᴰ.not-nil (subst (λ (A : Question). var n ∈ terms A) e (s n m)))
