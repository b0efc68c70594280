-- Rewritings keep the shape: a rewriting has as many answer places as its question, no record among its other atoms,
-- and every answer variable stands in one of them. An answer variable stands in the record, which is always left, and
-- so it is never in the class of an existential variable: where its atom is sent, a body atom has its class. Assumes
-- nothing.
use mathlib.Core.Path.{◌≡◌, refl, sym, ◌∙◌, ap, subst}
use mathlib.Core.Bool.{not}
use mathlib.Core.Logic.{◌⊎◌, inl, inr}
use mathlib.Core.List.Memᴰ
use mathlib.Core.List.{List, [], ◌∷◌, ◌++◌, map}
use Prim.Native.Nat.{ℕ, zero, suc}
use lib.Dec.{T}
use lib.ListN.{length, length-map}
use Rattle.covering.specs.Lists.{◌∈◌}
use Rattle.covering.specs.Term.{Term, var, con, Atom, Question, Sub, on_term, on_atom, on_question, terms, Below}
use Rattle.covering.specs.Form.{form}
use Rattle.covering.specs.Rule.{Rule}
use Rattle.covering.specs.Asking.{Asking, with_answer, joined, asking, NoRecord, Stands, Shaped}
use Rattle.covering.proofs.Tests.{decide}
use Rattle.covering.proofs.Terms.{var≢con, terms_in, terms_out}
use Rattle.covering.proofs.Asked.{free_part, free_append, free_on, after_append, after_on, after_terms}
use Rattle.covering.proofs.Shaped.{shaped_form}
use Rattle.unification.specs.Classes.{Kernel, HoldsPairs}
use Rattle.unification.specs.Choice.{Choice, left, place_pairs, to_head, pairing}
use Rattle.unification.specs.Step.{up, move, mem_term, rewriting, rewritings}
use Rattle.unification.proofs.Classes.{unify_sound}
use Rattle.unification.proofs.Choices.{split_choice, left_in}
use Rattle.unification.proofs.Listed.{Made, rewritings_out}
use Rattle.unification.proofs.Moved.{moved_apart}
use Rattle.unification.proofs.Pairs.{mem_term→mem, no_clash, head_of}
use Rattle.unification.proofs.Valid.{valid_alone}
use Rattle.unification.proofs.AnswerRecord.{never_sent}

-- a term at some place is in one class with the term at the same place
zip_find : (s : Sub) (ts us : List Term) (t : Term) → HoldsPairs (Kernel s) (place_pairs ts us) → t ∈ ts
    → (u : Term) × (u ∈ us) × Kernel s t u
zip_find s [] us t h m = absurd (Memᴰ.not-nil m)
zip_find s (x ∷ ts) [] t h m = absurd (no_clash s h)
zip_find s (x ∷ ts) (y ∷ us) t h m =
    at (Memᴰ.cases_cons m) (λ n. zip_find s ts us t (λ p k. h p (Memᴰ.tail k)) n)
  where
    at : (t ≡ x) ⊎ (t ∈ ts) → (t ∈ ts → (u : Term) × (u ∈ us) × Kernel s t u)
        → (u : Term) × (u ∈ y ∷ us) × Kernel s t u
    at (inl e) below = (y, Memᴰ.head refl, ap (on_term s) e ∙ h (x, y) (Memᴰ.head refl))
    at (inr n) below = let r = below n in (r.0, Memᴰ.tail r.1, r.2)

-- what is left of a question: its record, if it has one, and some of its other atoms; the rest is sent
record Remains (σ : Sub) (H : Question) (ts : List Term) (A : Question) (ds : Choice) : Type 0 where
  others : Question
  is : left ds (with_answer ts A) ≡ with_answer ts others
  inside : (b : Atom) → b ∈ others → b ∈ A
  split : (b : Atom) → b ∈ A → (b ∈ others) ⊎ ((d : ℕ) × HoldsPairs (Kernel σ) (to_head H d b))

remains : (σ : Sub) (H : Question) (ts : List Term) (A : Question) (ds : Choice) → NoRecord H
    → HoldsPairs (Kernel σ) (pairing ds (with_answer ts A) H) → Remains σ H ts A ds
remains σ H [] A ds f h =
    record {
      others = left ds A;
      is = refl;
      inside = left_in ds A;
      split = λ b m. split_choice (Kernel σ) ds A H b h m;
    }
remains σ H (t ∷ ts) A [] f h = record { others = A; is = refl; inside = λ b m. m; split = λ b m. inl m }
remains σ H (t ∷ ts) A (zero ∷ ds) f h =
    record {
      others = left ds A;
      is = refl;
      inside = left_in ds A;
      split = λ b m. split_choice (Kernel σ) ds A H b h m;
    }
remains σ H (t ∷ ts) A (suc d ∷ ds) f h =
    absurd (never_sent σ H d (t ∷ ts) f (λ p m. h p (Memᴰ.append_left (pairing ds A H) m)))

module _ (k : ℕ) (r : Rule) (free_body : NoRecord r.body) (free_head : NoRecord r.head) (q : Asking)
    (free : NoRecord q.atoms) (stands : Stands q) (below : Below k (joined q)) {n : ℕ} {P : Question}
    (w : Made k r (joined q) n P)
  where
    abbrev r' : Rule
    r' = move k r

    abbrev σ : Sub
    σ = w.classes

    rem : Remains σ r'.head q.answer q.atoms w.choice
    rem =
        remains σ r'.head q.answer q.atoms w.choice (free_on (up k) r.head free_head)
        (unify_sound (pairing w.choice (joined q) r'.head) var σ w.found).holds

    -- the atoms that are left and the body, then the rewriting before it is put in form
    abbrev atoms : Question
    atoms = rem.others ++ r'.body

    abbrev raw : Asking
    raw = record { answer = map (on_term σ) q.answer; atoms = on_question σ atoms }

    is_form : form (joined raw) ≡ P
    is_form =
        ap form
        (sym
        (ap (λ (L : Question). rewriting σ L r') rem.is
        ∙ ap (on_question σ) (after_append q.answer rem.others r'.body)
        ∙ after_on σ q.answer atoms))
        ∙ w.is

    raw_free : NoRecord raw.atoms
    raw_free =
        free_on σ atoms
        (free_append rem.others r'.body (free_part rem.inside free) (free_on (up k) r.body free_body))

    -- a term of an atom that is left, or of the body, stands in the rewriting
    stays : (t : Term) (y : ℕ) (b : Atom) → on_term σ t ≡ var y → b ∈ atoms → t ∈ b.args
        → var y ∈ terms raw.atoms
    stays t y b e m h =
        terms_in raw.atoms (Memᴰ.map (on_atom σ) m) (Memᴰ.cast (sym e) (Memᴰ.map (on_term σ) h))

    raw_stands : Stands raw
    raw_stands y m = first (Memᴰ.of_map (on_term σ) q.answer m)
      where
        -- the variable x of the record is in the class of a head's term
        met : (x : ℕ) → var x ∈ q.answer → σ x ≡ var y → (u : Term) → u ∈ terms r'.head → σ x ≡ on_term σ u
            → var y ∈ terms raw.atoms
        met x h e (con c) g s = absurd (var≢con (sym e ∙ s))
        met x h e (var z) g s = at (decide (mem_term (var z) (terms r'.body)))
          where
            record_left : var x ∈ terms (left w.choice (joined q))
            record_left =
                subst (λ (l : List Term). var x ∈ l)
                (sym (ap terms rem.is ∙ after_terms q.answer rem.others))
                (Memᴰ.append_left (terms rem.others) h)

            in_question : var x ∈ terms (joined q)
            in_question =
                subst (λ (l : List Term). var x ∈ l) (sym (after_terms q.answer q.atoms))
                (Memᴰ.append_left (terms q.atoms) h)

            at : T (mem_term (var z) (terms r'.body)) ⊎ T (not (mem_term (var z) (terms r'.body)))
                → var y ∈ terms raw.atoms
            at (inl t) =
                let b = terms_out r'.body (mem_term→mem (terms r'.body) t) in
                stays (var z) y b.0 (sym s ∙ e) (Memᴰ.append_right rem.others b.1) b.2
            at (inr t) =
                let same : var x ≡ var z =
                valid_alone r' (left w.choice (joined q)) σ w.ok (var z) g t (var x)
                (Memᴰ.append_left (terms r'.body ++ terms r'.head) record_left)
                s in
                absurd (moved_apart k (joined q) r.head below x in_question (Memᴰ.cast same g))

        -- by the atom in which it stands
        by : (x : ℕ) → var x ∈ q.answer → σ x ≡ var y → (b : Atom) → var x ∈ b.args
            → (b ∈ rem.others) ⊎ ((d : ℕ) × HoldsPairs (Kernel σ) (to_head r'.head d b))
            → var y ∈ terms raw.atoms
        by x h e b i (inl c) = stays (var x) y b e (Memᴰ.append_left r'.body c) i
        by x h e b i (inr d) =
            let c = head_of σ r'.head d.0 b d.1 in
            let u = zip_find σ b.args c.0.args (var x) (λ p l. c.2 p (Memᴰ.tail l)) i in
            met x h e u.0 (terms_in r'.head c.1 u.1) u.2

        second : (t : Term) → t ∈ q.answer → on_term σ t ≡ var y → var y ∈ terms raw.atoms
        second (con c) h e = absurd (var≢con (sym e))
        second (var x) h e =
            let a = terms_out q.atoms (stands x h) in by x h e a.0 a.2 (rem.split a.0 a.1)

        first : (t : Term) × (t ∈ q.answer) × (on_term σ t ≡ var y) → var y ∈ terms raw.atoms
        first x = second x.0 x.1 x.2

    made_shaped : Shaped (length q.answer) P
    made_shaped =
        subst (λ (i : ℕ). Shaped i P) (length-map q.answer (on_term σ))
        (subst (Shaped (length raw.answer)) is_form (shaped_form raw raw_free raw_stands))

pub rewriting_shaped : {k n : ℕ} {r : Rule} {M P : Question} → NoRecord r.body → NoRecord r.head → Below k M → Shaped n M
    → P ∈ rewritings k r M → Shaped n P
rewriting_shaped {k} {n} {r} {M} {P} free_body free_head below s m =
    subst (λ (i : ℕ). Shaped i P) s.places
    (made_shaped k r free_body free_head (asking M) s.free s.stands (subst (Below k) (sym s.is) below)
    (rewritings_out (subst (λ (A : Question). P ∈ rewritings k r A) (sym s.is) m)).1)
