-- The desk's test is covering with answer places: where no atom is an answer record, it passes exactly where a map sends
-- the atoms to atoms and the answer, term for term, to the other's. Assumes nothing.
use mathlib.Core.Path.{◌≡◌, refl, sym, ◌∙◌, ap, subst}
use mathlib.Core.Logic.{◌⊎◌, inl, inr, ◌↔◌}
use mathlib.Core.List.Memᴰ
use mathlib.Core.List.{List, [], ◌∷◌, map}
use Prim.Native.Nat.{ℕ}
use native.Mathlib.Omega.{arith}
use borrow.Author.Tests.{eq-eqb, ne_eqb}
use lib.Dec.{T, eqb, eqb→eq, eqb_refl}
use lib.ListN.{length, length-map}
use Rattle.covering.specs.Lists.{◌∈◌, is_some}
use Rattle.covering.specs.Term.{Term, Atom, Question, on_term, on_atom}
use Rattle.covering.specs.Asking.{Asking, answer_atom, with_answer, joined, records, NoRecord}
use Rattle.covering.specs.Covers.{Covers, CoversAsking}
use Rattle.covering.specs.Desk.{covers_asking, covering_map}
use Rattle.covering.proofs.Tests.{either, both, fst_of, snd_of, true→T, false→no, none≢some}
use Rattle.covering.proofs.Lists.{none_of}
use Rattle.covering.proofs.Terms.{atom_path}
use Rattle.covering.proofs.Decides.{covers_decides}
use mathlib.Core.Bool.{Bool, true, false, cond, ◌&&◌}
use mathlib.Core.Option.{none, some}
use Rattle.covering.specs.Search.{Part, first_map, covers}
use Rattle.covering.specs.FirstMap.{FirstMap}
use Rattle.covering.proofs.FirstMap.{first_is}

-- as conjunctions, for answers of as many terms
to_joined : (ts us : List Term) (A C : Question) → CoversAsking (record { answer = ts; atoms = A }) (record { answer = us; atoms = C })
    → Covers (with_answer ts A) (with_answer us C)
to_joined [] [] A C c = record { by = c.by; sends = c.sends }
to_joined [] (u ∷ us) A C c = record { by = c.by; sends = λ a m. Memᴰ.tail (c.sends a m) }
to_joined (t ∷ ts) [] A C c = absurd (omega (arith, ap length c.answers))
to_joined (t ∷ ts) (u ∷ us) A C c = record { by = c.by; sends = λ a m. go a (Memᴰ.cases_cons m) }
  where
    go : (a : Atom) → (a ≡ answer_atom (t ∷ ts)) ⊎ (a ∈ A) → on_atom c.by a ∈ answer_atom (u ∷ us) ∷ C
    go a (inl e) = Memᴰ.head (ap (on_atom c.by) e ∙ atom_path refl c.answers)
    go a (inr m) = Memᴰ.tail (c.sends a m)

from_joined : (ts us : List Term) (A C : Question) → NoRecord A → NoRecord C → length ts ≡ length us
    → Covers (with_answer ts A) (with_answer us C)
    → CoversAsking (record { answer = ts; atoms = A }) (record { answer = us; atoms = C })
from_joined [] [] A C f g l c = record { by = c.by; answers = refl; sends = c.sends }
from_joined [] (u ∷ us) A C f g l c = absurd (omega arith)
from_joined (t ∷ ts) [] A C f g l c = absurd (omega arith)
from_joined (t ∷ ts) (u ∷ us) A C f g l c =
    record {
      by = c.by;
      answers = first (Memᴰ.cases_cons (c.sends (answer_atom (t ∷ ts)) (Memᴰ.head refl)));
      sends = λ a m. later a m (Memᴰ.cases_cons (c.sends a (Memᴰ.tail m)));
    }
  where
    first : (on_atom c.by (answer_atom (t ∷ ts)) ≡ answer_atom (u ∷ us)) ⊎ (on_atom c.by (answer_atom (t ∷ ts)) ∈ C)
        → map (on_term c.by) (t ∷ ts) ≡ u ∷ us
    first (inl e) = ap (λ (a : Atom). a.args) e
    first (inr m) = absurd (g _ m refl)

    later : (a : Atom) → a ∈ A → (on_atom c.by a ≡ answer_atom (u ∷ us)) ⊎ (on_atom c.by a ∈ C)
        → on_atom c.by a ∈ C
    later a m (inl e) = absurd (f a m (ap (λ (b : Atom). b.rel) e))
    later a m (inr k) = k

-- as many terms to answer with, and the conjunctions cover
by_parts : (p q : Asking)
    → covers_asking p q ≡ (eqb (length p.answer) (length q.answer) && covers (joined p) (joined q))
unfolding covers
by_parts p q = go (eqb (length p.answer) (length q.answer))
  where
    go : (b : Bool) → is_some (cond b (first_map (joined p) (joined q)) none) ≡ (b && is_some (first_map (joined p) (joined q)))
    go true = refl
    go false = refl

-- the map that covering gives is the first of the conjunctions, the answer record as the first atom
pub covering_first : (p q : Asking) (m : Part) → covering_map p q ≡ some m → FirstMap (joined p) (joined q) m
covering_first p q m e = go (eqb (length p.answer) (length q.answer)) e
  where
    go : (b : Bool) → cond b (first_map (joined p) (joined q)) none ≡ some m → FirstMap (joined p) (joined q) m
    go true f = first_is (joined p) (joined q) m f
    go false f = absurd (none≢some f)

pub asking_decides : (p q : Asking) → NoRecord p.atoms → NoRecord q.atoms → T (covers_asking p q) ↔ CoversAsking p q
asking_decides p q f g = (
  (λ u.
      let t = subst T (by_parts p q) u in
      from_joined p.answer q.answer p.atoms q.atoms f g
      (eqb→eq (length p.answer) (length q.answer) (fst_of (eqb (length p.answer) (length q.answer)) _ t))
      ((covers_decides (joined p) (joined q)).0 (snd_of (eqb (length p.answer) (length q.answer)) _ t))),
  (λ c.
      subst T (sym (by_parts p q))
      (both (eqb (length p.answer) (length q.answer)) _
      (subst (λ (n : ℕ). T (eqb (length p.answer) n)) (as_many c) (eqb_refl (length p.answer)))
      ((covers_decides (joined p) (joined q)).1 (to_joined p.answer q.answer p.atoms q.atoms c)))),
)
  where
    as_many : CoversAsking p q → length p.answer ≡ length q.answer
    as_many c = sym (length-map p.answer (on_term c.by)) ∙ ap length c.answers

-- What the code asks: as many answer records, then the conjunctions. Two answer records with other numbers of places
-- never meet.
as_many : (ts us : List Term) (A C : Question) → NoRecord C → records ts ≡ records us
    → Covers (with_answer ts A) (with_answer us C) → length ts ≡ length us
as_many [] [] A C g e c = refl
as_many [] (u ∷ us) A C g e c = absurd (omega arith)
as_many (t ∷ ts) [] A C g e c = absurd (omega arith)
as_many (t ∷ ts) (u ∷ us) A C g e c =
    sym (length-map (t ∷ ts) (on_term c.by))
    ∙ ap length (first (Memᴰ.cases_cons (c.sends (answer_atom (t ∷ ts)) (Memᴰ.head refl))))
  where
    first : (on_atom c.by (answer_atom (t ∷ ts)) ≡ answer_atom (u ∷ us)) ⊎ (on_atom c.by (answer_atom (t ∷ ts)) ∈ C)
        → map (on_term c.by) (t ∷ ts) ≡ u ∷ us
    first (inl x) = ap (λ (a : Atom). a.args) x
    first (inr m) = absurd (g _ m refl)

pub same_records : (p q : Asking) → NoRecord q.atoms → records p.answer ≡ records q.answer
    → covering_map p q ≡ first_map (joined p) (joined q)
unfolding covers
same_records p q g e = go (either (covers (joined p) (joined q)))
  where
    n : Bool
    n = eqb (length p.answer) (length q.answer)

    none_both : (b : Bool) → first_map (joined p) (joined q) ≡ none
        → cond b (first_map (joined p) (joined q)) none ≡ first_map (joined p) (joined q)
    none_both true f = refl
    none_both false f = sym f

    go : (covers (joined p) (joined q) ≡ true) ⊎ (covers (joined p) (joined q) ≡ false)
        → covering_map p q ≡ first_map (joined p) (joined q)
    go (inl y) =
        let l = as_many p.answer q.answer p.atoms q.atoms g e ((covers_decides (joined p) (joined q)).0 (true→T _ y)) in
        rw (eq-eqb (length p.answer) (length q.answer) l)
    go (inr f) = none_both n (none_of (first_map (joined p) (joined q)) (false→no _ f))

pub other_records : (p q : Asking) → (records p.answer ≡ records q.answer → ⊥) → covering_map p q ≡ none
other_records p q ne =
    rw (ne_eqb (length p.answer) (length q.answer) (λ e. ne (go p.answer q.answer e)))
  where
    go : (ts us : List Term) → length ts ≡ length us → records ts ≡ records us
    go [] [] e = refl
    go [] (u ∷ us) e = absurd (omega arith)
    go (t ∷ ts) [] e = absurd (omega arith)
    go (t ∷ ts) (u ∷ us) e = refl
