-- The answer record is always left: no head atom has its relation. So of a question with answer places the choices are
-- those of the atoms after the record, with the same numbers in the same order. Assumes nothing.
use mathlib.Core.Path.{◌≡◌, refl, sym, ◌∙◌, ap, ap₂}
use mathlib.Core.Bool.{Bool, true, false, cond}
use mathlib.Core.List.Memᴰ
use mathlib.Core.List.{List, [], ◌∷◌, ◌++◌, map, append-nil}
use mathlib.Core.Option.{Option, none, some}
use Prim.Native.Nat.{ℕ, zero, suc}
use native.Mathlib.Omega.{arith}
use lib.ListN.{length}
use Rattle.covering.specs.Lists.{keep, bind, collect, gather, numbers}
use Rattle.covering.specs.Term.{Term, var, con, Question, Sub}
use Rattle.covering.specs.Asking.{Asking, answer_relation, answer_atom, with_answer, joined, NoRecord}
use Rattle.covering.specs.Rule.{Rule}
use Rattle.covering.proofs.Terms.{con_inj}
use Rattle.covering.proofs.Asked.{free_on}
use Rattle.unification.specs.Classes.{Pair, unify, Kernel, HoldsPairs}
use Rattle.unification.specs.Choice.{Choice, number, choices, some_sent, left, to_head, pairing}
use Rattle.unification.specs.Step.{up, move, judge, step, label, listed}
use Rattle.unification.proofs.Classes.{unify_sound}
use Rattle.unification.proofs.Collected.{collect_same, collect_none, collect_keep, collect_gather, collect_map}
use Rattle.unification.proofs.Pairs.{head_of}

-- relations must agree
pub never_sent : (s : Sub) (H : Question) (d : ℕ) (ts : List Term) → NoRecord H
    → HoldsPairs (Kernel s) (to_head H d (answer_atom ts)) → ⊥
never_sent s H d ts f h =
    let b = head_of s H d (answer_atom ts) h in
    f b.0 b.1 (sym (con_inj (b.2 (con answer_relation, con b.0.rel) (Memᴰ.head refl))))

pub never_step : (k : ℕ) (r : Rule) (ts : List Term) (A : Question) (d : ℕ) (ds : Choice) → NoRecord r.head
    → step k r (answer_atom ts ∷ A) (suc d ∷ ds) ≡ none
unfolding step
never_step k r ts A d ds f = at (unify ps var) refl
  where
    H : Question
    H = (move k r).head

    ps : List Pair
    ps = to_head H d (answer_atom ts) ++ pairing ds A H

    at : (o : Option Sub) → unify ps var ≡ o → bind o (judge (left ds A) (move k r)) ≡ none
    at none e = refl
    at (some σ) e =
        absurd
        (never_sent σ H d ts (free_on (up k) r.head f)
        (λ p m. (unify_sound ps var σ e).holds p (Memᴰ.append_left (pairing ds A H) m)))

-- "numbers count the atoms alone"
pub listed_after : (k : ℕ) (r : Rule) (ts : List Term) (A : Question) → NoRecord r.head
    → listed k r (answer_atom ts ∷ A)
    ≡ collect (λ ds. label (number (length r.head) ds) (step k r (answer_atom ts ∷ A) (0 ∷ ds)))
    (keep some_sent (choices (length r.head) (length A)))
unfolding listed
listed_after k r ts A f =
    collect_keep gives some_sent (choices h (suc (length A)))
    ∙ collect_gather tried (λ d. map (λ ds. d ∷ ds) cs) (numbers 0 (suc h))
    ∙ ap₂ (λ (l m : List (ℕ × Question)). l ++ m) first (others 0 h)
    ∙ append-nil _
    ∙ sym (collect_keep kept some_sent cs)
  where
    h : ℕ
    h = length r.head

    cs : List Choice
    cs = choices h (length A)

    gives : Choice → Option (ℕ × Question)
    gives ds = label (number h ds) (step k r (answer_atom ts ∷ A) ds)

    tried : Choice → Option (ℕ × Question)
    tried ds = cond (some_sent ds) (gives ds) none

    kept : Choice → Option (ℕ × Question)
    kept ds = label (number h ds) (step k r (answer_atom ts ∷ A) (0 ∷ ds))

    -- a first digit 0 does not count
    same_number : (ds : Choice) → number h (0 ∷ ds) ≡ number h ds
    same_number ds = omega arith

    first : collect tried (map (λ ds. 0 ∷ ds) cs) ≡ collect (λ ds. cond (some_sent ds) (kept ds) none) cs
    first =
        collect_map tried (λ ds. 0 ∷ ds) cs
        ∙ collect_same _ _ cs
        (λ ds.
        ap
        (λ (n : ℕ). cond (some_sent ds) (label n (step k r (answer_atom ts ∷ A) (0 ∷ ds))) none)
        (same_number ds))

    -- and any other gives nothing
    none_tried : (d : ℕ) (ds : Choice) → tried (suc d ∷ ds) ≡ none
    none_tried d ds = at (some_sent (suc d ∷ ds))
      where
        at : (b : Bool) → cond b (gives (suc d ∷ ds)) none ≡ none
        at true = ap (label (number h (suc d ∷ ds))) (never_step k r ts A d ds f)
        at false = refl

    others : (i n : ℕ) → gather (λ d. collect tried (map (λ ds. d ∷ ds) cs)) (numbers (suc i) n) ≡ []
    others i zero = refl
    others i (suc n) =
        ap₂ (λ (l m : List (ℕ × Question)). l ++ m)
        (collect_map tried (λ ds. suc i ∷ ds) cs
        ∙ collect_same _ (λ ds. none) cs (none_tried i)
        ∙ collect_none cs)
        (others (suc i) n)

-- the same with or without answer places: the choice of the whole from a choice of the atoms
abbrev pub leading : List Term → Choice → Choice
leading [] ds = ds
leading (t ∷ ts) ds = 0 ∷ ds

pub listed_joined : (k : ℕ) (r : Rule) (q : Asking) → NoRecord r.head
    → listed k r (joined q)
    ≡ collect (λ ds. label (number (length r.head) ds) (step k r (joined q) (leading q.answer ds)))
    (keep some_sent (choices (length r.head) (length q.atoms)))
unfolding listed
listed_joined k r q f = at q.answer
  where
    at : (ts : List Term)
        → listed k r (with_answer ts q.atoms)
        ≡ collect (λ ds. label (number (length r.head) ds) (step k r (with_answer ts q.atoms) (leading ts ds)))
        (keep some_sent (choices (length r.head) (length q.atoms)))
    at [] = refl
    at (t ∷ ts) = listed_after k r (t ∷ ts) q.atoms f
