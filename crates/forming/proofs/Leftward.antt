-- Dropping equal elements but for the first, from left to right: an element is kept unless it is among those kept
-- already. So the code's way gives `dedup`, and the variables in order of first appearance. Assumes nothing.
use mathlib.Core.Path.{◌≡◌, refl, sym, ◌∙◌, ap, subst}
use mathlib.Core.Bool.{Bool, true, false, cond, not, ◌&&◌, ◌||◌}
use mathlib.Core.Logic.{◌⊎◌, inl, inr}
use mathlib.Core.List.{List, [], ◌∷◌, ◌++◌, append_assoc, append-nil}
use Prim.Native.Nat.{ℕ, ◌+◌, ◌≤◌}
use native.Mathlib.Omega.{arith}
use lib.ListN.{length, length-append}
use lib.Dec.{T, eqb, eqb→eq}
use Rattle.covering.specs.Lists.{◌∈◌, keep}
use Rattle.covering.specs.Term.{Term, var, con, Atom, Question, eq_atom}
use Rattle.covering.specs.Form.{dedup, firsts}
use Rattle.forming.specs.Building.{has, added, added_all, seen, all_seen}
use Rattle.covering.proofs.Lists.{any_in, any_append, keep_same, keep_all}
use Rattle.covering.proofs.Tests.{either, true→T, false→no, not_of}
use Rattle.covering.proofs.Terms.{eq_atom→eq, eq_atom_refl}

keep_keep : {A : Type 0} (p q : A → Bool) (l : List A) → keep p (keep q l) ≡ keep (λ x. q x && p x) l
keep_keep p q [] = refl
keep_keep {A = A} p q (x ∷ l) = go (q x) (keep_keep p q l)
  where
    rest : List A
    rest = keep (λ y. q y && p y) l

    go : (b : Bool) → keep p (keep q l) ≡ rest
        → keep p (cond b (x ∷ keep q l) (keep q l)) ≡ cond (b && p x) (x ∷ rest) rest
    go true e = ap (λ r. cond (p x) (x ∷ r) r) e
    go false e = e

module _ {A : Type 0} (eq : A → A → Bool) where
  pub has_more : (K : List A) (a b : A) → has eq (K ++ a ∷ []) b ≡ has eq K b || eq a b
  has_more K a b = any_append (λ k. eq k b) K (a ∷ []) ∙ ap (λ x. has eq K b || x) (alone (eq a b))
    where
      alone : (x : Bool) → (x || false) ≡ x
      alone true = refl
      alone false = refl

  pub added_old : (K : List A) (a : A) → has eq K a ≡ true → added eq K a ≡ K
  unfolding added
  added_old K a e = rw e

  pub added_new : (K : List A) (a : A) → has eq K a ≡ false → added eq K a ≡ K ++ a ∷ []
  unfolding added
  added_new K a e = rw e

  pub added_length : (K : List A) (a : A) → length (added eq K a) ≤ length K + 1
  added_length K a = go (either (has eq K a))
    where
      go : (has eq K a ≡ true) ⊎ (has eq K a ≡ false) → length (added eq K a) ≤ length K + 1
      go (inl t) = rw (added_old K a t) (omega arith)
      go (inr t) = rw (added_new K a t) (omega (arith, length-append K (a ∷ [])))

  -- equal elements dropped but for the first
  abbrev sifted : List A → List A
  sifted [] = []
  sifted (a ∷ l) = a ∷ keep (λ b. not (eq a b)) (sifted l)

  module _ (eq→eq : (a b : A) → T (eq a b) → a ≡ b) where
    onto : (K l : List A) → added_all eq K l ≡ K ++ keep (λ b. not (has eq K b)) (sifted l)
    unfolding added_all
    onto K [] = sym (append-nil K)
    onto K (a ∷ l) = go (either (has eq K a)) (λ M. onto M l)
      where
        rest : List A
        rest = sifted l

        fresh : A → Bool
        fresh b = not (has eq K b)

        Onto : List A → Type 0
        Onto M = added_all eq M l ≡ M ++ keep (λ b. not (has eq M b)) rest

        -- what is not among K is not equal to an element of K
        apart : has eq K a ≡ true → (b : A) → (not (eq a b) && fresh b) ≡ fresh b
        apart e b = case (either (eq a b))
          where
            case : (eq a b ≡ true) ⊎ (eq a b ≡ false) → (not (eq a b) && fresh b) ≡ fresh b
            case (inl q) = rw (q, ← eq→eq a b (true→T (eq a b) q), e)
            case (inr q) = rw q

        also : (b : A) → not (has eq (K ++ a ∷ []) b) ≡ (not (eq a b) && fresh b)
        also b = ap not (has_more K a b) ∙ turn (has eq K b) (eq a b)
          where
            turn : (x y : Bool) → not (x || y) ≡ (not y && not x)
            turn true true = refl
            turn true false = refl
            turn false true = refl
            turn false false = refl

        -- the first of the rest, where it is kept or not
        kept : Bool → List A
        kept x =
            let r = keep fresh (keep (λ b. not (eq a b)) rest) in
            K ++ cond (not x) (a ∷ r) r

        go : (has eq K a ≡ true) ⊎ (has eq K a ≡ false) → ((M : List A) → Onto M)
            → added_all eq (added eq K a) l ≡ K ++ keep fresh (a ∷ keep (λ b. not (eq a b)) rest)
        go (inl e) below =
            ap (λ M. added_all eq M l) (added_old K a e)
            ∙ below K
            ∙ ap
            (λ (r : List A). K ++ r)
            (sym (keep_keep fresh (λ b. not (eq a b)) rest ∙ keep_same _ _ rest (λ b m. apart e b)))
            ∙ ap kept (sym e)
        go (inr e) below =
            ap (λ M. added_all eq M l) (added_new K a e)
            ∙ below (K ++ a ∷ [])
            ∙ append_assoc K (a ∷ []) _
            ∙ ap
            (λ (r : List A). K ++ a ∷ r)
            (keep_same _ _ rest (λ b m. also b) ∙ sym (keep_keep fresh (λ b. not (eq a b)) rest))
            ∙ ap kept (sym e)

    from_none : (l : List A) → added_all eq [] l ≡ sifted l
    from_none l = onto [] l ∙ keep_all (λ x. not (has {A = A} eq [] x)) (sifted l) (λ b m. tt {0})

-- "Equal atoms are dropped but for the first"
pub dedup_leftward : (A : Question) → dedup A ≡ added_all eq_atom [] A
dedup_leftward A = same A ∙ sym (from_none eq_atom eq_atom→eq A)
  where
    same : (B : Question) → dedup B ≡ sifted eq_atom B
    same [] = refl
    same (b ∷ B) = ap (λ (l : Question). b ∷ keep (λ c. not (eq_atom b c)) l) (same B)

-- an atom that is none of those after it drops none of them
pub dedup_new : (a : Atom) (A : Question) → has eq_atom A a ≡ false → dedup A ≡ A → dedup (a ∷ A) ≡ a ∷ A
dedup_new a A new e =
    ap (λ (l : Question). a ∷ keep (λ b. not (eq_atom a b)) l) e ∙ ap (λ (l : Question). a ∷ l) (keep_all _ A other)
  where
    other : (b : Atom) → b ∈ A → T (not (eq_atom a b))
    other b m =
        not_of (eq_atom a b)
        (λ t.
        let itself = subst (λ (c : Atom). T (eq_atom c a)) (eq_atom→eq a b t) (eq_atom_refl a) in
        false→no _ new (any_in (λ k. eq_atom k a) A m itself))

-- the variables of terms, as they stand
abbrev variables : List Term → List ℕ
variables [] = []
variables (var n ∷ ts) = n ∷ variables ts
variables (con c ∷ ts) = variables ts

pub firsts_leftward : (ts : List Term) → firsts ts ≡ all_seen [] ts
unfolding seen all_seen added_all
firsts_leftward ts = same ts ∙ sym (from_none eqb eqb→eq (variables ts)) ∙ sym (all [] ts)
  where
    same : (us : List Term) → firsts us ≡ sifted eqb (variables us)
    same [] = refl
    same (var n ∷ us) = ap (λ (l : List ℕ). n ∷ keep (λ m. not (eqb n m)) l) (same us)
    same (con c ∷ us) = same us

    all : (S : List ℕ) (us : List Term) → all_seen S us ≡ added_all eqb S (variables us)
    all S [] = refl
    all S (var n ∷ us) = all (added eqb S n) us
    all S (con c ∷ us) = all S us

pub seen_append : (S : List ℕ) (ts us : List Term) → all_seen S (ts ++ us) ≡ all_seen (all_seen S ts) us
unfolding all_seen
seen_append S [] us = refl
seen_append S (t ∷ ts) us = seen_append (seen S t) ts us
