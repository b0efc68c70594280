-- Listing from a stated number on: what `next` finds is the first entry at or after it, and going on after what it
-- found lists the rest. Assumes nothing.
use mathlib.Core.Path.{◌≡◌, refl, sym, ◌∙◌, ap, subst}
use mathlib.Core.Bool.{not}
use mathlib.Core.Logic.{◌⊎◌, inl, inr}
use mathlib.Core.List.Memᴰ
use mathlib.Core.List.{List, [], ◌∷◌, map}
use mathlib.Core.Option.{some, some-injective, none}
use Prim.Native.Nat.{ℕ, suc, ◌<◌, ◌≤◌}
use native.Mathlib.Omega.{arith}
use lib.Dec.{T, leb, leb→le, le→leb}
use lib.ListN.{length}
use Rattle.covering.specs.Lists.{◌∈◌, head}
use Rattle.covering.specs.Term.{Question}
use Rattle.covering.proofs.Lists.{keep_out, keep_all}
use Rattle.covering.proofs.Tests.{decide, clash, not_of, none≢some, cond_yes, cond_no}
use Rattle.covering.specs.Rule.{Rule}
use Rattle.unification.specs.Choice.{count, Ascending}
use Rattle.unification.specs.Step.{listed, from, next}
use Rattle.unification.proofs.Listed.{listed_out}
use Rattle.unification.proofs.Numbers.{number_below, listed_ascending}

module _ {X : Type 0} where
  -- in an ascending list all entries after the first are past it
  from_past : (n : ℕ) (e : ℕ × X) (l : List (ℕ × X)) → Ascending (map (λ e. e.0) (e ∷ l)) → n ≤ suc e.0
      → from n l ≡ l
  from_past n e l a h = keep_all (λ f. leb n f.0) l (λ f m. le→leb n f.0 (late f m))
    where
      late : (f : ℕ × X) → f ∈ l → n ≤ f.0
      late f m = let past : e.0 < f.0 = a.0 f.0 (Memᴰ.map (λ (x : ℕ × X). x.0) m) in omega arith

  pub from_zero : (l : List (ℕ × X)) → from 0 l ≡ l
  from_zero l = keep_all (λ f. leb 0 f.0) l (λ f m. le→leb 0 f.0 (omega arith))

  -- what stands first from a number on stands at or after it
  head_late : (n : ℕ) (l : List (ℕ × X)) (e : ℕ × X) → head (from n l) ≡ some e → n ≤ e.0
  head_late n [] e q = absurd (none≢some q)
  head_late n (x ∷ l) e q = go (decide (leb n x.0)) (head_late n l e)
    where
      go : T (leb n x.0) ⊎ T (not (leb n x.0)) → (head (from n l) ≡ some e → n ≤ e.0) → n ≤ e.0
      go (inl t) below =
          let same : x ≡ e =
          some-injective x e (sym (ap head (cond_yes (leb n x.0) (x ∷ from n l) (from n l) t)) ∙ q) in
          subst (λ (y : ℕ × X). n ≤ y.0) same (leb→le n x.0 t)
      go (inr t) below = below (sym (ap head (cond_no (leb n x.0) (x ∷ from n l) (from n l) t)) ∙ q)

  pub from_head : (n : ℕ) (l : List (ℕ × X)) → Ascending (map (λ e. e.0) l) → (e : ℕ × X)
      → head (from n l) ≡ some e → from n l ≡ e ∷ from (suc e.0) l
  from_head n [] a e q = absurd (none≢some q)
  from_head n (x ∷ l) a e q = go (decide (leb n x.0)) (from_head n l a.1 e)
    where
      drop_first : (m : ℕ) → x.0 < m → from m (x ∷ l) ≡ from m l
      drop_first m h =
          cond_no (leb m x.0) (x ∷ from m l) (from m l)
          (not_of (leb m x.0) (λ t. let k : m ≤ x.0 = leb→le m x.0 t in omega arith))

      go : T (leb n x.0) ⊎ T (not (leb n x.0))
          → (head (from n l) ≡ some e → from n l ≡ e ∷ from (suc e.0) l)
          → from n (x ∷ l) ≡ e ∷ from (suc e.0) (x ∷ l)
      go (inl t) below =
          let here : from n (x ∷ l) ≡ x ∷ from n l = cond_yes (leb n x.0) (x ∷ from n l) (from n l) t in
          let same : x ≡ e = some-injective x e (sym (ap head here) ∙ q) in
          let low : n ≤ x.0 = leb→le n x.0 t in
          here
          ∙ ap (λ (r : List (ℕ × X)). x ∷ r)
          (from_past n x l a (omega arith)
          ∙ sym (from_past (suc x.0) x l a (omega arith))
          ∙ sym (drop_first (suc x.0) (omega arith)))
          ∙ ap (λ (y : ℕ × X). y ∷ from (suc y.0) (x ∷ l)) same
      go (inr t) below =
          let skip : from n (x ∷ l) ≡ from n l = cond_no (leb n x.0) (x ∷ from n l) (from n l) t in
          let found : head (from n l) ≡ some e = sym (ap head skip) ∙ q in
          let late : n ≤ e.0 = head_late n l e found in
          let not_here : ¬ (n ≤ x.0) = λ h. clash (leb n x.0) (le→leb n x.0 h) t in
          skip ∙ below found ∙ ap (λ (r : List (ℕ × X)). e ∷ r) (sym (drop_first (suc e.0) (past not_here late)))
        where
          past : ¬ (n ≤ x.0) → n ≤ e.0 → x.0 < suc e.0
          past f h = omega arith

  -- an entry is the first from its own number on
  pub from_here : (l : List (ℕ × X)) → Ascending (map (λ e. e.0) l) → (e : ℕ × X) → e ∈ l
      → head (from e.0 l) ≡ some e
  from_here [] a e m = absurd (Memᴰ.not-nil m)
  from_here (x ∷ l) a e m = go (Memᴰ.cases_cons m) (from_here l a.1 e)
    where
      go : (e ≡ x) ⊎ (e ∈ l) → (e ∈ l → head (from e.0 l) ≡ some e) → head (from e.0 (x ∷ l)) ≡ some e
      go (inl q) below =
          let same : e.0 ≡ x.0 = ap (λ (z : ℕ × X). z.0) q in
          ap head
          (cond_yes (leb e.0 x.0) (x ∷ from e.0 l) (from e.0 l) (le→leb e.0 x.0 (omega arith)))
          ∙ ap some (sym q)
      go (inr k) below =
          let past : x.0 < e.0 = a.0 e.0 (Memᴰ.map (λ (z : ℕ × X). z.0) k) in
          ap head
          (cond_no (leb e.0 x.0) (x ∷ from e.0 l) (from e.0 l)
          (not_of (leb e.0 x.0) (λ t. let h : e.0 ≤ x.0 = leb→le e.0 x.0 t in omega arith)))
          ∙ below k

  head_in : (l : List (ℕ × X)) (e : ℕ × X) → head l ≡ some e → e ∈ l
  head_in [] e q = absurd (none≢some q)
  head_in (x ∷ l) e q = Memᴰ.head (sym (some-injective x e q))

  head_none : (l : List (ℕ × X)) → head l ≡ none → l ≡ []
  head_none [] q = refl
  head_none (x ∷ l) q = absurd (none≢some (sym q))

-- from the start the whole list is listed
pub next_start : (k : ℕ) (r : Rule) (Q : Question) → from 0 (listed k r Q) ≡ listed k r Q
next_start k r Q = from_zero (listed k r Q)

-- what is found is listed first, then the rest from the number after it on
pub next_found : (k : ℕ) (r : Rule) (Q : Question) (n : ℕ) (e : ℕ × Question) → next k r Q n ≡ some e
    → from n (listed k r Q) ≡ e ∷ from (suc e.0) (listed k r Q)
unfolding next
next_found k r Q n e q = from_head n (listed k r Q) (listed_ascending k r Q) e q

-- if nothing is found, nothing is left
pub next_none : (k : ℕ) (r : Rule) (Q : Question) (n : ℕ) → next k r Q n ≡ none → from n (listed k r Q) ≡ []
unfolding next
next_none k r Q n q = head_none (from n (listed k r Q)) q

-- what is found is listed, at or after the number asked for
pub next_listed : (k : ℕ) (r : Rule) (Q : Question) (n : ℕ) (e : ℕ × Question) → next k r Q n ≡ some e
    → (e ∈ listed k r Q) × (n ≤ e.0)
unfolding next
next_listed k r Q n e q =
    let m =
    keep_out (λ (f : ℕ × Question). leb n f.0) (listed k r Q) (head_in (from n (listed k r Q)) e q) in
    (m.0, leb→le n e.0 m.1)

-- each number listed is below the count of choices, (h + 1)^n
pub listed_below : (k : ℕ) (r : Rule) (Q : Question) (n : ℕ) (X : Question) → (n, X) ∈ listed k r Q
    → n < count (length r.head) (length Q)
listed_below k r Q n X m =
    let w = listed_out m in
    subst (λ (i : ℕ). i < count (length r.head) (length Q)) w.place
    (number_below (length r.head) (length Q) w.choice w.among)
