-- Rewritings that a member covers are dropped, and dropping them changes nothing. So where all that a rule lists from a
-- number n to below m is covered by members, the exploration from n on is the exploration from m on (`passed_over`).
-- Assumes nothing.
use mathlib.Core.Path.{◌≡◌, refl, sym, ◌∙◌, ap}
use mathlib.Core.Bool.{not}
use mathlib.Core.Logic.{◌⊎◌, inl, inr}
use mathlib.Core.List.Memᴰ
use mathlib.Core.List.{List, [], ◌∷◌, ◌++◌, map}
use Prim.Native.Nat.{ℕ, suc, ◌≤◌, ◌<◌}
use native.Mathlib.Omega.{arith}
use lib.Dec.{T, leb, leb→le, le→leb}
use Rattle.covering.specs.Lists.{◌∈◌, head}
use Rattle.covering.specs.Term.{Question}
use Rattle.covering.specs.Rule.{Rule}
use Rattle.covering.proofs.Tests.{decide, clash, cond_yes, cond_no}
use Rattle.unification.specs.Choice.{Ascending}
use Rattle.unification.specs.Step.{listed, from}
use Rattle.unification.proofs.Following.{from_head}
use Rattle.unification.proofs.Numbers.{listed_ascending}
use Rattle.exploration.specs.Run.{Test, Limits, State, Pass, covered, through, apart, all_rewritings}
use Rattle.exploration.proofs.Admits.{was_covered, admit_is}
use Rattle.exploration.proofs.Turns.{turn_dropped}
use Rattle.exploration.proofs.YetToCome.{yet_to_come}

module _ (cov : Test) (lim : Limits) (M : Question) (Rs : List Question) (s : State) (n m : ℕ) (up : n ≤ m) where
  -- the exploration of these rewritings, and then of Rs
  abbrev over : List (ℕ × Question) → Pass
  over l = through cov lim M (map (λ e. e.1) l ++ Rs) s

  abbrev Covered : List (ℕ × Question) → Type 0
  Covered l = (e : ℕ × Question) → e ∈ l → n ≤ e.0 → e.0 < m → T (covered cov e.1 s.members)

  from_same : (l : List (ℕ × Question)) → Ascending (map (λ e. e.0) l) → Covered l → over (from n l) ≡ over (from m l)
  from_same [] a c = refl
  from_same (x ∷ l) a c =
      go (decide (leb n x.0)) (decide (leb m x.0)) (from_same l a.1 (λ e k. c e (Memᴰ.tail k)))
    where
      keeps : (i : ℕ) → T (leb i x.0) → from i (x ∷ l) ≡ x ∷ from i l
      keeps i t = cond_yes (leb i x.0) (x ∷ from i l) (from i l) t

      skips : (i : ℕ) → T (not (leb i x.0)) → from i (x ∷ l) ≡ from i l
      skips i t = cond_no (leb i x.0) (x ∷ from i l) (from i l) t

      -- from a number not after the first one on, the whole list comes
      whole : (i : ℕ) → T (leb i x.0) → from i (x ∷ l) ≡ x ∷ from (suc x.0) (x ∷ l)
      whole i t = from_head i (x ∷ l) a x (ap head (keeps i t))

      below : (i : ℕ) → T (not (leb i x.0)) → x.0 < i
      below i t = past (λ h. clash (leb i x.0) (le→leb i x.0 h) t)
        where
          past : ¬ (i ≤ x.0) → x.0 < i
          past f = omega arith

      go : T (leb n x.0) ⊎ T (not (leb n x.0)) → T (leb m x.0) ⊎ T (not (leb m x.0))
          → over (from n l) ≡ over (from m l) → over (from n (x ∷ l)) ≡ over (from m (x ∷ l))
      go (inl t) (inl u) same =
          ap over (whole n t ∙ sym (whole m u))
      go (inl t) (inr u) same =
          ap over (keeps n t)
          ∙ turn_dropped cov lim M x.1 (map (λ e. e.1) (from n l) ++ Rs) s
          (admit_is cov lim (was_covered (c x (Memᴰ.head refl) (leb→le n x.0 t) (below m u))))
          ∙ same
          ∙ ap over (sym (skips m u))
      go (inr t) (inl u) same =
          let low : x.0 < n = below n t in
          let high : m ≤ x.0 = leb→le m x.0 u in
          absurd (omega arith)
      go (inr t) (inr u) same =
          ap over (skips n t)
          ∙ same
          ∙ ap over (sym (skips m u))

module _ (cov : Test) (lim : Limits) (M : Question) (r : Rule) (rules : List Rule) (s : State) (n m : ℕ) where
  pub passed_over : n ≤ m
      → ((c : ℕ) (P : Question) → (c, P) ∈ listed apart r M → n ≤ c → c < m → T (covered cov P s.members))
      → through cov lim M (yet_to_come M r n rules) s ≡ through cov lim M (yet_to_come M r m rules) s
  passed_over up c =
      from_same cov lim M (all_rewritings rules M) s n m up (listed apart r M) (listed_ascending apart r M)
      (λ e k l u. c e.0 e.1 k l u)
