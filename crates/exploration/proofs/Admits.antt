-- What becomes of one rewriting, exactly when: "If a member covers the new rewriting it is dropped ..  Otherwise
-- apply refusal 8, remove every member that it covers, apply 9, and append it." Assumes nothing.
use mathlib.Core.Path.{◌≡◌, sym, subst}
use mathlib.Core.Bool.{cond, not}
use mathlib.Core.Logic.{◌⊎◌, inl, inr}
use mathlib.Core.List.{List, [], ◌∷◌}
use Prim.Native.Nat.{◌≤◌, ◌<◌}
use native.Mathlib.Omega.{arith}
use lib.Dec.{T, ltb, ltb→lt, nltb→le}
use lib.ListN.{length}
use Rattle.covering.specs.Term.{Question}
use Rattle.covering.proofs.Tests.{decide, clash, cond_yes, cond_no}
use Rattle.exploration.specs.Run.{Test, Limits, State, too_long, no_room, Admission, dropped, admitted, stopped}
use Rattle.exploration.specs.Run.{passed, failed, on_admission, covered, appended, admit, through, remaining}
use Rattle.exploration.specs.Steps.{New, Admitted}

module _ (cov : Test) (lim : Limits) where
  pub data Admits (s : State) (P : Question) : Admission → Type 0 where
    was_covered : T (covered cov P s.members) → Admits s P dropped
    was_long : T (not (covered cov P s.members)) → lim.cap < length P → Admits s P (stopped too_long)
    was_full : New cov lim s P → lim.room ≤ length (remaining cov P s.members) → Admits s P (stopped no_room)
    was_admitted : Admitted cov lim s P → Admits s P (admitted (appended cov s P))

  pub admits : (s : State) (P : Question) → Admits s P (admit cov lim s P)
  unfolding admit
  admits s P = first (decide (covered cov P s.members))
    where
      Held : Admission → Type 0
      Held a = Admits s P a

      rest : List Question
      rest = remaining cov P s.members

      last : Admission
      last = admitted (appended cov s P)

      third : Admission
      third = cond (ltb (length rest) lim.room) last (stopped no_room)

      second : Admission
      second = cond (ltb lim.cap (length P)) (stopped too_long) third

      nine : New cov lim s P → T (ltb (length rest) lim.room) ⊎ T (not (ltb (length rest) lim.room)) → Held third
      nine n (inl t) =
          subst Held (sym (cond_yes (ltb (length rest) lim.room) last (stopped no_room) t))
          (was_admitted (record { new = n; fits = ltb→lt (length rest) lim.room t }))
      nine n (inr t) =
          subst Held (sym (cond_no (ltb (length rest) lim.room) last (stopped no_room) t))
          (was_full n (nltb→le (length rest) lim.room t))

      eight : T (not (covered cov P s.members))
          → T (ltb lim.cap (length P)) ⊎ T (not (ltb lim.cap (length P))) → Held second
      eight u (inl t) =
          subst Held (sym (cond_yes (ltb lim.cap (length P)) (stopped too_long) third t))
          (was_long u (ltb→lt lim.cap (length P) t))
      eight u (inr t) =
          subst Held (sym (cond_no (ltb lim.cap (length P)) (stopped too_long) third t))
          (nine (record { uncovered = u; short = nltb→le lim.cap (length P) t })
          (decide (ltb (length rest) lim.room)))

      first : T (covered cov P s.members) ⊎ T (not (covered cov P s.members))
          → Held (cond (covered cov P s.members) dropped second)
      first (inl t) = subst Held (sym (cond_yes (covered cov P s.members) dropped second t)) (was_covered t)
      first (inr t) =
          subst Held (sym (cond_no (covered cov P s.members) dropped second t))
          (eight t (decide (ltb lim.cap (length P))))

  not_both : (s : State) (P : Question) → T (covered cov P s.members) → T (not (covered cov P s.members)) → ⊥
  not_both s P t u = clash (covered cov P s.members) t u

  -- and no two of these hold of one rewriting
  pub admits_one : {s : State} {P : Question} {a b : Admission} → Admits s P a → Admits s P b → a ≡ b
  admits_one (was_covered t) (was_covered u) = cc
  admits_one {s} {P} (was_covered t) (was_long u l) = absurd (not_both s P t u)
  admits_one {s} {P} (was_covered t) (was_full n l) = absurd (not_both s P t n.uncovered)
  admits_one {s} {P} (was_covered t) (was_admitted m) = absurd (not_both s P t m.new.uncovered)
  admits_one {s} {P} (was_long u l) (was_covered t) = absurd (not_both s P t u)
  admits_one (was_long u l) (was_long v m) = cc
  admits_one (was_long u l) (was_full n m) = let h = n.short in absurd (omega arith)
  admits_one (was_long u l) (was_admitted m) = let h = m.new.short in absurd (omega arith)
  admits_one {s} {P} (was_full n l) (was_covered t) = absurd (not_both s P t n.uncovered)
  admits_one (was_full n l) (was_long u m) = let h = n.short in absurd (omega arith)
  admits_one (was_full n l) (was_full m k) = cc
  admits_one (was_full n l) (was_admitted m) = let h = m.fits in absurd (omega arith)
  admits_one {s} {P} (was_admitted m) (was_covered t) = absurd (not_both s P t m.new.uncovered)
  admits_one (was_admitted m) (was_long u l) = let h = m.new.short in absurd (omega arith)
  admits_one (was_admitted m) (was_full n l) = let h = m.fits in absurd (omega arith)
  admits_one (was_admitted m) (was_admitted n) = cc

  pub admit_is : {s : State} {P : Question} {a : Admission} → Admits s P a → admit cov lim s P ≡ a
  admit_is {s} {P} h = admits_one (admits s P) h

  -- one rewriting more of the member that is taken up
  module _ (M : Question) where
    pub through_none : (s : State) → through cov lim M [] s ≡ passed s
    unfolding through
    through_none s = cc

    pub through_next : (P : Question) (Ps : List Question) (s : State)
        → through cov lim M (P ∷ Ps) s
        ≡ on_admission (admit cov lim s P) (through cov lim M Ps s)
        (λ t. cond (cov P M) (passed t) (through cov lim M Ps t)) failed
    unfolding through
    through_next P Ps s = cc
