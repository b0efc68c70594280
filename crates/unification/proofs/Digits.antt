-- The digits of a pairing make a choice that leaves what is not unified and puts each unified atom on its head atom.
-- Assumes nothing.
use mathlib.Core.Path.{◌≡◌, refl, sym, ap, subst}
use mathlib.Core.Bool.{Bool, true, false, cond, not}
use mathlib.Core.Logic.{◌⊎◌, inl, inr}
use mathlib.Core.List.Memᴰ
use mathlib.Core.List.{[], ◌∷◌}
use Prim.Native.Nat.{ℕ, zero, suc, ◌<◌, ◌≤◌}
use native.Mathlib.Omega.{arith}
use lib.Dec.{T, eqb, eqb-suc-zero}
use lib.ListN.{length}
use Rattle.covering.specs.Lists.{◌∈◌}
use Rattle.covering.specs.Term.{Term, Atom, Question}
use Rattle.covering.proofs.Lists.{any_in}
use Rattle.covering.proofs.Tests.{decide, clash, cond_yes, cond_no}
use Rattle.unification.specs.Classes.{HoldsPairs}
use Rattle.unification.specs.Choice.{Choice, choices, some_sent, left, sent, to_head, pairing}
use Rattle.unification.specs.Published.{mem_atom, without, digits}
use Rattle.unification.proofs.Choices.{choices_in}
use Rattle.unification.proofs.Pairs.{holds_append}
use Rattle.unification.proofs.Pieces.{mem→mem_atom, mem_atom→mem}

-- a choice that sends some atom has one that it sends
pub some_sent_lem : (ds : Choice) (Q : Question) → length ds ≡ length Q → T (some_sent ds) → (a : Atom) × (a ∈ sent ds Q)
some_sent_lem [] Q e t = absurd t
some_sent_lem (d ∷ ds) [] e t = absurd (omega arith)
some_sent_lem (zero ∷ ds) (a ∷ Q) e t = some_sent_lem ds Q (omega arith) t
some_sent_lem (suc d ∷ ds) (a ∷ Q) e t = (a, Memᴰ.head refl)

module _ (A : Question) (to : Atom → ℕ) where
  abbrev pub digit : Atom → ℕ
  digit a = cond (mem_atom a A) (suc (to a)) 0

  digit_sent : (a : Atom) → a ∈ A → digit a ≡ suc (to a)
  digit_sent a m = cond_yes (mem_atom a A) (suc (to a)) 0 (mem→mem_atom A m)

  pub digits_leave : (Q : Question) → left (digits A to Q) Q ≡ without Q A
  digits_leave [] = refl
  digits_leave (a ∷ Q) = go (mem_atom a A) (digits_leave Q)
    where
      go : (b : Bool) → left (digits A to Q) Q ≡ without Q A
          → left (cond b (suc (to a)) 0 ∷ digits A to Q) (a ∷ Q) ≡ cond (not b) (a ∷ without Q A) (without Q A)
      go true below = below
      go false below = ap (λ (B : Question). a ∷ B) below

  pub digits_send : (Q : Question) (a : Atom) → a ∈ Q → a ∈ A → T (some_sent (digits A to Q))
  digits_send Q a m n =
      any_in (λ d. not (eqb d 0)) (digits A to Q) (Memᴰ.map digit m)
      (subst (λ (d : ℕ). T (not (eqb d 0))) (sym (digit_sent a n))
      (subst (λ (b : Bool). T (not b)) (sym (eqb-suc-zero (to a))) tt))

  pub digits_among : (h : ℕ) (Q : Question) → ((a : Atom) → a ∈ A → to a < h) → digits A to Q ∈ choices h (length Q)
  digits_among h [] f = Memᴰ.head refl
  digits_among h (a ∷ Q) f =
      choices_in h (length Q) (digit a) (digits A to Q) (small (decide (mem_atom a A))) (digits_among h Q f)
    where
      small : T (mem_atom a A) ⊎ T (not (mem_atom a A)) → digit a ≤ h
      small (inl t) =
          let e : digit a ≡ suc (to a) = cond_yes (mem_atom a A) (suc (to a)) 0 t in
          let l : to a < h = f a (mem_atom→mem A t) in
          omega arith
      small (inr t) = let e : digit a ≡ 0 = cond_no (mem_atom a A) (suc (to a)) 0 t in omega arith

  pub digits_hold : (E : Term → Term → Type 0) (Q H : Question)
      → ((a : Atom) → a ∈ A → HoldsPairs E (to_head H (to a) a))
      → HoldsPairs E (pairing (digits A to Q) Q H)
  digits_hold E [] H f = λ p m. absurd (Memᴰ.not-nil m)
  digits_hold E (a ∷ Q) H f = go (decide (mem_atom a A)) (digits_hold E Q H f)
    where
      go : T (mem_atom a A) ⊎ T (not (mem_atom a A)) → HoldsPairs E (pairing (digits A to Q) Q H)
          → HoldsPairs E (pairing (digit a ∷ digits A to Q) (a ∷ Q) H)
      go (inl t) below =
          subst (λ (d : ℕ). HoldsPairs E (pairing (d ∷ digits A to Q) (a ∷ Q) H))
          (sym (cond_yes (mem_atom a A) (suc (to a)) 0 t))
          (holds_append E (to_head H (to a) a) (pairing (digits A to Q) Q H) (f a (mem_atom→mem A t)) below)
      go (inr t) below =
          subst (λ (d : ℕ). HoldsPairs E (pairing (d ∷ digits A to Q) (a ∷ Q) H))
          (sym (cond_no (mem_atom a A) (suc (to a)) 0 t)) below

  pub digits_held : (E : Term → Term → Type 0) (Q H : Question) → HoldsPairs E (pairing (digits A to Q) Q H)
      → (a : Atom)
      → a ∈ Q → a ∈ A → HoldsPairs E (to_head H (to a) a)
  digits_held E [] H h a m n = absurd (Memᴰ.not-nil m)
  digits_held E (b ∷ Q) H h a m n =
      go (decide (mem_atom b A)) (Memᴰ.cases_cons m) (λ below k. digits_held E Q H below a k n)
    where
      Rest : Type 0
      Rest = HoldsPairs E (pairing (digits A to Q) Q H) → a ∈ Q → HoldsPairs E (to_head H (to a) a)

      whole : (d : ℕ) → digit b ≡ d → HoldsPairs E (pairing (d ∷ digits A to Q) (b ∷ Q) H)
      whole d e = subst (λ (x : ℕ). HoldsPairs E (pairing (x ∷ digits A to Q) (b ∷ Q) H)) e h

      go : T (mem_atom b A) ⊎ T (not (mem_atom b A)) → (a ≡ b) ⊎ (a ∈ Q) → Rest → HoldsPairs E (to_head H (to a) a)
      go (inl t) (inl e) rest = λ p k.
          whole (suc (to b)) (cond_yes (mem_atom b A) (suc (to b)) 0 t) p
          (Memᴰ.append_left (pairing (digits A to Q) Q H) (subst (λ (c : Atom). p ∈ to_head H (to c) c) e k))
      go (inl t) (inr k) rest =
          rest
          (λ p q.
          whole (suc (to b)) (cond_yes (mem_atom b A) (suc (to b)) 0 t) p
          (Memᴰ.append_right (to_head H (to b) b) q))
          k
      go (inr t) (inl e) rest = absurd (clash (mem_atom b A) (mem→mem_atom A (Memᴰ.cast (sym e) n)) t)
      go (inr t) (inr k) rest = rest (whole 0 (cond_no (mem_atom b A) (suc (to b)) 0 t)) k
