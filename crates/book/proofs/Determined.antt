-- Any two results that a contract of this crate allows are equal. Assumes nothing.
use mathlib.Core.Path.{◌≡◌, sym, ◌∙◌}
use mathlib.Core.Logic.{◌⊎◌, inl, inr}
use mathlib.Core.List.{List}
use Prim.Native.Nat.{ℕ, ◌≤◌, ◌<◌}
use lib.ListN.{get_or}
use lib.Seq.{ext_get_or}
use Rattle.reading.specs.declared.Header.{Header}
use Rattle.std.proofs.Common.{Result}
use Rattle.reading.specs.declared.Refused.{Refused}
use Rattle.reading.specs.Refusal.{Refusal}
use Rattle.reading.specs.Told.{judged}
use Rattle.reading.proofs.ToldOnce.{judged_once}
use Rattle.reading.specs.Header.{rules, HeaderRead}
use Rattle.reading.specs.Verdict.{IsVerdict, verdict}
use Rattle.book.specs.Parts.{StartsAt}
use Rattle.covering.proofs.Tests.{le_or_lt}
use Rattle.reading.proofs.Exact.{verdict_only}
use Rattle.book.proofs.check.Reads as check-reads
use Rattle.book.proofs.read.Reads as read-reads
use Rattle.judging.proofs.answers.Reads as answers-reads
use Rattle.book.proofs.starts.Reads as starts-reads
use Rattle.book.proofs.rule_at.Reads as rule-at-reads
use Rattle.book.proofs.question.Reads as question-reads

module _ (B : List ℕ) where
  -- check: its contract names one refusal, and so does the statement over the conditions
  pub check_determined : {r t : Result Unit Refused} → judged r ≡ verdict B → judged t ≡ verdict B → r ≡ t
  check_determined {r} {t} e d = judged_once r t (e ∙ sym d)

  pub verdict_determined : {r t : Refusal} → IsVerdict B r → IsVerdict B t → r ≡ t
  verdict_determined v w = verdict_only B v ∙ sym (verdict_only B w)

  pub read_determined : {h g : Header} → HeaderRead B h → HeaderRead B g → h ≡ g
  read_determined r t = r.is ∙ sym t.is

  pub starts_determined : {a b : List ℕ} → StartsAt B a → StartsAt B b → a ≡ b
  starts_determined {a} {b} s t =
      ext_get_or 0 a b (s.size ∙ sym t.size) (λ k l. go k (le_or_lt k (rules B)))
    where
      go : (k : ℕ) → (k ≤ rules B) ⊎ (rules B < k) → get_or a k 0 ≡ get_or b k 0
      go k (inl h) = s.starts k h ∙ sym (t.starts k h)
      go k (inr h) = s.rest k h ∙ sym (t.rest k h)

-- The same of the contracts themselves, as a caller learns them: `Learnt` at the lifetimes, the arguments, the result
-- and the exit.
pub check_learnt : (κs : _) (a : _) (r s : _) (x y : _) → check-reads.Learnt κs a r x → check-reads.Learnt κs a s y
    → r ≡ s
check_learnt κs a r s x y p q = check_determined _ p q

pub read_learnt : (κs : _) (a : _) (r s : _) (x y : _) → read-reads.Learnt κs a r x → read-reads.Learnt κs a s y → r ≡ s
read_learnt κs a r s x y p q = read_determined _ p q

pub answers_learnt : (κs : _) (a : _) (r s : _) (x y : _) → answers-reads.Learnt κs a r x
    → answers-reads.Learnt κs a s y → r ≡ s
answers_learnt κs a r s x y p q = p ∙ sym q

pub starts_learnt : (κs : _) (a : _) (r s : _) (x y : _) → starts-reads.Learnt κs a r x
    → starts-reads.Learnt κs a s y → r ≡ s
starts_learnt κs a r s x y p q = starts_determined _ p q

pub rule_at_learnt : (κs : _) (a : _) (r s : _) (x y : _) → rule-at-reads.Learnt κs a r x
    → rule-at-reads.Learnt κs a s y → r ≡ s
rule_at_learnt κs a r s x y p q = p ∙ sym q

pub question_learnt : (κs : _) (a : _) (r s : _) (x y : _) → question-reads.Learnt κs a r x
    → question-reads.Learnt κs a s y → r ≡ s
question_learnt κs a r s x y p q = p ∙ sym q
