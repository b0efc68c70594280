-- The searches for 7 and 11 find the earliest place at which the condition of the number in `Refusals` applies. Assumes
-- nothing.
use mathlib.Core.Path.{◌≡◌, refl, sym, ap, subst}
use mathlib.Core.Bool.{not}
use mathlib.Core.Logic.{◌⊎◌, inl, inr}
use mathlib.Core.List.{List}
use Prim.Native.Nat.{ℕ, ◌+◌, ◌*◌, ◌-◌, ◌≤◌, ◌<◌}
use native.Mathlib.Omega.{arith}
use borrow.Author.Tests.{le-ltb}
use lib.Dec.{T, ltb, lt→ltb, eqb→eq}
use Rattle.covering.specs.Lists.{◌∈◌, any}
use Rattle.covering.specs.Term.{Term, var, Question, terms, eq_term}
use Rattle.covering.specs.Asking.{answer_relation}
use Rattle.covering.proofs.Tests.{clash, or_left, or_right, or_cases, false→T, le_or_lt}
use Rattle.covering.proofs.Lists.{any_in, any_out}
use Rattle.covering.proofs.Terms.{eq_term→eq, eq_term_refl}
use Rattle.reading.specs.Word.{byte}
use Rattle.reading.specs.Header.{rules, question_at, atom_size, atom_places, variables, announced}
use Rattle.reading.specs.Book.{body_count, head_count, body_at, rules_start, rule_start, question_atoms}
use Rattle.reading.specs.Refusals.{AtomOf, in_body, in_head, in_question, AtomWrong, AnswerWrong, relation, place}
use Rattle.reading.specs.Refusals.{ByteWrong, in_atom, in_answer, LooseVariable}
use Rattle.reading.specs.Verdict.{wrong_byte, stands_in, loose_variable}
use Rattle.reading.proofs.Earliest.{Earliest, earliest_same, earliest_else}
use Rattle.reading.proofs.Found.{RuleBytes, bytes_earliest, bytes_to}
use Rattle.reading.proofs.FoundQuestion.{AnswerFrom, QuestionFrom, question_from, question_earliest, LooseFrom}
use Rattle.reading.proofs.FoundQuestion.{loose_earliest}
use Rattle.reading.proofs.Ranges.{eq_not}

module _ (B : List ℕ) where
  -- 7, where the rules end no later than the question starts
  ByteFrom : ℕ → Type 0
  ByteFrom p = RuleBytes B (rules_start B) (rules B) p ⊎ QuestionFrom B p

  answer_wrong : (p : ℕ) → T (announced B) → AnswerFrom B (question_at B) p → AnswerWrong B p
  answer_wrong p t (inl v) =
      relation t (λ e. eq_not v.1 (subst (λ (q : ℕ). byte B q ≡ answer_relation) (sym v.0) e)) v.0
  answer_wrong p t (inr w) = place t w.0 (omega (arith, w.2)) w.3 w.4

  answer_found : (p : ℕ) → AnswerWrong B p → T (announced B) × AnswerFrom B (question_at B) p
  answer_found p (relation t f e) =
      (t, inl (e, λ u. f (subst (λ (q : ℕ). byte B q ≡ answer_relation) e (eqb→eq _ _ u))))
  answer_found p (place t w l e f) = (t, inr (w, omega arith, omega arith, e, f))

  byte_to : (p : ℕ) → ByteFrom p → ByteWrong B p
  unfolding ByteFrom
  byte_to p (inl w) = go w.2.0 w.2.1 w.2.2 (le_or_lt (body_count B s) w.2.0)
    where
      s : ℕ
      s = rule_start B w.0

      parted : (j b : ℕ) → b ≤ j → j ≡ b + (j - b)
      parted j b h = omega arith

      go : (j : ℕ) → j < body_count B (rule_start B w.0) + head_count B (rule_start B w.0)
          → AtomWrong B (body_at B (rule_start B w.0) + atom_size B * j) p
          → (body_count B (rule_start B w.0) ≤ j) ⊎ (j < body_count B (rule_start B w.0)) → ByteWrong B p
      go j l v (inl h) =
          let b = body_count B (rule_start B w.0) in
          let e = ap (λ (n : ℕ). atom_size B * n) (parted j b h) in
          in_atom (body_at B (rule_start B w.0) + atom_size B * j)
          (in_head w.0 (j - b) w.1 (omega arith) (omega arith)) v
      go j l v (inr h) = in_atom _ (in_body w.0 j w.1 h refl) v
  byte_to p (inr (inl w)) = in_answer (answer_wrong p w.0 w.1)
  byte_to p (inr (inr w)) = in_atom _ (in_question w.0 w.1 refl) w.2

  atom_found : (p i : ℕ) → AtomOf B i → AtomWrong B i p → ByteFrom p
  unfolding ByteFrom
  atom_found p i (in_body k j l h e) v =
      inl (k, l, (j, omega arith, subst (λ (a : ℕ). AtomWrong B a p) e v))
  atom_found p i (in_head k j l h e) v =
      let s = rule_start B k in
      let d : i ≡ body_at B s + atom_size B * (body_count B s + j) = omega arith in
      inl (k, l, (body_count B s + j, omega arith, subst (λ (a : ℕ). AtomWrong B a p) d v))
  atom_found p i (in_question j h e) v = inr (inr (j, h, subst (λ (a : ℕ). AtomWrong B a p) e v))

  byte_from : (p : ℕ) → ByteWrong B p → ByteFrom p
  unfolding ByteFrom
  byte_from p (in_atom i a v) = atom_found p i a v
  byte_from p (in_answer w) = inr (inl (answer_found p w))

  pub byte_earliest : rule_start B (rules B) ≤ question_at B → Earliest (ByteWrong B) (wrong_byte B)
  unfolding ByteFrom wrong_byte
  byte_earliest h =
      earliest_same byte_to byte_from
      (earliest_else (bytes_earliest B (rules_start B) (rules B)) (question_earliest B)
      (λ p q v w. omega (arith, bytes_to B (rules_start B) (rules B) p v, question_from B q w)))

-- 11: a byte that passes is none of k variables or stands in an atom
pub stands_in_lem : (k : ℕ) (A : Question) (b : ℕ) → T (stands_in k A b) → b < k → var b ∈ terms A
stands_in_lem k A b t l = go (or_cases (not (ltb b k)) _ t)
  where
    go : T (not (ltb b k)) ⊎ T (any (eq_term (var b)) (terms A)) → var b ∈ terms A
    go (inl n) = absurd (clash (ltb b k) (lt→ltb b k l) n)
    go (inr a) =
        let x = any_out (eq_term (var b)) (terms A) a in
        subst (λ (t : Term). t ∈ terms A) (sym (eq_term→eq (var b) x.0 x.2)) x.1

-- and one that does not is a variable that stands in none
loose_is : (k : ℕ) (A : Question) (b : ℕ) → (T (stands_in k A b) → ⊥) → (b < k) × (var b ∈ terms A → ⊥)
loose_is k A b f = (
  go (le_or_lt k b),
  λ m. f (or_right (not (ltb b k)) _ (any_in _ (terms A) m (eq_term_refl (var b)))),
)
  where
    go : (k ≤ b) ⊎ (b < k) → b < k
    go (inl l) = absurd (f (or_left (not (ltb b k)) _ (false→T (ltb b k) (le-ltb b k l))))
    go (inr l) = l

module _ (B : List ℕ) where
  loose_to : (p : ℕ) → T (announced B) × LooseFrom B (question_atoms B) (question_at B + 1) (atom_places B) p
      → LooseVariable B p
  loose_to p w =
      let v = loose_is (variables B) (question_atoms B) (byte B p) w.1.2 in
      record {
        announces = w.0;
        place = p - (question_at B + 1);
        below = omega (arith, w.1.0, w.1.1);
        at = omega (arith, w.1.0);
        variable = v.0;
        nowhere = v.1;
      }

  loose_found : (p : ℕ) → LooseVariable B p
      → T (announced B) × LooseFrom B (question_atoms B) (question_at B + 1) (atom_places B) p
  loose_found p w = (
    w.announces,
    (
      omega (arith, w.at),
      omega (arith, w.at, w.below),
      λ t. w.nowhere (stands_in_lem (variables B) (question_atoms B) (byte B p) t w.variable),
    ),
  )

  pub variable_earliest : Earliest (LooseVariable B) (loose_variable B)
  variable_earliest = earliest_same loose_to loose_found (loose_earliest B)
