-- What a book is read as (`book_of`), part by part: laws for the layers above. Assumes nothing.
use mathlib.Core.Path.{◌≡◌, refl, sym, ◌∙◌, ap}
use mathlib.Core.Bool.{cond}
use mathlib.Core.List.Memᴰ
use mathlib.Core.List.{List, [], ◌∷◌}
use mathlib.Core.Logic.{◌⊎◌, inl, inr}
use Prim.Native.Nat.{ℕ, zero, suc, ◌+◌, ◌*◌, ◌-◌, ◌≤◌, ◌<◌}
use native.Mathlib.Nat.{sub-zero, sub-eq-zero_of_le}
use native.Mathlib.Omega.{arith}
use lib.ListN.{drop, take}
use Rattle.covering.specs.Lists.{◌∈◌}
use Rattle.covering.specs.Record.{Layout, holding, stored, args_at, atoms_at}
use Rattle.covering.specs.Rule.{Rule}
use Rattle.reading.specs.Word.{byte, word}
use Rattle.reading.specs.Header.{new, form_of}
use Rattle.reading.specs.Header.{rules, allowed, question_at, atom_places, announced, relations, header_size}
use Rattle.reading.specs.Book.{body_count, head_count, body_at, head_at, rule_end, rule_at, rules_from, after}
use Rattle.reading.specs.Book.{rules_start, rule_start, question_atoms, question_in, book_of}
use Rattle.reading.proofs.Forms.{new_held}
use Rattle.reading.proofs.After.{after_next}
use Rattle.covering.proofs.Tests.{one_more}

-- "All words are 16-bit, little-endian."
pub word_is : (B : List ℕ) (i : ℕ) → word B i ≡ byte B i + 256 * byte B (i + 1)
unfolding word
word_is B i = refl

module _ (B : List ℕ) where
  -- the parts of a book
  pub book_rules : (book_of B).rules ≡ rules_from B (rules_start B) (rules B)
  unfolding book_of
  book_rules = refl

  pub book_question : (book_of B).question ≡ question_in B
  unfolding book_of
  book_question = refl

  pub book_answer : (book_of B).question.answer ≡ cond (announced B) (args_at B (question_at B + 1) (atom_places B)) []
  unfolding book_of question_in
  book_answer = refl

  pub book_atoms : (book_of B).question.atoms ≡ question_atoms B
  unfolding book_of question_in
  book_atoms = refl

  pub book_places : (book_of B).places ≡ take (relations B) (drop (header_size B) B)
  unfolding book_of
  book_places = refl

  pub book_allowed : (book_of B).allowed ≡ allowed B
  unfolding book_of
  book_allowed = refl

  -- a rule's body and head, and where they stand
  pub rule_is : (s : ℕ)
      → rule_at B s
      ≡ record {
        body = atoms_at (holding (atom_places B)) B (body_at B s) (body_count B s);
        head = atoms_at (holding (atom_places B)) B (head_at B s) (head_count B s);
      }
  unfolding rule_at
  rule_is s = refl

  -- of a book in the new form, in the layout of all the bytes inside
  pub rule_stored : form_of B ≡ new → (s : ℕ)
      → rule_at B s
      ≡ record {
        body = atoms_at stored B (body_at B s) (body_count B s);
        head = atoms_at stored B (head_at B s) (head_count B s);
      }
  rule_stored e s =
      rule_is s
      ∙ ap (λ (L : Layout). record {
        body = atoms_at L B (body_at B s) (body_count B s);
        head = atoms_at L B (head_at B s) (head_count B s);
      }) (new_held B e)

  pub rule_body : (s : ℕ) → (rule_at B s).body ≡ atoms_at (holding (atom_places B)) B (body_at B s) (body_count B s)
  unfolding rule_at
  rule_body s = refl

  pub rule_head : (s : ℕ) → (rule_at B s).head ≡ atoms_at (holding (atom_places B)) B (head_at B s) (head_count B s)
  unfolding rule_at
  rule_head s = refl

  -- the rules as a loop goes through them: k of n are done
  pub rules_none : (s n k : ℕ) → n ≤ k → rules_from B s (n - k) ≡ []
  unfolding rules_from
  rules_none s n k h = rw (sub-eq-zero_of_le h)

  pub rules_more : (n k : ℕ) → k < n
      → rules_from B (rule_start B k) (n - k)
      ≡ rule_at B (rule_start B k) ∷ rules_from B (rule_start B (k + 1)) (n - (k + 1))
  unfolding rules_from
  rules_more n k h =
      ap (rules_from B (rule_start B k)) (one_more n k h)
      ∙ ap (λ (s : ℕ). rule_at B (rule_start B k) ∷ rules_from B s (n - (k + 1))) (sym (after_next B (rules_start B) k))

  rules_after : (s n k : ℕ) → drop k (rules_from B s n) ≡ rules_from B (after B s k) (n - k)
  unfolding rules_from after
  rules_after s n zero = ap (rules_from B s) (sym (sub-zero n))
  rules_after s zero (suc k) = ap (rules_from B (after B (rule_end B s) k)) (none_left (suc k))
    where
      none_left : (k : ℕ) → 0 ≡ 0 - k
      none_left k = omega arith
  rules_after s (suc n) (suc k) =
      rules_after (rule_end B s) n k ∙ ap (rules_from B (after B (rule_end B s) k)) (fewer n k)
    where
      fewer : (n k : ℕ) → n - k ≡ suc n - suc k
      fewer n k = omega arith

  -- the rules from the k-th on
  pub rules_left : (k : ℕ) → drop k (book_of B).rules ≡ rules_from B (rule_start B k) (rules B - k)
  rules_left k = ap (drop k) book_rules ∙ rules_after (rules_start B) (rules B) k

  -- where each rule of the list starts
  pub rule_from : (s n : ℕ) {r : Rule} → r ∈ rules_from B s n → (k : ℕ) × (k < n) × (r ≡ rule_at B (after B s k))
  unfolding rules_from after
  rule_from s zero m = absurd (Memᴰ.not-nil m)
  rule_from s (suc n) {r} m = go (Memᴰ.cases_cons m) (λ t. rule_from (rule_end B s) n t)
    where
      go : (r ≡ rule_at B s) ⊎ (r ∈ rules_from B (rule_end B s) n)
          → (r ∈ rules_from B (rule_end B s) n → (k : ℕ) × (k < n) × (r ≡ rule_at B (after B (rule_end B s) k)))
          → (k : ℕ) × (k < suc n) × (r ≡ rule_at B (after B s k))
      go (inl e) below = (0, omega arith, e)
      go (inr t) below = let b = below t in (suc b.0, omega (arith, b.1), b.2)

  pub rule_member : (s n k : ℕ) → k < n → rule_at B (after B s k) ∈ rules_from B s n
  unfolding rules_from after
  rule_member s zero k l = absurd (omega arith)
  rule_member s (suc n) zero l = Memᴰ.head refl
  rule_member s (suc n) (suc k) l = Memᴰ.tail (rule_member (rule_end B s) n k (omega arith))
