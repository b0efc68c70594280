-- 13: the search finds the earliest byte that has no old form. Assumes nothing.
use mathlib.Core.Path.{◌≡◌, refl, sym, ◌∙◌, ap, subst}
use mathlib.Core.Logic.{◌⊎◌, inl, inr}
use mathlib.Core.List.{List}
use Prim.Native.Nat.{ℕ, zero, suc, ◌+◌, ◌*◌, ◌-◌, ◌≤◌, ◌<◌}
use native.Mathlib.Omega.{arith}
use lib.Dec.{T, ltb, leb, lt→ltb, le→leb, ltb→lt, leb→le}
use Rattle.covering.proofs.Tests.{or_left, or_right, or_cases, le_or_lt}
use Rattle.reading.specs.Word.{byte}
use Rattle.reading.specs.Header.{old, header_size, relations, rules, atoms, question_at, atom_places, atom_size}
use Rattle.reading.specs.Header.{announced, answer_records}
use Rattle.reading.specs.Book.{body_count, head_count, body_at, rule_end, after, rules_start, rule_start, places_of}
use Rattle.reading.specs.Refusals.{AtomOf, in_body, in_head, in_question}
use Rattle.reading.specs.Copy.{LateVariable, NoOldForm, relation, in_atom, in_answer, wide_places, term_old}
use Rattle.reading.specs.Copy.{late_from}
use Rattle.reading.specs.Copy.{late_in_atoms, late_in_rules, no_old_form}
use Rattle.reading.specs.Verdict.{SoundBook}
use Rattle.reading.proofs.After.{after_late}
use Rattle.reading.proofs.Blocks.{block_at, InBlocks, blocks_from, blocks_to, blocks_earliest}
use Rattle.reading.proofs.Earliest.{Earliest, earliest_same, earliest_else, Failing, earliest_each}
use Rattle.reading.proofs.FoundQuestion.{records_one}
use Rattle.reading.proofs.Ranges.{le_not}
use Rattle.reading.proofs.SoundBook.{sound_end}
use Rattle.reading.proofs.SoundQuestion.{each_standing}

-- a byte passes the test exactly if it is no variable above 31
pub late_not : (x : ℕ) → LateVariable x → T (term_old x) → ⊥
late_not x h t = go (or_cases (ltb x old.variables) (leb 128 x) t)
  where
    go : T (ltb x old.variables) ⊎ T (leb 128 x) → ⊥
    go (inl u) = let l : x < 32 = ltb→lt _ _ u in omega arith
    go (inr u) = let l : 128 ≤ x = leb→le _ _ u in omega arith

pub not_late : (x : ℕ) → (T (term_old x) → ⊥) → LateVariable x
not_late x f = (go (le_or_lt old.variables x), on (le_or_lt 128 x))
  where
    go : (old.variables ≤ x) ⊎ (x < old.variables) → old.variables ≤ x
    go (inl h) = h
    go (inr h) = absurd (f (or_left (ltb x old.variables) (leb 128 x) (lt→ltb _ _ h)))

    on : (128 ≤ x) ⊎ (x < 128) → x < 128
    on (inl h) = absurd (f (or_right (ltb x old.variables) (leb 128 x) (le→leb _ _ h)))
    on (inr h) = h

module _ (B : List ℕ) where
  -- a variable above 31 in the atom at i
  abbrev LateAt : ℕ → ℕ → Type 0
  LateAt i p = Failing (λ q. term_old (byte B q)) (i + 1) (atom_places B) p

  late_earliest : (i n : ℕ) → Earliest (Failing (λ q. term_old (byte B q)) i n) (late_from B i n)
  unfolding late_from
  late_earliest = earliest_each (λ q. term_old (byte B q)) (late_from B) (λ i. refl) (λ i n. refl)

  -- in n atoms from i on
  abbrev next_atom : ℕ → ℕ
  next_atom i = i + atom_size B

  atom_block : (i k : ℕ) → block_at next_atom i k ≡ i + atom_size B * k
  atom_block i zero = omega arith
  atom_block i (suc k) = atom_block (i + atom_size B) k ∙ omega arith

  abbrev AtomsLate : ℕ → ℕ → ℕ → Type 0
  AtomsLate i n p = InBlocks LateAt next_atom i n p

  late_from_lem : (i p : ℕ) → LateAt i p → i ≤ p
  late_from_lem i p w = omega (arith, w.0)

  late_to : (i p : ℕ) → LateAt i p → p < next_atom i
  late_to i p w = omega (arith, w.1)

  atoms_from : (i n p : ℕ) → AtomsLate i n p → i ≤ p
  atoms_from = blocks_from LateAt next_atom late_from_lem late_to (λ i. omega arith)

  atoms_to : (i n p : ℕ) → AtomsLate i n p → p < i + atom_size B * n
  atoms_to i n p w =
      omega (arith, atom_block i n, blocks_to LateAt next_atom late_from_lem late_to (λ j. omega arith) i n p w)

  atoms_earliest : (i n : ℕ) → Earliest (AtomsLate i n) (late_in_atoms B i n)
  unfolding late_in_atoms
  atoms_earliest =
      blocks_earliest LateAt next_atom late_from_lem late_to (λ i. omega arith)
      (λ i. late_from B (i + 1) (atom_places B)) (late_in_atoms B)
      (λ i. late_earliest (i + 1) (atom_places B)) (λ i. refl) (λ i n. refl)

  -- in n rules from s on
  abbrev RuleLate : ℕ → ℕ → Type 0
  RuleLate s p = AtomsLate (body_at B s) (body_count B s + head_count B s) p

  rule_from : (s p : ℕ) → RuleLate s p → s ≤ p
  rule_from s p w = omega (arith, atoms_from _ _ p w)

  rule_to : (s p : ℕ) → RuleLate s p → p < rule_end B s
  rule_to s p w = omega (arith, atoms_to _ _ p w)

  rule_block : (s k : ℕ) → block_at (λ (t : ℕ). rule_end B t) s k ≡ after B s k
  unfolding after
  rule_block s zero = refl
  rule_block s (suc k) = rule_block (rule_end B s) k

  abbrev RulesLate : ℕ → ℕ → ℕ → Type 0
  RulesLate s n p = InBlocks RuleLate (λ (t : ℕ). rule_end B t) s n p

  rules_from : (s n p : ℕ) → RulesLate s n p → s ≤ p
  rules_from = blocks_from RuleLate (λ (t : ℕ). rule_end B t) rule_from rule_to (λ s. omega arith)

  rules_to : (s n p : ℕ) → RulesLate s n p → p < after B s n
  rules_to s n p w =
      omega (
        arith,
        rule_block s n,
        blocks_to RuleLate (λ (t : ℕ). rule_end B t) rule_from rule_to (λ t. omega arith) s n p w,
      )

  rules_earliest : (s n : ℕ) → Earliest (RulesLate s n) (late_in_rules B s n)
  unfolding late_in_rules
  rules_earliest =
      blocks_earliest RuleLate (λ (t : ℕ). rule_end B t) rule_from rule_to (λ s. omega arith)
      (λ s. late_in_atoms B (body_at B s) (body_count B s + head_count B s)) (late_in_rules B)
      (λ s. atoms_earliest (body_at B s) (body_count B s + head_count B s)) (λ s. refl) (λ s n. refl)

  -- a relation of over four places
  abbrev Wide : ℕ → Type 0
  Wide = Failing (λ q. leb (byte B q) old.places) (header_size B) (relations B)

  wide_earliest : Earliest Wide (wide_places B (header_size B) (relations B))
  unfolding wide_places
  wide_earliest =
      earliest_each (λ q. leb (byte B q) old.places) (wide_places B) (λ i. refl) (λ i n. refl) (header_size B)
      (relations B)

  -- all three
  abbrev Late : ℕ → Type 0
  Late p =
      Wide p
      ⊎ (RulesLate (rules_start B) (rules B) p ⊎ AtomsLate (question_at B) (answer_records B + atoms B) p)

  late_place : (i p : ℕ) → LateAt i p → (w : ℕ) × (w < atom_places B) × (p ≡ i + 1 + w) × LateVariable (byte B p)
  late_place i p w = (p - (i + 1), omega (arith, w.0, w.1), omega (arith, w.0), not_late (byte B p) w.2)

  place_late : (i w p : ℕ) → w < atom_places B → p ≡ i + 1 + w → LateVariable (byte B p) → LateAt i p
  place_late i w p l e h = (omega arith, omega arith, late_not (byte B p) h)

  atom_late : (i p : ℕ) → AtomOf B i → LateAt i p → NoOldForm B p
  atom_late i p a w = let v = late_place i p w in in_atom i v.0 a v.1 v.2 v.3

  rule_late : (k p : ℕ) → k < rules B → RuleLate (rule_start B k) p → NoOldForm B p
  rule_late k p l w =
      go w.0 w.1 (subst (λ (i : ℕ). LateAt i p) (atom_block (body_at B s) w.0) w.2)
      (le_or_lt (body_count B s) w.0)
    where
      s : ℕ
      s = rule_start B k

      parted : (j b : ℕ) → b ≤ j → j ≡ b + (j - b)
      parted j b h = omega arith

      go : (j : ℕ) → j < body_count B (rule_start B k) + head_count B (rule_start B k)
          → LateAt (body_at B (rule_start B k) + atom_size B * j) p
          → (body_count B (rule_start B k) ≤ j) ⊎ (j < body_count B (rule_start B k)) → NoOldForm B p
      go j m v (inl h) =
          let b = body_count B (rule_start B k) in
          let e = ap (λ (n : ℕ). atom_size B * n) (parted j b h) in
          atom_late (body_at B (rule_start B k) + atom_size B * j) p
          (in_head k (j - b) l (omega arith) (omega arith)) v
      go j m v (inr h) = atom_late _ p (in_body k j l h refl) v

  question_late : (p j : ℕ) → j < answer_records B + atoms B → LateAt (question_at B + atom_size B * j) p → NoOldForm B p
  question_late p j l w =
      each_standing B (λ i. LateAt i p → NoOldForm B p) answer (λ k m v. atom_late _ p (in_question k m refl) v) j l w
    where
      answer : T (announced B) → LateAt (question_at B) p → NoOldForm B p
      answer t v = let x = late_place (question_at B) p v in in_answer t x.0 x.1 x.2 x.3

  to : (p : ℕ) → Late p → NoOldForm B p
  to p (inl w) =
      let at : p ≡ header_size B + (p - header_size B) = omega (arith, w.0) in
      relation (p - header_size B) (omega (arith, w.0, w.1)) at
      (le_not (subst (λ (q : ℕ). T (leb (byte B q) old.places) → ⊥) at w.2))
  to p (inr (inl w)) =
      rule_late w.0 p w.1 (subst (λ (s : ℕ). RuleLate s p) (rule_block (rules_start B) w.0) w.2)
  to p (inr (inr w)) =
      question_late p w.0 w.1 (subst (λ (i : ℕ). LateAt i p) (atom_block (question_at B) w.0) w.2)

  -- an atom of the n from i on
  atoms_late : (i n j p : ℕ) → j < n → LateAt (i + atom_size B * j) p → AtomsLate i n p
  atoms_late i n j p l w = (j, l, subst (λ (k : ℕ). LateAt k p) (sym (atom_block i j)) w)

  rules_late : (k j p : ℕ) → k < rules B → j < body_count B (rule_start B k) + head_count B (rule_start B k)
      → LateAt (body_at B (rule_start B k) + atom_size B * j) p → RulesLate (rules_start B) (rules B) p
  rules_late k j p l m w =
      (k, l, subst (λ (s : ℕ). RuleLate s p) (sym (rule_block (rules_start B) k)) (atoms_late _ _ j p m w))

  atom_from : (p i : ℕ) → AtomOf B i → LateAt i p → Late p
  atom_from p i (in_body k j l h e) w =
      inr (inl (rules_late k j p l (omega arith) (subst (λ (a : ℕ). LateAt a p) e w)))
  atom_from p i (in_head k j l h e) w =
      let s = rule_start B k in
      let d : i ≡ body_at B s + atom_size B * (body_count B s + j) = omega arith in
      inr (inl (rules_late k (body_count B s + j) p l (omega arith) (subst (λ (a : ℕ). LateAt a p) d w)))
  atom_from p i (in_question j h e) w =
      let d : i ≡ question_at B + atom_size B * (answer_records B + j) = omega arith in
      inr (inr (atoms_late _ _ (answer_records B + j) p (omega arith) (subst (λ (a : ℕ). LateAt a p) d w)))

  from : (p : ℕ) → NoOldForm B p → Late p
  from p (relation r l e h) =
      inl (
        omega arith,
        omega arith,
        λ t.
            let u : places_of B r ≤ 4 = leb→le _ _ (subst (λ (q : ℕ). T (leb (byte B q) old.places)) e t) in
            omega arith,
      )
  from p (in_atom i w a l e h) = atom_from p i a (place_late i w p l e h)
  from p (in_answer t w l e h) =
      let d : question_at B ≡ question_at B + atom_size B * 0 = omega arith in
      inr (inr (atoms_late _ _ 0 p (omega (arith, records_one B t))
      (subst (λ (a : ℕ). LateAt a p) d (place_late (question_at B) w p l e h))))

  -- where the rules end no later than the question starts
  pub old_earliest : rule_start B (rules B) ≤ question_at B → Earliest (NoOldForm B) (no_old_form B)
  unfolding no_old_form
  old_earliest h =
      earliest_same to from
      (earliest_else wide_earliest
      (earliest_else (rules_earliest (rules_start B) (rules B))
      (atoms_earliest (question_at B) (answer_records B + atoms B))
      (λ p q v w. omega (arith, rules_to _ _ p v, atoms_from _ _ q w)))
      later)
    where
      start : rules_start B ≤ rule_start B (rules B)
      start = after_late B (rules_start B) (rules B)

      later : (p q : ℕ) → Wide p
          → RulesLate (rules_start B) (rules B) q ⊎ AtomsLate (question_at B) (answer_records B + atoms B) q → p ≤ q
      later p q v (inl w) = omega (arith, v.1, rules_from _ _ q w)
      later p q v (inr w) = omega (arith, v.1, start, atoms_from _ _ q w)

  pub sound_earliest : SoundBook B → Earliest (NoOldForm B) (no_old_form B)
  sound_earliest s = old_earliest (omega (arith, sound_end B s))
