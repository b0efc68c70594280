-- One step of each search of `Verdict`, as the code goes: k of n are done, and n - k are left. Assumes nothing.
use mathlib.Core.Path.{◌≡◌, refl, sym, ◌∙◌, ap}
use mathlib.Core.Bool.{Bool, true, false, cond}
use mathlib.Core.List.{List}
use mathlib.Core.Option.{Option, none, some}
use Prim.Native.Nat.{ℕ, ◌+◌, ◌*◌, ◌-◌, ◌≤◌, ◌<◌}
use native.Mathlib.Nat.{sub-eq-zero_of_le, mul-le-mul_left}
use native.Mathlib.Omega.{arith}
use borrow.Author.Tests.{le-leb, lt-leb, lt-ltb, le-ltb}
use lib.ListN.{length}
use Rattle.covering.specs.Lists.{or_else}
use Rattle.covering.proofs.Tests.{no→false, true→T, none≢some, one_more}
use Rattle.std.proofs.Common.{Result, Ok, Err, Some, None}
use Rattle.std.specs.Result.{IsErrAnd}
use Rattle.std.proofs.lemmas.Result.{err_from_is_err_and}
use Rattle.reading.specs.declared.Refused.{Refused}
use Rattle.reading.specs.Refusal.{Refusal}
use Rattle.reading.specs.Told.{judged}
use Rattle.reading.proofs.ToldOnce.{some_number}
use Rattle.reading.specs.Word.{byte}
use Rattle.reading.specs.Header.{header_size, relations, rules, atoms, question_at, header_of}
use Rattle.reading.specs.Header.{atom_size, atom_places, question_atoms_at}
use Rattle.reading.specs.Book.{body_count, head_count, body_at, rule_end, rules_start, places_of}
use Rattle.reading.specs.Verdict.{wrong_places, rule_right, wrong_rule, wrong_place, wrong_in_atom, wrong_in_atoms}
use Rattle.reading.specs.Verdict.{wrong_in_rules, wrong_in_question, wrong_byte, loose_variable, refuse, told, accepted}
use Rattle.reading.specs.Verdict.{in_table}
use Rattle.reading.specs.Verdict.{offsets_right, contents, verdict}
use Rattle.judging.specs.Judged.{wrong_record}
use Rattle.reading.proofs.Conditions.{rule_right_lem}

-- the bytes of a thing after k of n, of z bytes each
pub bytes_within : (z n k : ℕ) → k < n → z * k + z ≤ z * n
bytes_within z n k l = let m : k + 1 ≤ n = omega arith in omega (arith, mul-le-mul_left z m)

no_refusal : (e : Refused) → judged (Err e) ≡ accepted → ⊥
no_refusal e h = omega (arith, some_number e.reason, ap (λ (x : Refusal). x.number) h)

-- a refusal is that of the search which found it, whatever comes after; where nothing is told, nothing was found
module _ (n : ℕ) (o : Option ℕ) where
  pub stops_else : (r : Option ℕ) (e : Refused) → judged (Err e) ≡ told n o → judged (Err e) ≡ told n (or_else o r)
  stops_else r e =
      elim o as (λ x. judged (Err e) ≡ told n x → judged (Err e) ≡ told n (or_else x r))
      [ none ↦ λ h. absurd (no_refusal e h) | some p ↦ λ h. h ]

  pub stops_there : (r : Refusal) (e : Refused) → judged (Err e) ≡ told n o → judged (Err e) ≡ refuse n o r
  stops_there r e =
      elim o as (λ x. judged (Err e) ≡ told n x → judged (Err e) ≡ refuse n x r)
      [ none ↦ λ h. absurd (no_refusal e h) | some p ↦ λ h. h ]

  pub found_none : 0 < n → judged (Ok tt) ≡ told n o → o ≡ none
  found_none l =
      elim o as (λ x. judged (Ok tt) ≡ told n x → x ≡ none)
      [ none ↦ λ h. refl | some p ↦ λ h. absurd (omega (arith, ap (λ (x : Refusal). x.number) h)) ]

  pub passes_else : (r : Option ℕ) → 0 < n → judged (Ok tt) ≡ told n o → or_else o r ≡ r
  passes_else r l h = rw (found_none l h)

  pub passes_there : (r : Refusal) → 0 < n → judged (Ok tt) ≡ told n o → refuse n o r ≡ r
  passes_there r l h = rw (found_none l h)

-- what a `?` hands on
pub handed : (r : Result Unit Refused) (e : Refused) {t : Refusal} → IsErrAnd r (λ x. x ≡ e) → judged (Err e) ≡ t
    → judged r ≡ t
handed r e h d = let p = err_from_is_err_and r h in rw (p.1, p.2) d

module _ (B : List ℕ) where
  pub rules_end_right : (e s n k : ℕ) → n ≤ k → e ≤ s → wrong_rule B e s (n - k) ≡ none
  unfolding wrong_rule
  rules_end_right e s n k h l = rw (sub-eq-zero_of_le h, wrong_rule, le-leb e s l)

  pub rules_end_wrong : (e s n k : ℕ) → n ≤ k → s < e → wrong_rule B e s (n - k) ≡ some s
  unfolding wrong_rule
  rules_end_wrong e s n k h l = rw (sub-eq-zero_of_le h, wrong_rule, lt-leb e s l)

  pub rules_stop : (e s n k : ℕ) → k < n → rule_right B e s ≡ false → wrong_rule B e s (n - k) ≡ some s
  unfolding wrong_rule
  rules_stop e s n k h l = rw (one_more n k h, wrong_rule, l)

  pub rules_pass : (e s n k : ℕ) → k < n → rule_right B e s ≡ true
      → wrong_rule B e s (n - k) ≡ wrong_rule B e (rule_end B s) (n - (k + 1))
  unfolding wrong_rule
  rules_pass e s n k h l = rw (one_more n k h, wrong_rule, l)

  -- a rule whose two count bytes do not both fit is wrong
  pub rule_short : (e s : ℕ) → e < s + 2 → rule_right B e s ≡ false
  rule_short e s h = no→false (rule_right B e s) (λ t. let l = (rule_right_lem B e s t).ends in omega arith)

  -- the end of a rule, where it is right
  pub end_wrong : (e s : ℕ) → cond (rule_right B e s) (Some (rule_end B s)) None ≡ None → rule_right B e s ≡ false
  end_wrong e s =
      elim (rule_right B e s) as (λ b. cond b (Some (rule_end B s)) None ≡ None → b ≡ false)
      [ true ↦ λ h. cc | false ↦ λ h. refl ]

  pub end_right : (e s next : ℕ) → Some next ≡ cond (rule_right B e s) (Some (rule_end B s)) None
      → (rule_right B e s ≡ true) × (next ≡ rule_end B s)
  end_right e s next =
      elim (rule_right B e s) as (λ b. Some next ≡ cond b (Some (rule_end B s)) None
      → (b ≡ true) × (next ≡ rule_end B s))
      [ true ↦ λ h. (refl, cc) | false ↦ λ h. cc ]

  -- what is known of the next of n - k rules that are right
  pub record NextRule (e s left : ℕ) : Type 0 where
    pub ends : rule_end B s ≤ e
    pub rest : wrong_rule B e (rule_end B s) left ≡ none

  pub next_rule : (e s n k : ℕ) → k < n → wrong_rule B e s (n - k) ≡ none → NextRule e s (n - (k + 1))
  next_rule e s n k l h = go (rule_right B e s) refl
    where
      go : (b : Bool) → rule_right B e s ≡ b → NextRule e s (n - (k + 1))
      go true d = record { ends = (rule_right_lem B e s (true→T _ d)).ends; rest = sym (rules_pass e s n k l d) ∙ h }
      go false d = absurd (none≢some (sym h ∙ rules_stop e s n k l d))

  pub relation_wrong : (i : ℕ) → relations B ≤ byte B i → wrong_in_atom B i ≡ some i
  unfolding wrong_in_atom
  relation_wrong i h = rw (le-ltb (byte B i) (relations B) h)

  pub relation_right : (i : ℕ) → byte B i < relations B
      → wrong_in_atom B i ≡ wrong_place B (places_of B (byte B i)) (i + 1) 0 (atom_places B)
  unfolding wrong_in_atom
  relation_right i h = rw (lt-ltb (byte B i) (relations B) h)

  pub atoms_end : (i n k : ℕ) → n ≤ k → wrong_in_atoms B i (n - k) ≡ none
  unfolding wrong_in_atoms
  atoms_end i n k h = rw (sub-eq-zero_of_le h)

  pub atoms_more : (i n k : ℕ) → k < n
      → wrong_in_atoms B i (n - k) ≡ or_else (wrong_in_atom B i) (wrong_in_atoms B (i + atom_size B) (n - (k + 1)))
  unfolding wrong_in_atoms
  atoms_more i n k h = rw (one_more n k h)

  pub bytes_end : (s n k : ℕ) → n ≤ k → wrong_in_rules B s (n - k) ≡ none
  unfolding wrong_in_rules
  bytes_end s n k h = rw (sub-eq-zero_of_le h)

  pub bytes_more : (s n k : ℕ) → k < n
      → wrong_in_rules B s (n - k)
      ≡ or_else (wrong_in_atoms B (body_at B s) (body_count B s + head_count B s))
      (wrong_in_rules B (rule_end B s) (n - (k + 1)))
  unfolding wrong_in_rules
  bytes_more s n k h = rw (one_more n k h)

  abbrev pub five : Option ℕ
  five = wrong_places B (header_size B) (relations B)

  abbrev pub six : Option ℕ
  six = wrong_rule B (question_at B) (rules_start B) (rules B)

  abbrev pub in_rules_is : Option ℕ
  in_rules_is = wrong_in_rules B (rules_start B) (rules B)

  -- in the question: its answer record, if it has one, then its atoms
  abbrev pub in_question_atoms : Option ℕ
  in_question_atoms = wrong_in_atoms B (question_atoms_at B) (atoms B)

  pub byte_is : wrong_byte B ≡ or_else in_rules_is (wrong_in_question B)
  unfolding wrong_byte
  byte_is = refl

  pub question_is : wrong_in_question B ≡ or_else (wrong_record B) in_question_atoms
  unfolding wrong_in_question
  question_is = refl

  pub contents_is : contents B ≡ refuse 5 five (refuse 6 six (refuse 7 (wrong_byte B) (told 11 (loose_variable B))))
  unfolding contents
  contents_is = refl

  pub verdict_two : length B < header_size B → verdict B ≡ record { number = 2; place = 0 }
  unfolding verdict
  verdict_two h = rw (lt-leb (header_size B) (length B) h)

  pub verdict_three : header_size B ≤ length B → in_table (header_of B) ≡ false
      → verdict B ≡ record { number = 3; place = 0 }
  unfolding verdict
  verdict_three h t = rw (le-leb (header_size B) (length B) h, t)

  pub verdict_four : header_size B ≤ length B → in_table (header_of B) ≡ true
      → offsets_right (header_of B) (length B) ≡ false → verdict B ≡ record { number = 4; place = 0 }
  unfolding verdict
  verdict_four h t o = rw (le-leb (header_size B) (length B) h, t, o)

  pub verdict_contents : header_size B ≤ length B → in_table (header_of B) ≡ true
      → offsets_right (header_of B) (length B) ≡ true → verdict B ≡ contents B
  unfolding verdict
  verdict_contents h t o = rw (le-leb (header_size B) (length B) h, t, o)
