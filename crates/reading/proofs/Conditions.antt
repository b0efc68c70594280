-- Each test of `Verdict` is passed exactly where the condition of its number in `Refusals` does not apply, and each
-- search finds the earliest place at which it does. Assumes nothing.
use mathlib.Core.Path.{◌≡◌, refl, sym, ◌∙◌, ap, subst}
use mathlib.Core.Bool.{Bool, true, false, not}
use mathlib.Core.Logic.{◌⊎◌, inl, inr, ⊎_elim}
use mathlib.Core.List.{List}
use mathlib.Core.Option.{none}
use Prim.Native.Nat.{ℕ, zero, suc, ◌+◌, ◌-◌, ◌≤◌, ◌<◌}
use native.Mathlib.Omega.{arith}
use lib.Dec.{T, eqb, leb, eqb→eq, leb→le}
use lib.ListN.{length}
use Rattle.covering.proofs.Tests.{either as one_of_lem, T→true, true→T}
use Rattle.covering.proofs.Tests.{decide, clash, fst_of, snd_of, or_left, or_right, or_cases, none≢some, le_or_lt}
use Rattle.covering.specs.Record.{old_places}
use Rattle.reading.specs.Word.{byte}
use Rattle.reading.specs.Header.{BookForm, Range, form_of, is_new, tenth_word, atom_places}
use Rattle.reading.specs.Header.{header_size, relations, constants, rules, atoms, allowed, relations_at, rules_at}
use Rattle.reading.specs.Header.{question_at, header_of, inside, relations_range, total_word}
use Rattle.reading.specs.Header.{constants_range, rules_range, atoms_range, allowed_range, places_range, body_range}
use Rattle.reading.specs.Header.{head_range, end_without, end_with}
use Rattle.reading.specs.Book.{body_count, head_count, rule_end, after, rules_start, rule_start}
use Rattle.reading.specs.Refusals.{Short, OutsideTable, relations_out, constants_out, rules_out, atoms_out}
use Rattle.reading.specs.Refusals.{tenth_not}
use Rattle.reading.specs.Refusals.{allowed_out, OffsetWrong, relations_not, rules_not, question_below, total_not}
use Rattle.reading.specs.Refusals.{length_not, PlacesWrong, RuleWrong, the_body_count, the_head_count, runs_past}
use Rattle.reading.specs.Refusals.{end_before}
use Rattle.reading.specs.Verdict.{total_right, unless, in_table, offsets_right, wrong_places, rule_right, wrong_rule}
use Rattle.reading.proofs.Earliest.{Earliest, holds_nowhere, earliest_same, earliest_test}
use Rattle.reading.proofs.Found.{PlacesFrom, places_earliest, RulesFrom, rules_earliest}
use Rattle.reading.proofs.Forms.{is_new_lem, is_old, new_places_lem}
use Rattle.reading.proofs.Ranges.{inside_not, outside, either, eq_not, le_not}

module _ (B : List ℕ) where
  -- 2
  pub short_earliest : Earliest (λ p. (p ≡ 0) × Short B) (unless (leb (header_size B) (length B)) 0)
  short_earliest =
      earliest_same
      (λ p w. (w.0, le_not w.1))
      (λ p w. (w.0, λ t. let l : header_size B ≤ length B = leb→le _ _ t in omega (arith, w.1)))
      (earliest_test (λ p. leb (header_size B) (length B)) 0)

  -- 3
  pub record InTable : Type 0 where
    pub relations_in : T (inside relations_range (relations B))
    pub constants_in : T (inside constants_range (constants B))
    pub rules_in : T (inside rules_range (rules B))
    pub atoms_in : T (inside atoms_range (atoms B))
    pub allowed_in : T (inside allowed_range (allowed B))
    -- the places that the header tells are those of the book's form
    pub tenth_is : (header_of B).places ≡ atom_places B

  pub in_table_lem : T (in_table (header_of B)) → InTable
  unfolding in_table
  in_table_lem t =
      let t₂ = snd_of (inside relations_range (relations B)) _ t in
      let t₃ = snd_of (inside constants_range (constants B)) _ t₂ in
      let t₄ = snd_of (inside rules_range (rules B)) _ t₃ in
      let t₅ = snd_of (inside atoms_range (atoms B)) _ t₄ in
      record {
        relations_in = fst_of (inside relations_range (relations B)) _ t;
        constants_in = fst_of (inside constants_range (constants B)) _ t₂;
        rules_in = fst_of (inside rules_range (rules B)) _ t₃;
        atoms_in = fst_of (inside atoms_range (atoms B)) _ t₄;
        allowed_in = fst_of (inside allowed_range (allowed B)) _ t₅;
        tenth_is = eqb→eq _ _ (snd_of (inside allowed_range (allowed B)) _ t₅);
      }

  -- the places that a header tells: of a new book those of the tenth word, and of an old one the form's
  told_new : is_new B ≡ true → (header_of B).places ≡ tenth_word B
  told_new e = rw e

  told_old : is_new B ≡ false → (header_of B).places ≡ atom_places B
  told_old e =
      let here : (header_of B).places ≡ old_places = rw e in
      here ∙ sym (ap (λ (f : BookForm). f.places) (is_old B e))

  tenth_wrong : (T (eqb (header_of B).places (atom_places B)) → ⊥) → OutsideTable B
  tenth_wrong f = go (one_of_lem (is_new B))
    where
      go : (is_new B ≡ true) ⊎ (is_new B ≡ false) → OutsideTable B
      go (inl e) =
          tenth_not (true→T _ e)
          (λ d. eq_not f (told_new e ∙ d ∙ sym (new_places_lem B (is_new_lem B e))))
      go (inr e) = absurd (eq_not f (told_old e))

  table_not : T (in_table (header_of B)) → OutsideTable B → ⊥
  table_not t (relations_out o) = inside_not relations_range (in_table_lem t).relations_in o
  table_not t (constants_out o) = inside_not constants_range (in_table_lem t).constants_in o
  table_not t (rules_out o) = inside_not rules_range (in_table_lem t).rules_in o
  table_not t (atoms_out o) = inside_not atoms_range (in_table_lem t).atoms_in o
  table_not t (allowed_out o) = inside_not allowed_range (in_table_lem t).allowed_in o
  table_not t (tenth_not h f) =
      f (sym (told_new (T→true _ h)) ∙ (in_table_lem t).tenth_is ∙ new_places_lem B (is_new_lem B (T→true _ h)))

  table_out : (T (in_table (header_of B)) → ⊥) → OutsideTable B
  unfolding in_table
  table_out =
      either (inside relations_range (relations B)) _ (λ f. relations_out (outside relations_range f))
      (either (inside constants_range (constants B)) _ (λ f. constants_out (outside constants_range f))
      (either (inside rules_range (rules B)) _ (λ f. rules_out (outside rules_range f))
      (either (inside atoms_range (atoms B)) _ (λ f. atoms_out (outside atoms_range f))
      (either (inside allowed_range (allowed B)) _ (λ f. allowed_out (outside allowed_range f)) tenth_wrong))))

  pub table_earliest : Earliest (λ p. (p ≡ 0) × OutsideTable B) (unless (in_table (header_of B)) 0)
  table_earliest =
      earliest_same (λ p w. (w.0, table_out w.1)) (λ p w. (w.0, λ t. table_not t w.1))
      (earliest_test (λ p. in_table (header_of B)) 0)

  -- 4: the total is one of the two, without an answer record and with one
  abbrev pub OneTotal : Type 0
  OneTotal =
      (total_word B ≡ end_without (form_of B) (question_at B) (atoms B))
      ⊎ (total_word B ≡ end_with (form_of B) (question_at B) (atoms B))

  pub record OffsetsRight : Type 0 where
    pub relations_at_lem : relations_at B ≡ header_size B
    pub rules_at_lem : rules_at B ≡ header_size B + relations B
    pub question_at_lem : rules_at B ≤ question_at B
    pub total_is : OneTotal
    pub length_is : total_word B ≡ length B

  one_total : T (total_right (header_of B)) → OneTotal
  one_total t = go (or_cases (eqb (total_word B) (end_without (form_of B) (question_at B) (atoms B))) _ t)
    where
      go : T (eqb (total_word B) (end_without (form_of B) (question_at B) (atoms B)))
          ⊎ T (eqb (total_word B) (end_with (form_of B) (question_at B) (atoms B))) → OneTotal
      go (inl h) = inl (eqb→eq _ _ h)
      go (inr h) = inr (eqb→eq _ _ h)

  neither_total : (T (total_right (header_of B)) → ⊥) → OffsetWrong B
  neither_total f =
      total_not
      (eq_not (λ t. f (or_left (eqb (total_word B) (end_without (form_of B) (question_at B) (atoms B))) _ t)))
      (eq_not (λ t. f (or_right (eqb (total_word B) (end_without (form_of B) (question_at B) (atoms B))) _ t)))

  pub offsets_right_lem : T (offsets_right (header_of B) (length B)) → OffsetsRight
  unfolding offsets_right
  offsets_right_lem t =
      let t₂ = snd_of (eqb (relations_at B) (header_size B)) _ t in
      let t₃ = snd_of (eqb (rules_at B) (header_size B + relations B)) _ t₂ in
      let t₄ = snd_of (leb (rules_at B) (question_at B)) _ t₃ in
      record {
        relations_at_lem = eqb→eq _ _ (fst_of (eqb (relations_at B) (header_size B)) _ t);
        rules_at_lem = eqb→eq _ _ (fst_of (eqb (rules_at B) (header_size B + relations B)) _ t₂);
        question_at_lem = leb→le _ _ (fst_of (leb (rules_at B) (question_at B)) _ t₃);
        total_is = one_total (fst_of (total_right (header_of B)) _ t₄);
        length_is = eqb→eq _ _ (snd_of (total_right (header_of B)) _ t₄);
      }

  offsets_not : T (offsets_right (header_of B) (length B)) → OffsetWrong B → ⊥
  offsets_not t (relations_not f) = f (offsets_right_lem t).relations_at_lem
  offsets_not t (rules_not f) = f (offsets_right_lem t).rules_at_lem
  offsets_not t (question_below l) = let h = (offsets_right_lem t).question_at_lem in omega arith
  offsets_not t (total_not f g) = ⊎_elim f g (offsets_right_lem t).total_is
  offsets_not t (length_not f) = f (offsets_right_lem t).length_is

  offsets_wrong : (T (offsets_right (header_of B) (length B)) → ⊥) → OffsetWrong B
  unfolding offsets_right
  offsets_wrong =
      either (eqb (relations_at B) (header_size B)) _ (λ f. relations_not (eq_not f))
      (either (eqb (rules_at B) (header_size B + relations B)) _ (λ f. rules_not (eq_not f))
      (either (leb (rules_at B) (question_at B)) _ (λ f. question_below (le_not f))
      (either (total_right (header_of B)) _ neither_total
      (λ f. length_not (eq_not f)))))

  pub offsets_earliest : Earliest (λ p. (p ≡ 0) × OffsetWrong B) (unless (offsets_right (header_of B) (length B)) 0)
  offsets_earliest =
      earliest_same (λ p w. (w.0, offsets_wrong w.1)) (λ p w. (w.0, λ t. offsets_not t w.1))
      (earliest_test (λ p. offsets_right (header_of B) (length B)) 0)

  -- 5
  pub relation_earliest : Earliest (PlacesWrong B) (wrong_places B (header_size B) (relations B))
  relation_earliest = earliest_same to from (places_earliest B (header_size B) (relations B))
    where
      range : Range
      range = places_range (form_of B)

      to : (p : ℕ) → PlacesFrom B (header_size B) (relations B) p → PlacesWrong B p
      to p w =
          let e : header_size B + (p - (header_size B)) ≡ p = omega arith in
          record {
            relation = p - (header_size B);
            below = omega arith;
            at = sym e;
            wrong = outside range (subst (λ (q : ℕ). T (inside range (byte B q)) → ⊥) (sym e) w.2);
          }

      from : (p : ℕ) → PlacesWrong B p → PlacesFrom B (header_size B) (relations B) p
      from p w = (
        omega (arith, w.at),
        omega (arith, w.at, w.below),
        λ t. inside_not range (subst (λ (q : ℕ). T (inside range (byte B q))) w.at t) w.wrong,
      )

  -- 6
  pub record RuleRight (e s : ℕ) : Type 0 where
    pub body_in : T (inside body_range (body_count B s))
    pub head_in : T (inside head_range (head_count B s))
    pub ends : rule_end B s ≤ e

  pub rule_right_lem : (e s : ℕ) → T (rule_right B e s) → RuleRight e s
  unfolding rule_right
  rule_right_lem e s t =
      let t₂ = snd_of (inside body_range (body_count B s)) _ t in
      record {
        body_in = fst_of (inside body_range (body_count B s)) _ t;
        head_in = fst_of (inside head_range (head_count B s)) _ t₂;
        ends = leb→le _ _ (snd_of (inside head_range (head_count B s)) _ t₂);
      }

  rule_wrong : (p k : ℕ) → k < rules B → p ≡ rule_start B k → (T (rule_right B (question_at B) p) → ⊥) → RuleWrong B p
  unfolding rule_right
  rule_wrong p k l e =
      either (inside body_range (body_count B p)) _ (λ f. the_body_count k l e (outside body_range f))
      (either (inside head_range (head_count B p)) _ (λ f. the_head_count k l e (outside head_range f))
      (λ f. runs_past k l e (le_not f)))

  -- "A rule whose two count bytes don't both fit runs past."
  pub counts_unfit : (k : ℕ) → k < rules B → question_at B < rule_start B k + 2 → RuleWrong B (rule_start B k)
  counts_unfit k l h = runs_past k l refl (omega arith)

  pub rule_earliest : Earliest (RuleWrong B) (wrong_rule B (question_at B) (rules_start B) (rules B))
  rule_earliest = earliest_same to from (rules_earliest B (question_at B) (rules_start B) (rules B))
    where
      to : (p : ℕ) → RulesFrom B (question_at B) (rules_start B) (rules B) p → RuleWrong B p
      to p (inl w) = rule_wrong p w.0 w.1 w.2 w.3
      to p (inr w) = end_before w.0 (le_not w.1)

      from : (p : ℕ) → RuleWrong B p → RulesFrom B (question_at B) (rules_start B) (rules B) p
      from p (the_body_count k l e o) = inl (k, l, e, λ t. inside_not body_range (rule_right_lem _ p t).body_in o)
      from p (the_head_count k l e o) = inl (k, l, e, λ t. inside_not head_range (rule_right_lem _ p t).head_in o)
      from p (runs_past k l e o) = inl (k, l, e, λ t. let h = (rule_right_lem _ p t).ends in omega arith)
      from p (end_before e l) = inr (e, λ t. let h : question_at B ≤ p = leb→le _ _ t in omega arith)

-- a test that finds nothing is passed
pub unless_none : (b : Bool) (i : ℕ) → unless b i ≡ none → T b
unless_none true i e = tt
unless_none false i e = absurd (none≢some (sym e))

module _ (B : List ℕ) where
  -- rules that are all right, and after which nothing is left, end where the question starts
  pub rules_right : (e s n : ℕ) → wrong_rule B e s n ≡ none → (k : ℕ) → k < n → T (rule_right B e (after B s k))
  rules_right e s n h k l = go (decide (rule_right B e (after B s k)))
    where
      none_wrong : (p : ℕ) → RulesFrom B e s n p → ⊥
      none_wrong = holds_nowhere (subst (Earliest (RulesFrom B e s n)) h (rules_earliest B e s n))

      go : T (rule_right B e (after B s k)) ⊎ T (not (rule_right B e (after B s k))) → T (rule_right B e (after B s k))
      go (inl t) = t
      go (inr t) = absurd (none_wrong _ (inl (k, l, refl, λ u. clash (rule_right B e (after B s k)) u t)))

  rules_end_late : (e s n : ℕ) → wrong_rule B e s n ≡ none → e ≤ after B s n
  rules_end_late e s n h = go (le_or_lt e (after B s n))
    where
      none_wrong : (p : ℕ) → RulesFrom B e s n p → ⊥
      none_wrong = holds_nowhere (subst (Earliest (RulesFrom B e s n)) h (rules_earliest B e s n))

      go : (e ≤ after B s n) ⊎ (after B s n < e) → e ≤ after B s n
      go (inl l) = l
      go (inr l) =
          absurd (none_wrong _ (inr (refl, λ t. let m : e ≤ after B s n = leb→le _ _ t in omega arith)))

  right_ends : (e s n : ℕ) → s ≤ e → ((k : ℕ) → k < n → T (rule_right B e (after B s k))) → after B s n ≤ e
  unfolding after
  right_ends e s zero l f = l
  right_ends e s (suc n) l f =
      right_ends e (rule_end B s) n (rule_right_lem B e s (f 0 (omega arith))).ends (λ k m. f (suc k) (omega arith))

  pub rules_end : (e s n : ℕ) → s ≤ e → wrong_rule B e s n ≡ none → after B s n ≡ e
  rules_end e s n l h =
      let a : after B s n ≤ e = right_ends e s n l (rules_right e s n h) in
      let b : e ≤ after B s n = rules_end_late e s n h in
      omega arith
