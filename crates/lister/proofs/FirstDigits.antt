-- The first digits of a choice, one digit more at a time: what the loop of `prefix_rewriting` keeps, and what a digit
-- adds to the atoms left and to the classes. Assumes nothing.
use mathlib.Core.Path.{◌≡◌, refl, sym, ◌∙◌, ap, ap₂, subst}
use mathlib.Core.Bool.{true, false, cond}
use mathlib.Core.List.Memᴰ
use mathlib.Core.List.{List, [], ◌∷◌, ◌++◌}
use mathlib.Core.Option.{Option, none, some}
use Prim.Native.Nat.{ℕ, zero, suc, ◌+◌, ◌*◌, ◌-◌, ◌/◌, ◌%◌, ◌≤◌, ◌<◌}
use native.Mathlib.Nat.{mod-eq-sub-div-mul, div-eq_of_lt-le, add-mul}
use native.Mathlib.Omega.{arith}
use lib.Dec.{leb}
use lib.ListN.{length, get_or, take, drop, length-append}
use lib.Seq.{take-suc, drop-cons, take-add, length-take-le}
use Rattle.covering.specs.Lists.{◌∈◌, bind}
use Rattle.covering.specs.Term.{Term, var, con, Atom, Question, Sub}
use Rattle.covering.specs.Record.{stored, atom_at, atoms_at, question_of, AtomFits, TermFits}
use Rattle.covering.specs.Rule.{Rule}
use Rattle.covering.proofs.Lengths.{count_atoms, question_count}
use Rattle.covering.proofs.Places.{question_at_lem}
use Rattle.book.specs.declared.Parts.{Parts}
use Rattle.unification.specs.Classes.{Pair, unify}
use Rattle.unification.specs.Choice.{Choice, count, number, choices, left, pairing}
use Rattle.unification.specs.Step.{move, rewriting}
use Rattle.unification.proofs.Extending.{left_extends, unify_extends, unify_stops}
use Rattle.unification.proofs.Moved.{moved_below}
use Rattle.unification.proofs.Numbers.{choice_length, number_below}
use Rattle.unification.proofs.Prefix.{choice_split, choice_drop, numbered}
use Rattle.unify.specs.InBytes.{in_book, rule_in, rule_of, classes_of}
use Rattle.unify.specs.Table.{own, unify_table}
use Rattle.unify.proofs.TableBytes.{merged_yes, merged_no}
use Rattle.lister.specs.FirstDigits.{surely_left, settled, DigitFor, DigitPut}
use Rattle.lister.specs.Listing.{RuleIn, QuestionIn, ClassesFit}
use Rattle.lister.proofs.Asked.{fits_below, apart_fit}
use Rattle.lister.proofs.RewritingBytes.{all_fit}
use Rattle.lister.proofs.Table.{In, Agree, BothTables, Small, unify_same, own_agrees, below_in}
use Rattle.lister.proofs.OneDigit.{nth_atom, count_classes, nth_in_book, digit_pairs, one_left}

-- what the classes of the first p digits settle
abbrev pub settled_by : Rule → Question → ℕ → Choice → Sub → Option Question
settled_by r Q p ds σ =
    cond (leb (length (surely_left r Q p ds)) 8) (some (rewriting σ (surely_left r Q p ds) (move 48 r))) none

-- the first j digits of the choice with number c: the atoms that they leave, their classes, and the number of the rest
pub record Begun (Q B : List ℕ) (p : Parts) (c j rest : ℕ) (A : Question) (table : List ℕ) : Type 0 where
  pub choice : Choice
  pub among : choice ∈ choices p.heads (get_or Q 0 0)
  pub place : number p.heads choice ≡ c
  pub rest_is : rest ≡ number p.heads (drop j choice)
  pub left_is : A ≡ left (take j choice) (take j (question_of stored Q))
  pub few : length A ≤ j
  pub classes : Sub
  pub found : unify (pairing (take j choice) (take j (question_of stored Q)) (move 48 (rule_of B p)).head) var ≡ some classes
  pub agree : Agree 96 (classes_of table) classes
  pub fit : ClassesFit table

pub begun_first : {Q B : List ℕ} {p : Parts} {c : ℕ} {A : Question} {table : List ℕ} → c < count p.heads (get_or Q 0 0)
    → A ≡ [] → classes_of table ≡ own 0 96 → Begun Q B p c 0 c A table
begun_first {Q} {B} {p} {c} {A} {table} l e o =
    let x = numbered p.heads (get_or Q 0 0) c l in
    record {
      choice = x.choice;
      among = x.among;
      place = x.place;
      rest_is = sym x.place;
      left_is = e;
      few = rw e (omega arith);
      classes = var;
      found = refl;
      agree = subst (λ m. Agree 96 m var) (sym o) (own_agrees 96);
      fit = apart_fit table o;
    }

-- one digit more
module _ {Q B : List ℕ} {p : Parts} {c j rest : ℕ} {A : Question} {table : List ℕ} (q : QuestionIn Q) (r : RuleIn B p)
    (b : Begun Q B p c j rest A table) (l : j < get_or Q 0 0) {each : ℕ} (all : each ≡ count p.heads (get_or Q 0 0 - 1 - j))
  where
    abbrev h : ℕ
    h = p.heads

    abbrev H : Question
    H = (move 48 (rule_of B p)).head

    abbrev Q₀ : Question
    Q₀ = question_of stored Q

    abbrev a : Atom
    a = atom_at stored Q (1 + j * 7)

    -- the digit, and the number of the digits after it
    abbrev d : ℕ
    d = get_or b.choice j 0

    long : length b.choice ≡ get_or Q 0 0
    long = choice_length h (get_or Q 0 0) b.choice b.among

    long_question : length Q₀ ≡ get_or Q 0 0
    long_question = question_count stored Q

    to_come : drop j b.choice ≡ d ∷ drop (suc j) b.choice
    to_come = drop-cons b.choice j 0 (omega (arith, long))

    later_in : drop (suc j) b.choice ∈ choices h (get_or Q 0 0 - suc j)
    later_in = choice_drop h (get_or Q 0 0) (suc j) b.choice (omega arith) b.among

    digit_in : d ≤ h
    digit_in =
        let one : get_or Q 0 0 - j ≡ suc (get_or Q 0 0 - suc j) = omega arith in
        let x =
        choice_split h (get_or Q 0 0 - suc j) (drop j b.choice)
        (subst (λ n. drop j b.choice ∈ choices h n) one
        (choice_drop h (get_or Q 0 0) j b.choice (omega arith) b.among)) in
        let same : d ≡ x.digit = first_same (sym to_come ∙ x.is) in
        omega (arith, same, x.small)
      where
        first_same : {x y : ℕ} {xs ys : List ℕ} → x ∷ xs ≡ y ∷ ys → x ≡ y
        first_same e = cc

    rest_split : (rest ≡ d * each + number h (drop (suc j) b.choice)) × (number h (drop (suc j) b.choice) < each)
    rest_split =
        let less : get_or Q 0 0 - suc j ≡ get_or Q 0 0 - 1 - j = omega arith in
        let short : length (drop (suc j) b.choice) ≡ get_or Q 0 0 - 1 - j =
        choice_length h (get_or Q 0 0 - suc j) (drop (suc j) b.choice) later_in ∙ less in (
          b.rest_is
              ∙ ap (number h) to_come
              ∙ ap (λ n. d * n + number h (drop (suc j) b.choice)) (ap (count h) short ∙ sym all),
          subst (λ n. number h (drop (suc j) b.choice) < n) (ap (count h) less ∙ sym all)
              (number_below h (get_or Q 0 0 - suc j) (drop (suc j) b.choice) later_in),
        )

    digit_is : rest / each ≡ d
    digit_is =
        let s = rest_split in
        let more = add-mul d 1 each in
        div-eq_of_lt-le each (omega (arith, s.0)) (omega (arith, s.0, s.1, more))

    later_is : rest % each ≡ number h (drop (j + 1) b.choice)
    later_is =
        let s = rest_split in
        let m = mod-eq-sub-div-mul rest each in
        let e : rest / each * each ≡ d * each = ap (λ x. x * each) digit_is in
        let one : suc j ≡ j + 1 = omega arith in
        let same : rest % each ≡ number h (drop (suc j) b.choice) = omega (arith, s.0, m, e) in
        same ∙ ap (λ n. number h (drop n b.choice)) one

    pub digit_small : rest / each ≤ p.heads
    digit_small = omega (arith, digit_is, digit_in)

    pub digit_for : DigitFor Q B p (1 + j * 7) (rest / each) A table
    digit_for =
        record {
          atom = nth_in_book q l;
          rule = r;
          few = omega (arith, b.few, q.few);
          size = count_classes table ∙ b.agree.size;
          classes = b.fit;
          small = digit_small;
        }

    -- the atoms and the digits with one more
    more_atoms : take (j + 1) Q₀ ≡ take j Q₀ ++ a ∷ []
    more_atoms =
        let one : j + 1 ≡ suc j = omega arith in
        let at : get_or Q₀ j a ≡ a =
        ap (λ A. get_or A j a) (question_at_lem stored Q refl) ∙ nth_atom stored Q 1 (get_or Q 0 0) j a l in
        ap (λ n. take n Q₀) one
        ∙ take-suc Q₀ j a (omega (arith, long_question))
        ∙ ap (λ x. take j Q₀ ++ x ∷ []) at

    more_digits : take (j + 1) b.choice ≡ take j b.choice ++ rest / each ∷ []
    more_digits =
        let one : j + 1 ≡ suc j = omega arith in
        ap (λ n. take n b.choice) one
        ∙ take-suc b.choice j 0 (omega (arith, long))
        ∙ ap (λ x. take j b.choice ++ x ∷ []) (sym digit_is)

    as_many : length (take j b.choice) ≡ length (take j Q₀)
    as_many =
        length-take-le j b.choice (omega (arith, long)) ∙ sym (length-take-le j Q₀ (omega (arith, long_question)))

    abbrev pairs : List Pair
    pairs = pairing (rest / each ∷ []) (a ∷ []) H

    more_classes : unify (pairing (take (j + 1) b.choice) (take (j + 1) Q₀) H) var
        ≡ unify pairs b.classes
    more_classes =
        ap₂ (λ ds A. unify (pairing ds A H) var) more_digits more_atoms
        ∙ unify_extends (take j b.choice) (rest / each ∷ []) (take j Q₀) (a ∷ []) H as_many b.classes b.found

    atom_fits : AtomFits in_book a
    atom_fits =
        all_fit Q 1 (get_or Q 0 0) q.atoms a
        (subst (λ x. x ∈ atoms_at stored Q 1 (get_or Q 0 0)) (nth_atom stored Q 1 (get_or Q 0 0) j a l)
        (nth_in (atoms_at stored Q 1 (get_or Q 0 0)) j a (omega (arith, count_atoms stored Q (get_or Q 0 0) 1))))
      where
        nth_in : (A : Question) (j : ℕ) (a : Atom) → j < length A → get_or A j a ∈ A
        nth_in [] j a h = absurd (omega arith)
        nth_in (x ∷ A) zero a h = Memᴰ.head refl
        nth_in (x ∷ A) (suc j) a h = Memᴰ.tail (nth_in A j a (omega arith))

    small_pairs : Small 96 pairs
    unfolding rule_in
    small_pairs =
        digit_pairs 96 (rest / each) a H (λ t m. in_book_lem t (atom_fits.terms t m))
        (below_in 96 H (moved_below 48 48 (rule_of B p).head (fits_below _ (all_fit B p.head p.heads r.head))))
      where
        in_book_lem : (t : Term) → TermFits in_book t → In 96 t
        in_book_lem (var n) k = omega arith
        in_book_lem (con x) k = tt

    -- by the table as by the classes
    both_tables : BothTables (Agree 96)
        (unify_table pairs (classes_of table))
        (unify pairs b.classes)
    both_tables =
        unify_same 96 pairs (classes_of table) b.classes small_pairs b.agree

    -- the atom is left or sent
    module _ {A' : Question} {table' : List ℕ} where
      pub begun_next : DigitPut Q B p (1 + j * 7) (rest / each) A table true A' table'
          → Begun Q B p c (j + 1) (rest % each) A' table'
      begun_next u = go (unify pairs b.classes) refl held
        where
          held : BothTables (Agree 96) (some (classes_of table')) (unify pairs b.classes)
          held =
              subst (λ o. BothTables (Agree 96) o (unify pairs b.classes))
              (sym u.meets ∙ merged_yes true table' refl) both_tables

          counted : length A' ≤ j + 1
          counted =
              omega (
                arith,
                ap length u.leaves,
                length-append A (left (rest / each ∷ []) (a ∷ [])),
                b.few,
                one_left (rest / each) a,
              )

          go : (o : Option Sub) → unify pairs b.classes ≡ o
              → BothTables (Agree 96) (some (classes_of table')) o → Begun Q B p c (j + 1) (rest % each) A' table'
          go none e x = absurd x
          go (some τ) e x =
              record {
                choice = b.choice;
                among = b.among;
                place = b.place;
                rest_is = later_is;
                left_is =
                    u.leaves
                    ∙ ap (λ L. L ++ left (rest / each ∷ []) (a ∷ [])) b.left_is
                    ∙ sym
                    (ap₂ left more_digits more_atoms
                    ∙ left_extends (take j b.choice) (rest / each ∷ []) (take j Q₀) (a ∷ []) as_many);
                few = counted;
                classes = τ;
                found = more_classes ∙ e;
                agree = x;
                fit = u.classes refl;
              }

      -- or it cannot be sent, and so no more digits can be
      pub begun_stops : DigitPut Q B p (1 + j * 7) (rest / each) A table false A' table'
          → (n : ℕ) → j < n → n ≤ get_or Q 0 0
          → settled 48 (rule_of B p) (question_of stored Q) n b.choice ≡ none
      begun_stops u n k most =
          ap (λ (o : Option Sub). bind o (settled_by (rule_of B p) Q₀ n b.choice))
          (ap₂ (λ ds S. unify (pairing ds S H) var) (split b.choice) (split Q₀)
          ∙ unify_stops (take (j + 1) b.choice) _ (take (j + 1) Q₀) _ H as_many_more
          (more_classes ∙ stopped (unify pairs b.classes) held))
        where
          held : BothTables (Agree 96) none (unify pairs b.classes)
          held =
              subst (λ o. BothTables (Agree 96) o (unify pairs b.classes))
              (sym u.meets ∙ merged_no false table' refl) both_tables

          stopped : (o : Option Sub) → BothTables (Agree 96) none o → o ≡ none
          stopped none x = refl
          stopped (some τ) x = absurd x

          split : {X : Type 0} (xs : List X) → take n xs ≡ take (j + 1) xs ++ take (n - (j + 1)) (drop (j + 1) xs)
          split xs =
              let e : n ≡ j + 1 + (n - (j + 1)) = omega arith in
              ap (λ m. take m xs) e ∙ take-add (j + 1) (n - (j + 1)) xs

          as_many_more : length (take (j + 1) b.choice) ≡ length (take (j + 1) Q₀)
          as_many_more =
              length-take-le (j + 1) b.choice (omega (arith, long))
              ∙ sym (length-take-le (j + 1) Q₀ (omega (arith, long_question)))
