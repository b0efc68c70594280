-- The rewritings yet to come of the member that is explored, as `next_rewriting` takes them (`specs/Taking`). Assumes
-- nothing.
use mathlib.Core.Path.{◌≡◌, refl, sym, ◌∙◌, ap, ap₂, subst}
use mathlib.Core.Bool.{true, false}
use mathlib.Core.Logic.{◌⊎◌, inl, inr}
use mathlib.Core.List.Memᴰ
use mathlib.Core.List.{List, [], ◌∷◌, map}
use mathlib.Core.Option.{Option, none, some, some-injective}
use Prim.Native.Nat.{ℕ, suc, ◌+◌, ◌-◌, ◌≤◌}
use native.Mathlib.Omega.{arith}
use borrow.Author.Tests.{leb-true, leb-false}
use lib.Dec.{leb, leb→le, le→leb}
use lib.ListN.{length, drop, length-append, length-map}
use lib.Seq.{drop-drop}
use Rattle.covering.specs.Lists.{◌∈◌}
use Rattle.covering.specs.Term.{Question}
use Rattle.covering.specs.Record.{stored}
use Rattle.covering.specs.Buffer.{held_in, record_room}
use Rattle.covering.proofs.Lists.{keep_in, keep_out}
use Rattle.covering.proofs.Tests.{none≢some, either}
use Rattle.covering.specs.Rule.{Rule}
use Rattle.unification.specs.Step.{listed, from, next}
use Rattle.unification.proofs.Following.{next_listed}
use Rattle.std.specs.Prelude.{Some, None}
use Rattle.explore.specs.declared.Taken.{Taken}
use Rattle.exploration.specs.Run.{apart, all_rewritings}
use Rattle.explore.specs.Taking.{or_later, next_among, taken, TakenIs, NumberedRewriting}
use Rattle.exploration.proofs.YetToCome.{yet_to_come, rule_begun, rewriting_found, rule_done}

-- from choice n of the first of these rules on
abbrev pub coming : Question → ℕ → List Rule → List Question
coming M n [] = []
coming M n (r ∷ rules) = yet_to_come M r n rules

pub coming_all : (M : Question) (rules : List Rule) → coming M 0 rules ≡ all_rewritings rules M
coming_all M [] = refl
coming_all M (r ∷ rules) = sym (rule_begun M r rules)

-- from a later choice on fewer come, and none but these
pub coming_later : (M : Question) (n m : ℕ) (rules : List Rule) → n ≤ m → (P : Question) → P ∈ coming M m rules
    → P ∈ coming M n rules
coming_later M n m [] l P i = i
coming_later M n m (r ∷ rules) l P i = go (Memᴰ.append_cases (map (λ e. e.1) (from m (listed apart r M))) i)
  where
    at : (e : ℕ × Question) × (e ∈ from m (listed apart r M)) × (e.1 ≡ P) → P ∈ map (λ e. e.1) (from n (listed apart r M))
    at x =
        let y = keep_out (λ (e : ℕ × Question). leb m e.0) (listed apart r M) x.1 in
        let late : m ≤ x.0.0 = leb→le m x.0.0 y.1 in
        Memᴰ.cast (sym x.2)
        (Memᴰ.map (λ e. e.1)
        (keep_in (λ (e : ℕ × Question). leb n e.0) (listed apart r M) y.0 (le→leb n x.0.0 (omega arith))))

    go : (P ∈ map (λ e. e.1) (from m (listed apart r M))) ⊎ (P ∈ all_rewritings rules M) → P ∈ yet_to_come M r n rules
    go (inl x) = Memᴰ.append_left (all_rewritings rules M) (at (Memᴰ.of_map (λ e. e.1) (from m (listed apart r M)) x))
    go (inr x) = Memᴰ.append_right (map (λ e. e.1) (from n (listed apart r M))) x

from_few : (n m : ℕ) → n ≤ m → (l : List (ℕ × Question)) → length (from m l) ≤ length (from n l)
from_few n m u [] = omega arith
from_few n m u (x ∷ l) = go (either (leb n x.0)) (either (leb m x.0)) (from_few n m u l)
  where
    go : (leb n x.0 ≡ true) ⊎ (leb n x.0 ≡ false) → (leb m x.0 ≡ true) ⊎ (leb m x.0 ≡ false)
        → length (from m l) ≤ length (from n l) → length (from m (x ∷ l)) ≤ length (from n (x ∷ l))
    go (inl e) (inl f) below = rw (e, f) (omega arith)
    go (inl e) (inr f) below = rw (e, f) (omega arith)
    go (inr e) (inl f) below =
        let low = leb-false n x.0 e in let high = leb-true m x.0 f in absurd (omega arith)
    go (inr e) (inr f) below = rw (e, f) below

pub coming_fewer : (M : Question) (n m : ℕ) (rules : List Rule) → n ≤ m
    → length (coming M m rules) ≤ length (coming M n rules)
coming_fewer M n m [] l = omega arith
coming_fewer M n m (r ∷ rules) l =
    omega (arith, from_few n m l (listed apart r M), long m, long n)
  where
    long : (i : ℕ) → length (yet_to_come M r i rules) ≡ length (from i (listed apart r M)) + length (all_rewritings rules M)
    long i =
        length-append (map (λ e. e.1) (from i (listed apart r M))) (all_rewritings rules M)
        ∙ ap (λ (x : ℕ). x + length (all_rewritings rules M)) (length-map (from i (listed apart r M)) (λ e. e.1))

-- `next_among` finds the first of them, by which rule it is listed, and where to go on
pub record Next (M : Question) (k n : ℕ) (rules : List Rule) (e : NumberedRewriting) : Type 0 where
  pub here : Rule
  pub others : List Rule
  pub rules_are : drop (e.rule - k) rules ≡ here ∷ others
  pub listed_is : (e.choice, e.rewriting) ∈ listed apart here M
  pub later : k ≤ e.rule
  pub coming_is : coming M n rules ≡ e.rewriting ∷ coming M (suc e.choice) (drop (e.rule - k) rules)

pub next_none : (M : Question) (k n : ℕ) (rules : List Rule) → next_among M k n rules ≡ none → coming M n rules ≡ []
unfolding next_among
next_none M k n [] h = refl
next_none M k n (r ∷ rules) h = go (next apart r M n) refl h (next_none M (suc k) 0 rules)
  where
    go : (o : Option (ℕ × Question)) → next apart r M n ≡ o → or_later k o (next_among M (suc k) 0 rules) ≡ none
        → (next_among M (suc k) 0 rules ≡ none → coming M 0 rules ≡ []) → yet_to_come M r n rules ≡ []
    go none e f below = rule_done M r rules n e ∙ sym (coming_all M rules) ∙ below f
    go (some x) e f below = absurd (none≢some (sym f))

pub next_some : (M : Question) (k n : ℕ) (rules : List Rule) (e : NumberedRewriting) → next_among M k n rules ≡ some e
    → Next M k n rules e
unfolding next_among
next_some M k n [] e h = absurd (none≢some h)
next_some M k n (r ∷ rules) e h = go (next apart r M n) refl h (next_some M (suc k) 0 rules e)
  where
    go : (o : Option (ℕ × Question)) → next apart r M n ≡ o → or_later k o (next_among M (suc k) 0 rules) ≡ some e
        → (next_among M (suc k) 0 rules ≡ some e → Next M (suc k) 0 rules e) → Next M k n (r ∷ rules) e
    go none x f below =
        let y = below f in
        record {
          here = y.here;
          others = y.others;
          rules_are = sym (skipped y.later) ∙ y.rules_are;
          listed_is = y.listed_is;
          later = omega (arith, y.later);
          coming_is =
              rule_done M r rules n x
              ∙ sym (coming_all M rules)
              ∙ y.coming_is
              ∙ ap (λ (l : List Rule). e.rewriting ∷ coming M (suc e.choice) l) (skipped y.later);
        }
      where
        skipped : suc k ≤ e.rule → drop (e.rule - suc k) rules ≡ drop (e.rule - k) (r ∷ rules)
        skipped l = sym (ap (λ (i : ℕ). drop i (r ∷ rules)) (one_less l))
          where
            one_less : suc k ≤ e.rule → e.rule - k ≡ suc (e.rule - suc k)
            one_less l = omega arith
    go (some x) y f below =
        subst (Next M k n (r ∷ rules)) (some-injective _ _ f)
        (record {
          here = r;
          others = rules;
          rules_are = ap (λ (i : ℕ). drop i (r ∷ rules)) (sym (none_skipped k));
          listed_is = (next_listed apart r M n x y).0;
          later = omega arith;
          coming_is =
              rewriting_found M r rules n x y
              ∙ ap (λ (i : ℕ). x.1 ∷ coming M (suc x.0) (drop i (r ∷ rules))) (none_skipped k);
        })
      where
        none_skipped : (k : ℕ) → 0 ≡ k - k
        none_skipped k = omega arith

-- what the code was given, in the room R
pub record Given (M : Question) (k n : ℕ) (rules : List Rule) (t : Taken) (R : List ℕ) : Type 0 where
  pub rewriting : Question
  pub here : Rule
  pub others : List Rule
  pub rules_are : drop t.rule rules ≡ here ∷ others
  pub listed_is : (t.choice, rewriting) ∈ listed apart here M
  pub bytes : R ≡ held_in stored record_room rewriting
  pub coming_is : coming M n (drop k rules) ≡ rewriting ∷ coming M (t.choice + 1) (drop t.rule rules)

module _ (M : Question) (k n : ℕ) (rules : List Rule) (X R : List ℕ) where
  pub given_none : TakenIs (next_among M k n (drop k rules)) X None R → coming M n (drop k rules) ≡ []
  given_none e = go (next_among M k n (drop k rules)) refl e.answer
    where
      go : (o : Option NumberedRewriting) → next_among M k n (drop k rules) ≡ o → None ≡ taken o
          → coming M n (drop k rules) ≡ []
      go none x y = next_none M k n (drop k rules) x
      go (some z) x y = cc

  pub given_some : (t : Taken) → TakenIs (next_among M k n (drop k rules)) X (Some t) R → Given M k n rules t R
  given_some t e = go (next_among M k n (drop k rules)) refl e
    where
      go : (o : Option NumberedRewriting) → next_among M k n (drop k rules) ≡ o → TakenIs o X (Some t) R
          → Given M k n rules t R
      go none x y = let a = y.answer in cc
      go (some z) x y =
          let s = next_some M k n (drop k rules) z x in
          let same : t ≡ record { rule = z.rule; choice = z.choice } = let a = y.answer in cc in
          record {
            rewriting = z.rewriting;
            here = s.here;
            others = s.others;
            rules_are =
                ap (λ (i : ℕ). drop i rules) (sym (rule_is s.later (ap (λ (u : Taken). u.rule) same)))
                ∙ sym (drop-drop (z.rule - k) k rules)
                ∙ s.rules_are;
            listed_is =
                subst (λ (i : ℕ). (i, z.rewriting) ∈ listed apart s.here M)
                (sym (ap (λ (u : Taken). u.choice) same)) s.listed_is;
            bytes = y.room;
            coming_is =
                s.coming_is
                ∙ ap (λ (l : List Rule). z.rewriting ∷ coming M (suc z.choice) l) (drop-drop (z.rule - k) k rules)
                ∙ ap₂ (λ (c r : ℕ). z.rewriting ∷ coming M c (drop r rules))
                (choice_is (ap (λ (u : Taken). u.choice) same))
                (rule_is s.later (ap (λ (u : Taken). u.rule) same));
          }
        where
          choice_is : t.choice ≡ z.choice → suc z.choice ≡ t.choice + 1
          choice_is h = omega arith

          rule_is : k ≤ z.rule → t.rule ≡ z.rule → k + (z.rule - k) ≡ t.rule
          rule_is l h = omega arith
