-- What the first digits of a choice settle, once the loop has put them all: the atoms left, those after them that no head
-- atom can meet, and the body, by the classes. Assumes nothing.
use mathlib.Core.Path.{◌≡◌, refl, sym, ◌∙◌, ap, subst}
use mathlib.Core.Logic.{◌⊎◌, inl, inr}
use mathlib.Core.List.Memᴰ
use mathlib.Core.List.{List, ◌++◌}
use Rattle.std.specs.Prelude.{Some}
use mathlib.Core.Option.{Option, none, some}
use Prim.Native.Nat.{ℕ, ◌≤◌, ◌<◌}
use native.Mathlib.Omega.{arith}
use lib.Dec.{leb, leb→le, le→leb}
use lib.ListN.{length, get_or, take, drop, take-append-drop}
use Rattle.covering.specs.Lists.{◌∈◌, bind}
use Rattle.covering.specs.Term.{Term, var, con, Atom, Question, Sub, on_term, on_atom, terms}
use Rattle.covering.specs.Record.{stored, question_of, AtomFits}
use Rattle.covering.specs.Rule.{Rule}
use Rattle.covering.proofs.Lengths.{question_count}
use Rattle.covering.proofs.Lists.{map_same}
use Rattle.covering.proofs.Terms.{on_atom_same, terms_in, terms_append}
use Rattle.covering.proofs.Places.{question_at_lem}
use Rattle.covering.proofs.Tests.{not_of, cond_yes, cond_no}
use Rattle.book.specs.declared.Parts.{Parts}
use Rattle.unification.specs.Choice.{Choice, number, choices, left}
use Rattle.unification.specs.Step.{move, rewriting}
use Rattle.unification.proofs.Choices.{left_in}
use Rattle.unification.proofs.Moved.{moved_below}
use Rattle.unify.specs.InBytes.{in_book, rule_in, rule_of, classes_of}
use Rattle.unify.specs.Table.{Table, tabled}
use Rattle.lister.specs.FirstDigits.{unmet, surely_left, settled, settled_of, PrefixIs}
use Rattle.lister.specs.Listing.{RuleIn, QuestionIn, LeftIn}
use Rattle.lister.proofs.Answers.{heads_are}
use Rattle.lister.proofs.Asked.{fits_below}
use Rattle.lister.proofs.Unmet.{unmet_are}
use Rattle.lister.proofs.RewritingBytes.{all_fit}
use Rattle.lister.proofs.Table.{In, Agree, below_in}
use Rattle.lister.proofs.FirstDigits.{settled_by, Begun}

-- the classes of a table, where it agrees with them on all that stands in L and in the rule's body
rewriting_table : (k : ℕ) (m : Table) (σ : Sub) (L : Question) (r : Rule) → Agree k m σ
    → ((t : Term) → t ∈ terms (L ++ r.body) → In k t) → rewriting (tabled m) L r ≡ rewriting σ L r
rewriting_table k m σ L r g small =
    map_same (on_atom (tabled m)) (on_atom σ) (L ++ r.body)
    (λ a n. on_atom_same (tabled m) σ a (λ t i. at t (small t (terms_in (L ++ r.body) n i))))
  where
    at : (t : Term) → In k t → on_term (tabled m) t ≡ on_term σ t
    at (var n) l = g.entry n l
    at (con c) l = refl

-- what all the digits settle
module _ (Q B : List ℕ) (p : Parts) (c : ℕ) where
  whole_choice : (ds : Choice) → ds ∈ choices p.heads (get_or Q 0 0)
      → ds ∈ choices (length (rule_of B p).head) (length (question_of stored Q))
  whole_choice ds m = rw (heads_are B p, question_count stored Q) m

  whole_place : (ds : Choice) → number p.heads ds ≡ c → number (length (rule_of B p).head) ds ≡ c
  whole_place ds e = ap (λ h. number h ds) (heads_are B p) ∙ e

  pub prefix_none : (ds : Choice) → ds ∈ choices p.heads (get_or Q 0 0) → number p.heads ds ≡ c → (n : ℕ)
      → settled 48 (rule_of B p) (question_of stored Q) n ds ≡ none
      → PrefixIs (rule_of B p) (question_of stored Q) c n (settled_of none)
  prefix_none ds m e n x =
      record {
        choice = ds;
        among = whole_choice ds m;
        place = whole_place ds e;
        is = ap settled_of (sym x);
      }

  -- the atoms left and those that no head atom can meet
  module _ (q : QuestionIn Q) (r : RuleIn B p) {n rest : ℕ} {A A' : Question} {table : List ℕ}
      (b : Begun Q B p c n rest A table) (u : A' ≡ A ++ unmet (rule_of B p).head (drop n (question_of stored Q)))
    where
      abbrev L : Question
      L = surely_left (rule_of B p) (question_of stored Q) n b.choice

      left_are : A' ≡ L
      left_are = u ∙ ap (λ (X : Question). X ++ unmet (rule_of B p).head (drop n (question_of stored Q))) b.left_is

      counted : length A' ≡ length L
      counted = ap length left_are

      -- they are the question's
      pub settled_in : LeftIn A'
      settled_in = record { each = λ a m. fit a (at a (subst (λ (X : Question). a ∈ X) left_are m)) }
        where
          fit : (a : Atom) → a ∈ question_of stored Q → AtomFits in_book a
          fit a m =
              all_fit Q 1 (get_or Q 0 0) q.atoms a (subst (λ (X : Question). a ∈ X) (question_at_lem stored Q refl) m)

          at : (a : Atom) → a ∈ L → a ∈ question_of stored Q
          at a m = go (Memᴰ.append_cases (left (take n b.choice) (take n (question_of stored Q))) m)
            where
              go : (a ∈ left (take n b.choice) (take n (question_of stored Q)))
                  ⊎ (a ∈ unmet (rule_of B p).head (drop n (question_of stored Q)))
                  → a ∈ question_of stored Q
              go (inl i) =
                  subst (λ (X : Question). a ∈ X) (take-append-drop n (question_of stored Q))
                  (Memᴰ.append_left (drop n (question_of stored Q)) (left_in (take n b.choice) (take n (question_of stored Q)) a i))
              go (inr i) = (unmet_are (rule_of B p).head (question_of stored Q) n a i).0

      settled_by_lem : (o : Option Question) → settled_by (rule_of B p) (question_of stored Q) n b.choice b.classes ≡ o
          → settled 48 (rule_of B p) (question_of stored Q) n b.choice ≡ o
      settled_by_lem o e =
          ap (λ (x : Option Sub). bind x (settled_by (rule_of B p) (question_of stored Q) n b.choice)) b.found ∙ e

      -- they are more than eight
      pub prefix_many : 8 < length A' → PrefixIs (rule_of B p) (question_of stored Q) c n (settled_of none)
      prefix_many h =
          prefix_none b.choice b.among b.place n
          (settled_by_lem none
          (cond_no (leb (length L) 8) _ none
          (not_of (leb (length L) 8) (λ t. let few = leb→le (length L) 8 t in absurd (omega (arith, counted))))))

      module _ (few : length A' ≤ 8) (R : Question)
          (w : R ≡ rewriting (tabled (classes_of table)) A' (move 48 (rule_of B p)))
        where
          abbrev S : Question
          S = rewriting b.classes L (move 48 (rule_of B p))

          small_terms : (t : Term) → t ∈ terms (A' ++ (move 48 (rule_of B p)).body) → In 96 t
          unfolding rule_in
          small_terms t m = at (subst (λ ts. t ∈ ts) (terms_append A' _) m)
            where
              at : t ∈ terms A' ++ terms (move 48 (rule_of B p)).body → In 96 t
              at i = each (Memᴰ.append_cases (terms A') i)
                where
                  each : (t ∈ terms A') ⊎ (t ∈ terms (move 48 (rule_of B p)).body) → In 96 t
                  each (inl x) =
                      below_in 96 A'
                      (λ v y. let k = fits_below _ settled_in.each v y in omega arith) t x
                  each (inr x) =
                      below_in 96 (move 48 (rule_of B p)).body
                      (moved_below 48 48 (rule_of B p).body (fits_below _ (all_fit B p.body p.bodies r.body))) t x

          same : rewriting (tabled (classes_of table)) A' (move 48 (rule_of B p)) ≡ S
          same =
              rewriting_table 96 (classes_of table) b.classes A' (move 48 (rule_of B p)) b.agree small_terms
              ∙ ap (λ X. rewriting b.classes X (move 48 (rule_of B p))) left_are

          settled_is : settled 48 (rule_of B p) (question_of stored Q) n b.choice ≡ some S
          settled_is =
              settled_by_lem (some S)
              (cond_yes (leb (length L) 8) (some S) none (le→leb (length L) 8 (omega (arith, counted))))

          pub prefix_some : PrefixIs (rule_of B p) (question_of stored Q) c n (Some R)
          prefix_some =
              record {
                choice = b.choice;
                among = whole_choice b.choice b.among;
                place = whole_place b.choice b.place;
                is =
                    ap Some (w ∙ same) ∙ ap settled_of (sym settled_is);
              }
