-- The list of a question's rewritings by a rule is exactly the published one (demand 2's first sentence). For a
-- question in form, an entry (n, X) stands in `listed` if and only if X is the form of β(Q, R, μ) for a piece-unifier
-- μ of Definition 11 that merges no more than its pairing needs, and n is the number of that pairing's digits
-- (`exactly`). Entries stand in ascending order of their numbers, so this determines the list, element for element
-- (`exactly_this_list`): none missing, none extra. That every other unifier's rewriting is covered by that of a valid
-- choice is `piece_covered` in `Pieces`. Assumes nothing.
use mathlib.Core.Path.{◌≡◌, refl, ◌∙◌, ap, subst}
use mathlib.Core.Bool.{not}
use mathlib.Core.Logic.{◌⊎◌, inl, inr}
use mathlib.Core.List.{List, ◌++◌, map}
use mathlib.Core.Option.{some}
use Prim.Native.Nat.{ℕ, ◌<◌}
use lib.Dec.{T}
use lib.ListN.{length, get_elem?, length-map}
use Rattle.covering.specs.Form.{form}
use Rattle.covering.specs.Lists.{◌∈◌, Distinct}
use Rattle.covering.specs.Term.{Term, Atom, Question, terms, Sub, on_term, on_atom, on_question, var, Below}
use Rattle.covering.proofs.Form.{form_distinct}
use Rattle.covering.proofs.Tests.{decide}
use Rattle.covering.proofs.SameForm.{form_same}
use Rattle.covering.specs.Rule.{Rule}
use Rattle.unification.specs.Classes.{unify, Kernel, HoldsPairs}
use Rattle.unification.specs.Choice.{Choice, number, choices, Ascending, left, sent, to_head, pairing}
use Rattle.unification.specs.Step.{up, move, mem_term, listed}
use Rattle.unification.specs.Published.{without, scope, PieceUnifier, digits, Publishes}
use Rattle.unification.specs.Published.{PutsOn}
use Rattle.unification.proofs.Classes.{Least, unify_least, unify_sound, kernel_admissible}
use Rattle.unification.proofs.Digits.{some_sent_lem, digits_leave, digits_send, digits_among, digits_hold}
use Rattle.unification.proofs.Digits.{digits_held}
use Rattle.unification.proofs.Hits.{place_of, digits_back}
use Rattle.unification.proofs.Listed.{Made, listed_out, listed_in}
use Rattle.unification.proofs.Numbers.{choice_length, listed_ascending, ascending_same}
use Rattle.unification.proofs.Pairs.{mem_term→mem}
use Rattle.unification.proofs.Pieces.{selected_out, valid_below}
use Rattle.unification.proofs.Puts.{puts_more, puts_hold, hold_puts, at_head, head_at, at_small}
use Rattle.unification.proofs.Representatives.{alike_absorbed}
use Rattle.unification.proofs.Unifiers.{choice_piece, choice_no_more, choice_beta, choice_unified}
use Rattle.unification.proofs.Valid.{near_on}

-- no two atoms of a question in form are equal
pub in_form_distinct : {Q : Question} → form Q ≡ Q → Distinct Q
in_form_distinct {Q} e = subst Distinct e (form_distinct Q)

-- None extra: each entry of the list is a published rewriting. Its choice sends the unifier's atoms, and the
-- choice's digits are the pairing.
pub none_extra : {k : ℕ} {r : Rule} {Q : Question} {n : ℕ} {X : Question} → Below k Q → form Q ≡ Q
    → Made k r Q n X → Publishes k r Q n X
none_extra {k} {r} {Q} {n} {X} below e w =
    record {
      unifier = μ;
      to = place_of ds Q;
      no_more = choice_no_more k r Q below distinct ds w.classes w.found w.ok one.0 one.1;
      place =
          ap (number (length r.head))
          (ap (λ (A : Question). digits A (place_of ds Q) Q)
          (choice_unified k r Q below distinct ds w.classes w.found w.ok one.0 one.1)
          ∙ digits_back ds Q distinct long)
          ∙ w.place;
      is = ap form (choice_beta k r Q below distinct ds w.classes w.found w.ok one.0 one.1) ∙ w.is;
    }
  where
    ds : Choice
    ds = w.choice

    distinct : Distinct Q
    distinct = in_form_distinct e

    long : length ds ≡ length Q
    long = choice_length (length r.head) (length Q) ds w.among

    one : (a : Atom) × (a ∈ sent ds Q)
    one = some_sent_lem ds Q long w.sends

    μ : PieceUnifier Q (move k r)
    μ = choice_piece k r Q below distinct ds w.classes w.found w.ok one.0 one.1

-- None missing: each published rewriting that merges no more than its pairing needs is made by the pairing's choice.
module _ {k : ℕ} {r : Rule} {Q : Question} {n : ℕ} {X : Question} (below : Below k Q) (p : Publishes k r Q n X) where
  abbrev μ : PieceUnifier Q (move k r)
  μ = p.unifier

  abbrev H : Question
  H = (move k r).head

  abbrev ds : Choice
  ds = digits μ.unified p.to Q

  -- the unifier's substitution holds the choice's pairs
  u_holds : HoldsPairs (Kernel μ.u) (pairing ds Q H)
  u_holds = digits_hold μ.unified p.to (Kernel μ.u) Q H each
    where
      each : (a : Atom) → a ∈ μ.unified → HoldsPairs (Kernel μ.u) (to_head H (p.to a) a)
      each a m =
          let x = p.no_more.paired a m in
          at_head (Kernel μ.u) H (p.to a) a x.atom x.at
          (puts_hold a x.atom (kernel_admissible μ.u).eq
          (puts_more (λ t v y z h. μ.selects.alike t v h) x.puts))

  -- so the choice has classes, and they merge no more than it
  found : Least (Kernel μ.u) (unify (pairing ds Q H) var)
  found = unify_least (Kernel μ.u) (kernel_admissible μ.u) (pairing ds Q H) var (λ m. refl) u_holds

  abbrev σ : Sub
  σ = found.classes

  σ_holds : HoldsPairs (Kernel σ) (pairing ds Q H)
  σ_holds = (unify_sound (pairing ds Q H) var σ found.found).holds

  -- nor does the unifier merge more than they: its partition is the least that puts each atom on its head atom
  P_in_classes : (t v : Term) → μ.P t v → Kernel σ t v
  P_in_classes = p.no_more.least (Kernel σ) (kernel_admissible σ).eq each
    where
      each : (a b : Atom) → a ∈ μ.unified → get_elem? H (p.to a) ≡ some b → PutsOn (Kernel σ) a b
      each a b m e =
          hold_puts σ a b
          (head_at (Kernel σ) H (p.to a) a b e
          (digits_held μ.unified p.to (Kernel σ) Q H σ_holds a (μ.of_question a m) m))

  u_absorbed : (t : Term) → on_term σ (on_term μ.u t) ≡ on_term σ t
  u_absorbed t = go (decide (mem_term t S))
    where
      S : List Term
      S = scope μ.unified μ.part

      go : T (mem_term t S) ⊎ T (not (mem_term t S)) → on_term σ (on_term μ.u t) ≡ on_term σ t
      go (inl x) = P_in_classes (on_term μ.u t) t (μ.selects.chosen t (mem_term→mem S x))
      go (inr x) = ap (on_term σ) (selected_out k r Q below μ t x)

  σ_absorbed : (t : Term) → on_term μ.u (on_term σ t) ≡ on_term μ.u t
  σ_absorbed t = near_on μ.u σ found.near t

  leaves : left ds Q ≡ without Q μ.unified
  leaves = digits_leave μ.unified p.to Q

  pub none_missing : Made k r Q n X
  none_missing =
      record {
        choice = ds;
        among =
            subst (λ (h : ℕ). ds ∈ choices h (length Q))
            (length-map r.head (on_atom (up k)))
            (digits_among μ.unified p.to (length H) Q small);
        sends = digits_send μ.unified p.to Q μ.one (μ.of_question μ.one μ.one_in) μ.one_in;
        classes = σ;
        found = found.found;
        ok = valid_below k r Q below μ (left ds Q) σ leaves found.near;
        is =
            ap (λ (L : Question). form (on_question σ (L ++ (move k r).body))) leaves
            ∙ form_same σ μ.u (without Q μ.unified ++ (move k r).body)
            (alike_absorbed σ μ.u σ_absorbed u_absorbed (terms (without Q μ.unified ++ (move k r).body)))
            ∙ p.is;
        place = p.place;
      }
    where
      small : (a : Atom) → a ∈ μ.unified → p.to a < length H
      small a m = let x = p.no_more.paired a m in at_small H (p.to a) x.atom x.at

-- The lister lists exactly the published one-step rewritings that merge no more than their pairing needs, in form.
pub exactly : (k : ℕ) (r : Rule) (Q : Question) → Below k Q → form Q ≡ Q → (n : ℕ) (X : Question)
    → ((n, X) ∈ listed k r Q → Publishes k r Q n X) × (Publishes k r Q n X → (n, X) ∈ listed k r Q)
exactly k r Q below e n X = ((λ m. none_extra below e (listed_out m)), (λ p. listed_in (none_missing below p)))

-- Element for element: a list in ascending order with exactly these entries is the lister's.
pub exactly_this_list : (k : ℕ) (r : Rule) (Q : Question) → Below k Q → form Q ≡ Q → (l : List (ℕ × Question))
    → Ascending (map (λ e. e.0) l) → ((n : ℕ) (X : Question) → (n, X) ∈ l → Publishes k r Q n X)
    → ((n : ℕ) (X : Question) → Publishes k r Q n X → (n, X) ∈ l) → l ≡ listed k r Q
exactly_this_list k r Q below e l a extra missing =
    ascending_same l (listed k r Q) a (listed_ascending k r Q)
    (λ x m. (exactly k r Q below e x.0 x.1).1 (extra x.0 x.1 m))
    (λ x m. missing x.0 x.1 ((exactly k r Q below e x.0 x.1).0 m))
