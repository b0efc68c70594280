-- A prefix that is not valid gives nothing, whatever atoms are still to come: over classes (`invalid_stays`), over a table
-- that has all variables in play (`table_invalid`), and over bytes, as `build` is asked (`asked_invalid`). Assumes nothing.
use mathlib.Core.Path.{◌≡◌, refl, ◌∙◌}
use mathlib.Core.Bool.{Bool, false}
use mathlib.Core.List.{List}
use mathlib.Core.Option.{none}
use Prim.Native.Nat.{ℕ, ◌<◌}
use native.Mathlib.Omega.{arith}
use lib.ListN.{length, length-map}
use Rattle.covering.specs.Term.{Question, Sub, Below}
use Rattle.covering.specs.Record.{stored, term_of, atoms_at}
use Rattle.covering.specs.Rule.{Rule}
use Rattle.book.specs.declared.Parts.{Parts}
use Rattle.unification.specs.Choice.{to_head}
use Rattle.unification.specs.Step.{move, valid}
use Rattle.unification.proofs.Invalid.{invalid_left, invalid_sent}
use Rattle.unification.proofs.Moved.{moved_below}
use Rattle.unify.specs.Table.{Table, tabled}
use Rattle.unify.specs.InBytes.{rule_in, rule_of, classes_of}
use Rattle.lister.specs.Build.{first, builder, table_builder}
use Rattle.lister.specs.Listing.{Asks}
use Rattle.lister.proofs.Carried.{KeptByDigits, first_nothing}
use Rattle.lister.proofs.Prefixes.{judged_no}
use Rattle.lister.proofs.Table.{Agree, table_same}
use Rattle.lister.proofs.RewritingBytes.{all_fit}
use Rattle.lister.proofs.Asked.{fits_below}

module _ (k : ℕ) (r : Rule) (n : ℕ) where
  abbrev NotValid : Question → Sub → Type 0
  NotValid L σ = valid σ L (move k r) ≡ false

  not_valid_kept : KeptByDigits (builder k r n) NotValid
  not_valid_kept =
      record {
        leaves = λ L a σ i. invalid_left (move k r) σ L a i;
        sends = λ L d a σ τ e i. invalid_sent (move k r) (to_head (move k r).head d a) σ τ L e i;
      }

  pub invalid_stays : (q : Question) (w : ℕ) (L : Question) (b : Bool) (σ : Sub) → valid σ L (move k r) ≡ false
      → first (builder k r n) w L b q σ ≡ none
  invalid_stays =
      first_nothing (builder k r n) not_valid_kept (λ c L σ i. judged_no n c L (move k r) σ i)

  module _ (size : ℕ) (low_b : Below size (move k r).body) (low_h : Below size (move k r).head)
      (q : Question) (w : ℕ) (L : Question) (b : Bool) (m : Table)
      (lowq : Below size q) (low_l : Below size L) (long : length m ≡ size)
    where
      own_classes : Agree size m (tabled m)
      own_classes = record { size = long; entry = λ i h. refl }

      pub table_invalid : valid (tabled m) L (move k r) ≡ false → first (table_builder k r n) w L b q m ≡ none
      table_invalid e =
          table_same size k r n low_b low_h q w L b m (tabled m) lowq low_l own_classes
          ∙ invalid_stays q w L b (tabled m) e

below_more : (A : Question) → Below 48 A → Below 96 A
below_more A f n m = let h : n < 48 = f n m in omega arith

module _ {Q B : List ℕ} {p : Parts} {i more number : ℕ} {sent : Bool} {A : Question} {table : List ℕ}
    (asks : Asks Q B p i more number sent A table) (from : ℕ)
  where
    pub low_body : Below 96 (move 48 (rule_of B p)).body
    unfolding rule_in
    low_body =
        moved_below 48 48 (atoms_at stored B p.body p.bodies)
        (fits_below _ (all_fit B p.body p.bodies asks.rule.body))

    pub low_head : Below 96 (move 48 (rule_of B p)).head
    unfolding rule_in
    low_head =
        moved_below 48 48 (atoms_at stored B p.head p.heads)
        (fits_below _ (all_fit B p.head p.heads asks.rule.head))

    pub low_rest : Below 96 (atoms_at stored Q i more)
    low_rest = below_more (atoms_at stored Q i more) (fits_below _ (all_fit Q i more asks.atoms))

    pub low_left : Below 96 A
    low_left = below_more A (fits_below A asks.left.each)

    pub whole : length (classes_of table) ≡ 96
    unfolding classes_of
    whole = length-map table term_of ∙ asks.size

    pub asked_invalid : valid (tabled (classes_of table)) A (move 48 (rule_of B p)) ≡ false
        → first (table_builder 48 (rule_of B p) from) number A sent (atoms_at stored Q i more)
        (classes_of table)
        ≡ none
    asked_invalid =
        table_invalid 48 (rule_of B p) from 96 low_body low_head (atoms_at stored Q i more) number A
        sent (classes_of table) low_rest low_left whole
