-- Laws of the sets of the rules' head relations (`specs/Related`): that what is made of a rule's head is its set, and that
-- a rule whose set has nothing in common with the member's has no rewriting. Assumes nothing.
use mathlib.Core.Path.{◌≡◌, refl, sym, ap, ◌∙◌, subst}
use mathlib.Core.Logic.{◌⊎◌, inl, inr}
use mathlib.Core.List.{List}
use mathlib.Core.Option.{Option, none, some}
use Prim.Native.Nat.{ℕ, ◌+◌, ◌≤◌, ◌<◌}
use native.Mathlib.Omega.{arith}
use lib.Bits.{bit_and, and_comm}
use lib.ListN.{length, get_or, set}
use lib.Seq.{get_or-set_same, get_or-set_other}
use Rattle.std.specs.Prelude.{None, IfSome}
use Rattle.std.specs.Prelude.{Option as Answer}
use Rattle.covering.specs.Term.{Question}
use Rattle.covering.specs.Rule.{Rule}
use Rattle.covering.specs.Record.{stored, atoms_at, question_of}
use Rattle.covering.proofs.Tests.{le_or_lt}
use Rattle.records.specs.Relations.{relations_of}
use Rattle.records.proofs.Among.{none_in_both}
use Rattle.book.specs.declared.Parts.{Parts}
use Rattle.book.specs.Parts.{parts_at}
use Rattle.reading.specs.Header.{form_of, new}
use Rattle.reading.specs.Book.{rule_at, rule_start}
use Rattle.reading.proofs.Reading.{rule_stored}
use Rattle.lister.specs.Counts.{most_choices}
use Rattle.unify.specs.InBytes.{rule_of}
use Rattle.lister.specs.Listing.{RuleIn, QuestionIn, found_of, FoundIs}
use Rattle.lister.proofs.FromBook.{rule_asked, found_within}
use Rattle.unify.specs.Unknowns.{has_unknowns}
use Rattle.unification.specs.Step.{next}
use Rattle.unification.proofs.Unrelated.{none_next}
use Rattle.exploration.specs.Run.{apart}
use Rattle.explore.specs.declared.Head.{Head}
use Rattle.explore.specs.Related.{head_told}

module _ (B : List ℕ) (f : form_of B ≡ new) (s : ℕ) where
  -- the set that is made of the parts' head is that of the rule
  pub head_set : (p : Parts) → p ≡ parts_at B s
      → relations_of (atoms_at stored B p.head p.heads) ≡ relations_of (rule_at B s).head
  head_set p e =
      ap (λ (q : Parts). relations_of (atoms_at stored B q.head q.heads)) e
      ∙ ap (λ (r : Rule). relations_of r.head) (sym (rule_stored B f s))

  -- and so is whether it has existential variables
  pub unknowns_of : (p : Parts) → p ≡ parts_at B s → has_unknowns (rule_of B p) ≡ has_unknowns (rule_at B s)
  unknowns_of p e = ap has_unknowns (ap (rule_of B) e ∙ rule_asked B f s)

  module _ (M : Question) {head all : ℕ} (h : head ≡ relations_of (rule_at B s).head) (a : all ≡ relations_of M) where
    nothing_related : bit_and head all ≡ 0 → (n : ℕ) → next apart (rule_at B s) M n ≡ none
    nothing_related e =
        let r = rule_at B s in
        let same = ap (bit_and (relations_of M)) (sym h) ∙ ap (λ (x : ℕ). bit_and x head) (sym a) ∙ and_comm all head in
        none_next apart r M (none_in_both M r.head (same ∙ e))

    pub none_tried : bit_and head all ≡ 0 → (n : ℕ) (X : List ℕ)
        → FoundIs (next apart (rule_at B s) M n) X None X
    none_tried e n X =
        subst (λ (o : Option (ℕ × Question)). FoundIs o X None X)
        (sym (nothing_related e n)) (record { answer = refl; room = refl })

  -- what the lister gives for the parts is what the rule gives
  pub found_by : (p : Parts) → p ≡ parts_at B s → (M : Question) (n : ℕ) (X : List ℕ) (g : Answer ℕ) (Y : List ℕ)
      → FoundIs (next 48 (rule_of B p) M n) X g Y → FoundIs (next apart (rule_at B s) M n) X g Y
  found_by p e M n X g Y x =
      subst (λ (r : Rule). FoundIs (next 48 r M n) X g Y) (ap (rule_of B) e ∙ rule_asked B f s) x

-- and its number is not too large
pub found_few : (B : List ℕ) (p : Parts) → RuleIn B p → (Q : List ℕ) → QuestionIn Q → (n : ℕ) (g : Answer ℕ)
    → g ≡ found_of (next 48 (rule_of B p) (question_of stored Q) n) → IfSome g (λ c. c < most_choices)
found_few B p r Q q n g x = go (next 48 (rule_of B p) (question_of stored Q) n) refl x
  where
    go : (o : Option (ℕ × Question)) → next 48 (rule_of B p) (question_of stored Q) n ≡ o → g ≡ found_of o
        → IfSome g (λ c. c < most_choices)
    go none i e = subst (λ (a : Answer ℕ). IfSome a (λ c. c < most_choices)) (sym e) tt
    go (some y) i e =
        subst (λ (a : Answer ℕ). IfSome a (λ c. c < most_choices)) (sym e)
        (found_within Q B p q r n y.0 (ap found_of (sym i))).1

-- what is known of the heads so far, and of one more once that is stored
pub stored_heads : (B : List ℕ) (heads : List Head) (k : ℕ) (v : Head) → k < length heads
    → v ≡ head_told (rule_at B (rule_start B k))
    → ((j : ℕ) (d : Head) → j < k → get_or heads j d ≡ head_told (rule_at B (rule_start B j)))
    → (j : ℕ) (d : Head) → j < k + 1 → get_or (set heads k v) j d ≡ head_told (rule_at B (rule_start B j))
stored_heads B heads k v fits e below j d small = go (le_or_lt k j)
  where
    go : (k ≤ j) ⊎ (j < k) → get_or (set heads k v) j d ≡ head_told (rule_at B (rule_start B j))
    go (inl g) =
        let same : k ≡ j = omega arith in
        subst (λ (x : ℕ). get_or (set heads k v) x d ≡ head_told (rule_at B (rule_start B x))) same
        (get_or-set_same heads k v d fits ∙ e)
    go (inr g) = get_or-set_other heads k j v d (λ x. omega arith) ∙ below j d g
