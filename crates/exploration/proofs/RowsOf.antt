-- Demand 3 for each row: a set of members that answers what rule application answers (`Union`) gives, row by row, what
-- rule application derives (`rows_answer`), with answer places or without. Members have the question's answer places
-- and every answer variable in an atom (`reached_shaped`). Assumes nothing.
use mathlib.Core.Path.{◌≡◌, refl, sym, ◌∙◌, ap, subst}
use mathlib.Core.Logic.{◌↔◌}
use mathlib.Core.List.{List, [], map}
use Prim.Native.Nat.{ℕ}
use lib.ListN.{length}
use Rattle.covering.specs.Lists.{◌∈◌}
use Rattle.covering.specs.Term.{Question, on_term}
use Rattle.covering.specs.Covers.{Covers}
use Rattle.covering.specs.Asking.{Asking, joined, asking, NoRecord, Stands, Shaped}
use Rattle.covering.specs.Rule.{Rule}
use Rattle.covering.proofs.Shaped.{shaped_none, shaped_form}
use Rattle.unification.proofs.ShapeKept.{rewriting_shaped}
use Rattle.exploration.specs.Chain.{SomeHolds, Derives, Reached, from_question, by_step}
use Rattle.exploration.specs.Rows.{Gives, SomeGives, DerivesRow}
use Rattle.exploration.proofs.Derived.{Union, union_answers}
use Rattle.exploration.proofs.RowFacts.{with_row, gives_length, gives_covers, covers_gives}
use Rattle.exploration.proofs.BesideRow.{FreeRules, row_derives}

module _ (k : ℕ) (rules : List Rule) (free-rules : FreeRules rules) (q : Asking) (free : NoRecord q.atoms) where
  -- what is reached from a question has its shape
  pub reached_shaped : Stands q → {M : Question} → Reached k rules (joined q) M → Shaped (length q.answer) M
  reached_shaped s (from_question e) = subst (Shaped (length q.answer)) (sym e) (shaped_form q free s)
  reached_shaped s (by_step r m low c x) =
      rewriting_shaped (free-rules r m).0 (free-rules r m).1 low (reached_shaped s c) x

  module _ (U : List Question) (u : Union k rules (joined q) U)
      (shaped : (M : Question) → M ∈ U → Shaped (length q.answer) M)
    where
      -- for every row and every list of facts some member gives the row exactly when rule application makes the
      -- question give it
      pub rows_answer : (row : List ℕ) (F : Question) → NoRecord F → SomeGives U row F ↔ DerivesRow rules q row F
      rows_answer row F free-F = (there, back)
        where
          there : SomeGives U row F → DerivesRow rules q row F
          there g =
              let s = shaped g.0 g.1 in
              (row_derives rules free-rules q row F free free-F (gives_length g.2 ∙ s.places)).0
              ((union_answers k rules (joined q) U u (with_row row F)).0 (
                g.0,
                g.1,
                subst (λ (A : Question). Covers A (with_row row F)) s.is (gives_covers (asking g.0) row F g.2),
              ))

          back : DerivesRow rules q row F → SomeGives U row F
          back d =
              let long : length row ≡ length q.answer = gives_length d.2 in
              let h =
              (union_answers k rules (joined q) U u (with_row row F)).1
              ((row_derives rules free-rules q row F free free-F long).1 d) in
              let s = shaped h.0 h.1 in (
                h.0,
                h.1,
                covers_gives (asking h.0) row F s.free free-F (long ∙ sym s.places)
                    (subst (λ (A : Question). Covers A (with_row row F)) (sym s.is) h.2),
              )

  -- its members have the shape by themselves
  pub union_rows : Stands q → (U : List Question) → Union k rules (joined q) U → (row : List ℕ) (F : Question) → NoRecord F
      → SomeGives U row F ↔ DerivesRow rules q row F
  union_rows s U u = rows_answer U u (λ M m. reached_shaped s (u.reached M m))

-- without answer places: the one row of no things is given where the question holds
pub gives_holds : (q : Asking) (F : Question) → q.answer ≡ [] → Gives q [] F ↔ Covers q.atoms F
gives_holds q F e = (
  (λ g. record { by = g.by; sends = g.sends }),
  (λ c. record { by = c.by; is = ap (map (on_term c.by)) e; sends = c.sends }),
)

pub derives_holds : (rules : List Rule) (q : Asking) (F : Question) → q.answer ≡ []
    → DerivesRow rules q [] F ↔ Derives rules q.atoms F
derives_holds rules q F e = (
  (λ d. (d.0, d.1, (gives_holds q d.0 e).0 d.2)),
  (λ d. (d.0, d.1, (gives_holds q d.0 e).1 d.2)),
)

pub some_holds : (U : List Question) (F : Question) → ((M : Question) → M ∈ U → Shaped 0 M)
    → SomeGives U [] F ↔ SomeHolds U F
some_holds U F shaped = (
  (λ g. (g.0, g.1, (at g.0 (shaped g.0 g.1)).0 g.2)),
  (λ h. (h.0, h.1, (at h.0 (shaped h.0 h.1)).1 h.2)),
)
  where
    at : (M : Question) → Shaped 0 M → Gives (asking M) [] F ↔ Covers M F
    at M s =
        subst (λ (p : Asking). Gives p [] F ↔ Covers M F) (sym (shaped_none s))
        (gives_holds (record { answer = []; atoms = M }) F refl)
