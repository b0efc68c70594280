-- Rules apply beside a row as they do without it, since they do not speak of it and it has no unknown. So chains beside
-- a row are the chains without it, and to derive a row is to derive the conjunction beside it. Assumes nothing.
use mathlib.Core.Path.{◌≡◌, refl, sym, ◌∙◌, ap, subst}
use mathlib.Core.Logic.{◌⊎◌, inl, inr, ◌↔◌}
use mathlib.Core.List.{List, ◌++◌, map}
use mathlib.Core.List.Memᴰ
use Prim.Native.Nat.{ℕ}
use lib.ListN.{length}
use Rattle.covering.specs.Lists.{◌∈◌}
use Rattle.covering.specs.Term.{Term, var, con, Question, on_question, terms}
use Rattle.covering.specs.Covers.{Covers}
use Rattle.covering.specs.Asking.{Asking, joined, NoRecord}
use Rattle.covering.specs.Rule.{Rule}
use Rattle.covering.proofs.Terms.{var≢con}
use Rattle.covering.proofs.Asked.{free_append, free_on, after_in, after_out, after_append, after_terms}
use Rattle.unification.specs.Apply.{Applies}
use Rattle.exploration.specs.Chain.{Chain, here, apply, Derives}
use Rattle.exploration.specs.Rows.{DerivesRow}
use Rattle.exploration.proofs.RowFacts.{with_row, gives_covers, covers_gives}

-- applying a rule beside the row, which has no unknown
row_named : (row : List ℕ) (n : ℕ) → var n ∈ map con row → ⊥
row_named row n m = let x = Memᴰ.of_map con row m in var≢con (sym x.2)

row_terms : (row : List ℕ) (F : Question) {n : ℕ} → var n ∈ terms (with_row row F) → var n ∈ terms F
row_terms row F {n} m =
    at
    (Memᴰ.append_cases (map con row) (subst (λ (l : List Term). var n ∈ l) (after_terms (map con row) F) m))
  where
    at : (var n ∈ map con row) ⊎ (var n ∈ terms F) → var n ∈ terms F
    at (inl k) = absurd (row_named row n k)
    at (inr k) = k

applies_row : (row : List ℕ) {r : Rule} {F G : Question} → Applies r F G → Applies r (with_row row F) (with_row row G)
applies_row row {r} {F} {G} a =
    record {
      by = a.by;
      sends = λ b m. after_in (map con row) F (a.sends b m);
      fresh = λ z u.
          let f = a.fresh z u in
          record { number = f.number; is = f.is; absent = λ m. f.absent (row_terms row F m) };
      distinct = a.distinct;
      result = ap (with_row row) a.result ∙ sym (after_append (map con row) F (on_question a.by r.head));
    }

-- what an application beside a row gives: the row, and beside it what the application gives without it
record Beside (row : List ℕ) (r : Rule) (F H : Question) : Type 0 where
  facts : Question
  is : H ≡ with_row row facts
  applies : Applies r F facts
  free : NoRecord facts

applies_beside : (row : List ℕ) (r : Rule) (F H : Question) → NoRecord r.body → NoRecord r.head → NoRecord F
    → Applies r (with_row row F) H → Beside row r F H
applies_beside row r F H free_body free_head free-F a =
    record {
      facts = F ++ on_question a.by r.head;
      is = a.result ∙ after_append (map con row) F (on_question a.by r.head);
      applies =
          record {
            by = a.by;
            sends = λ b m. after_out (map con row) F (a.sends b m) (λ e. free_body b m e);
            fresh = λ z u.
                let f = a.fresh z u in
                record { number = f.number; is = f.is; absent = λ m. f.absent (more m) };
            distinct = a.distinct;
            result = refl;
          };
      free = free_append F (on_question a.by r.head) free-F (free_on a.by r.head free_head);
    }
  where
    more : {n : ℕ} → var n ∈ terms F → var n ∈ terms (with_row row F)
    more {n} m =
        subst (λ (l : List Term). var n ∈ l) (sym (after_terms (map con row) F)) (Memᴰ.append_right (map con row) m)

pub chain_row : {rules : List Rule} (row : List ℕ) {G F : Question} → Chain rules G F
    → Chain rules (with_row row G) (with_row row F)
chain_row row (here e) = here (ap (with_row row) e)
chain_row row (apply r m a c) = apply r m (applies_row row a) (chain_row row c)

-- no rule speaks of answer records
abbrev pub FreeRules : List Rule → Type 0
FreeRules rules = (r : Rule) → r ∈ rules → NoRecord r.body × NoRecord r.head

module _ (rules : List Rule) (free-rules : FreeRules rules) where
  -- where a chain beside a row leads
  pub record Along (row : List ℕ) (F H : Question) : Type 0 where
    pub facts : Question
    pub is : H ≡ with_row row facts
    pub chain : Chain rules facts F
    pub free : NoRecord facts

  chain_from : (row : List ℕ) {H S : Question} → Chain rules H S → (F : Question) → S ≡ with_row row F → NoRecord F
      → Along row F H
  chain_from row (here e) F s f = record { facts = F; is = sym e ∙ s; chain = here refl; free = f }
  chain_from row {H = H} (apply {F = S} {H = S'} r m a c) F s f =
      let b =
      applies_beside row r F S' (free-rules r m).0 (free-rules r m).1 f
      (subst (λ (X : Question). Applies r X S') s a) in
      let l = chain_from row c b.facts b.is b.free in
      record { facts = l.facts; is = l.is; chain = apply r m b.applies l.chain; free = l.free }

  pub chain_along : (row : List ℕ) (F : Question) {H : Question} → NoRecord F → Chain rules H (with_row row F)
      → Along row F H
  chain_along row F f c = chain_from row c F refl f

  -- to derive a row is to derive the conjunction beside it
  pub row_derives : (q : Asking) (row : List ℕ) (F : Question) → NoRecord q.atoms → NoRecord F
      → length row ≡ length q.answer → Derives rules (joined q) (with_row row F) ↔ DerivesRow rules q row F
  row_derives q row F free-q free-F long = (
    (λ d.
        let l = chain_along row F free-F d.1 in (
          l.facts,
          l.chain,
          covers_gives q row l.facts free-q l.free long (subst (Covers (joined q)) l.is d.2),
        )),
    (λ d. (with_row row d.0, chain_row row d.1, gives_covers q row d.0 d.2)),
  )
