-- Laws of putting an atom on an atom, one place at a time: one for each way through the code. Assumes nothing.
use mathlib.Core.Path.{◌≡◌}
use mathlib.Core.Bool.{true, false, cond}
use mathlib.Core.Logic.{◌⊎◌, inl, inr}
use mathlib.Core.List.{List, map}
use mathlib.Core.Option.{Option, none, some}
use Prim.Native.Nat.{ℕ, ◌+◌, ◌-◌, ◌<◌}
use borrow.Author.Tests.{eqb-true, eqb-false, eq-eqb, ne_eqb}
use lib.Dec.{eqb}
use lib.ListN.{get_or}
use Rattle.covering.specs.Term.{on_term, on_atom}
use Rattle.covering.specs.Record.{Layout, term_of, args_at, atom_at}
use Rattle.covering.proofs.Tests.{either}
use Rattle.covering.proofs.Bytes.{args_more, args_end}
use Rattle.covering.proofs.Places.{args_none, relation_at, args_at_lem}
use Rattle.unification.specs.Choice.{place_pairs, atom_pairs}
use Rattle.unification.specs.Step.{up}
use Rattle.unify.specs.Table.{Table, look, join_table, unify_table}

-- no place is left
pub joins_done : (F S : List ℕ) (i k w : ℕ) (m : Table) → w ≡ 0
    → unify_table (place_pairs (args_at F i w) (map (on_term (up 48)) (args_at S k w))) m ≡ some m
joins_done F S i k w m e = rw (e, args_none F i, args_none S k)

-- of w places j are passed
module _ (F S : List ℕ) (i k j w : ℕ) (lt : j < w) where
  abbrev here : Table → Option Table
  here m = unify_table (place_pairs (args_at F (i + j) (w - j)) (map (on_term (up 48)) (args_at S (k + j) (w - j)))) m

  -- the question's places end: so must the head's
  pub joins_end : (m : Table) → get_or F (i + j) 0 ≡ 255 → here m ≡ cond (eqb (get_or S (k + j) 0) 255) (some m) none
  joins_end m e = go (either (eqb (get_or S (k + j) 0) 255))
    where
      go : (eqb (get_or S (k + j) 0) 255 ≡ true) ⊎ (eqb (get_or S (k + j) 0) 255 ≡ false)
          → here m ≡ cond (eqb (get_or S (k + j) 0) 255) (some m) none
      go (inl f) = rw (args_end F i j w lt e, args_end S k j w lt (eqb-true _ _ f), f)
      go (inr f) = rw (args_end F i j w lt e, args_more S k j w lt (eqb-false _ _ f), f)

  -- the head's places end first
  pub joins_short : (m : Table) → (get_or F (i + j) 0 ≡ 255 → ⊥) → get_or S (k + j) 0 ≡ 255 → here m ≡ none
  joins_short m used free = rw (args_more F i j w lt used, args_end S k j w lt free)

  module _ (m : Table) (used : get_or F (i + j) 0 ≡ 255 → ⊥) (used' : get_or S (k + j) 0 ≡ 255 → ⊥) where
    abbrev step : Option Table
    step = join_table m (look m (term_of (get_or F (i + j) 0))) (look m (on_term (up 48) (term_of (get_or S (k + j) 0))))

    pub joins_clash : step ≡ none → here m ≡ none
    joins_clash e = rw (args_more F i j w lt used, args_more S k j w lt used', e)

    pub joins_next : {n : Table} → step ≡ some n
        → here m
        ≡ unify_table
        (place_pairs
        (args_at F (i + (j + 1)) (w - (j + 1)))
        (map (on_term (up 48)) (args_at S (k + (j + 1)) (w - (j + 1)))))
        n
    joins_next e = rw (args_more F i j w lt used, args_more S k j w lt used', e)

-- the ways of an atom
module _ (L : Layout) (F S : List ℕ) (i k : ℕ) (m : Table) where
  abbrev pair : Option Table
  pair = unify_table (atom_pairs (atom_at L F i) (on_atom (up 48) (atom_at L S k))) m

  pub pairs_apart : (get_or F i 0 ≡ get_or S k 0 → ⊥) → pair ≡ none
  pairs_apart ne = rw (relation_at L F i, relation_at L S k, ne_eqb (get_or F i 0) (get_or S k 0) ne)

  pub pairs_meet : get_or F i 0 ≡ get_or S k 0
      → pair
      ≡ unify_table
      (place_pairs (args_at F (i + 1) L.places) (map (on_term (up 48)) (args_at S (k + 1) L.places)))
      m
  pairs_meet e =
      rw (relation_at L F i, relation_at L S k, eq-eqb (get_or F i 0) (get_or S k 0) e, args_at_lem L F i, args_at_lem L S k)
