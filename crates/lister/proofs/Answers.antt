-- What the builder's two functions answer: one law for each way through their code. The arguments of the call that a
-- law is about are read off what the call was asked (Asks, Tries) or has reached. Assumes nothing.
use Prim.Native.Nat.{zero}
use mathlib.Core.Path.{◌≡◌, refl, sym, ◌∙◌, ap, subst}
use mathlib.Core.Bool.{Bool, true, false, true≢false}
use mathlib.Core.List.{List, [], ◌∷◌, ◌++◌}
use mathlib.Core.Option.{Option, none, some}
use Prim.Native.Nat.{ℕ, suc, ◌+◌, ◌*◌, ◌-◌, ◌≤◌, ◌<◌}
use native.Mathlib.Omega.{arith}
use lib.ListN.{length, get_or}
use Rattle.std.specs.Prelude.{None, IsSome, IsNone}
use Rattle.std.specs.Prelude.{Option as Answer}
use Rattle.covering.specs.Lists.{first_of, numbers}
use Rattle.covering.specs.Term.{Atom, Question, on_atom}
use Rattle.covering.specs.Record.{stored, atom_at, atoms_at}
use Rattle.covering.proofs.Lengths.{count_atoms}
use Rattle.book.specs.declared.Parts.{Parts}
use Rattle.unification.specs.Choice.{count, atom_pairs, to_head}
use Rattle.unification.specs.Step.{up, move, judge}
use Rattle.unify.specs.Table.{tabled}
use Rattle.unify.specs.InBytes.{rule_in, rule_of, classes_of, merged}
use Rattle.unify.proofs.TableBytes.{merged_yes, merged_no}
use Rattle.unify.proofs.Joins.{pairs_apart}
use Rattle.lister.specs.Build.{first, first_by_digit, since, table_builder}
use Rattle.lister.specs.Listing.{found_of, FoundIs, Asks}
use Rattle.lister.proofs.Prefixes.{digits_none, digits_hit, digits_miss, head_pairs, digit_skips, prefix_digits}
use Rattle.lister.proofs.Prefixes.{whole_sent, whole_unsent}
use Rattle.lister.proofs.Asked.{Tries, meeting}

-- an answer to one thing that is sought is an answer to another that is the same
pub told_same : {o o' : Option (ℕ × Question)} {X Y : List ℕ} {r : Answer ℕ} → o ≡ o' → FoundIs o X r Y → FoundIs o' X r Y
told_same {X = X} {Y = Y} {r = r} e f = subst (λ (o : Option (ℕ × Question)). FoundIs o X r Y) e f

-- nothing is there to be found, and the room is as it came
pub told_none : {o : Option (ℕ × Question)} {X : List ℕ} → o ≡ none → FoundIs o X None X
told_none n = told_same (sym n) (record { answer = refl; room = refl })

-- an answer that says found, or not, tells what it is the answer to
module _ {X Y : List ℕ} {r : Answer ℕ} where
  found_first : (f : ℕ → Option (ℕ × Question)) (d n : ℕ) → 0 < n → FoundIs (f d) X r Y → IsSome r
      → FoundIs (first_of f (numbers d n)) X r Y
  found_first f d n h e t = go (f d) refl e.answer
    where
      go : (o : Option (ℕ × Question)) → f d ≡ o → r ≡ found_of o → FoundIs (first_of f (numbers d n)) X r Y
      go none q u = absurd (true≢false (sym (subst IsSome u t)))
      go (some x) q u = told_same (q ∙ sym (digits_hit f d n h q)) e

  missed_none : (o : Option (ℕ × Question)) → FoundIs o X r Y → IsNone r → (o ≡ none) × (Y ≡ X)
  missed_none none e t = (refl, e.room)
  missed_none (some x) e t = absurd (true≢false (subst IsNone e.answer t))

pub heads_are : (B : List ℕ) (p : Parts) → length (rule_of B p).head ≡ p.heads
unfolding rule_in
heads_are B p = count_atoms stored B p.heads p.head

module _ (Q B : List ℕ) (p : Parts) (from i more number : ℕ) (sent : Bool) (A : Question) (table : List ℕ) where
  -- what `build` looks for: the first that the choices with this prefix give
  abbrev pub sought : Option (ℕ × Question)
  sought =
      first (table_builder 48 (rule_of B p) from) number A sent (atoms_at stored Q i more)
      (classes_of table)

  -- what `try_digit` looks for: the same with the digit d for the next atom
  abbrev pub sought_by : ℕ → Option (ℕ × Question)
  sought_by =
      first_by_digit (table_builder 48 (rule_of B p) from) number A sent (atom_at stored Q i)
      (atoms_at stored Q (i + 7) (more - 1)) (classes_of table)

  -- the digits before d gave nothing, so it is the first that those from d on give
  pub record Reached (d : ℕ) : Type 0 where
    pub rest : sought ≡ first_of sought_by (numbers d (suc p.heads - d))

-- `build` at a whole choice
module _ {Q B : List ℕ} {p : Parts} {i more number : ℕ} {sent : Bool} {A : Question} {table : List ℕ}
    (k : Asks Q B p i more number sent A table) (from : ℕ) (none_left : more ≡ 0) where
  pub sought_whole : sent ≡ true
      → sought Q B p from i more number sent A table
      ≡ since from number (judge A (move 48 (rule_of B p)) (tabled (classes_of table)))
  sought_whole =
      whole_sent 48 (rule_of B p) from number A sent (classes_of table) stored Q i more none_left

  pub sought_unsent : sent ≡ false → sought Q B p from i more number sent A table ≡ none
  sought_unsent =
      whole_unsent 48 (rule_of B p) from number A sent (classes_of table) stored Q i more none_left

-- `build` with atoms left goes through the digits
module _ {Q B : List ℕ} {p : Parts} {from i more number : ℕ} {sent : Bool} {A : Question} {table : List ℕ} where
  pub reached_first : 0 < more → Reached Q B p from i more number sent A table 0
  reached_first h =
      record {
        rest = prefix_digits 48 (rule_of B p) from number A sent (classes_of table) stored Q i more h
            ∙ ap (λ n. first_of (sought_by Q B p from i more number sent A table) (numbers 0 n)) count_is;
      }
    where
      count_is : suc (length (rule_of B p).head) ≡ suc p.heads - 0
      count_is = omega (arith, heads_are B p)

  module _ {d : ℕ} (at : Reached Q B p from i more number sent A table d) where
    pub reached_last : p.heads < d → sought Q B p from i more number sent A table ≡ none
    reached_last h = at.rest ∙ digits_none _ d (suc p.heads - d) (omega arith)

    module _ (h : d ≤ p.heads) {X Y : List ℕ} {r : Answer ℕ}
        (e : FoundIs (sought_by Q B p from i more number sent A table d) X r Y) where
      abbrev f : ℕ → Option (ℕ × Question)
      f = sought_by Q B p from i more number sent A table

      pub reached_found : IsSome r → FoundIs (sought Q B p from i more number sent A table) X r Y
      reached_found t = told_same (sym at.rest) (found_first f d (suc p.heads - d) (omega arith) e t)

      pub reached_next : IsNone r → Reached Q B p from i more number sent A table (d + 1) × (Y ≡ X)
      reached_next t =
          let missed = missed_none (f d) e t in (
            record {
              rest = at.rest
                  ∙ digits_miss f d (suc p.heads - d) (suc p.heads - (d + 1)) (d + 1) (omega arith) (omega arith) missed.0;
            },
            missed.1,
          )

-- the pairs of an atom that is sent, in the book
pub pairs_are : (B : List ℕ) (p : Parts) (a : Atom) (d : ℕ) → 0 < d → d ≤ p.heads
    → (e : ℕ) × (d ≡ suc e)
    × (to_head (move 48 (rule_of B p)).head e a
    ≡ atom_pairs a (on_atom (up 48) (atom_at stored B (p.head + (d - 1) * 7))))
unfolding rule_in
pairs_are B p a zero h le = elim h [ ]
pairs_are B p a (suc e) h le = (
  e,
  refl,
  head_pairs 48 stored B p.head p.heads e a (omega arith)
      ∙ ap (λ x. atom_pairs a (on_atom (up 48) (atom_at stored B (p.head + x * 7)))) (omega arith),
)

-- `try_digit` with the digit d
module _ {Q B : List ℕ} {p : Parts} {i more number : ℕ} {sent : Bool} {A : Question} {table : List ℕ} {d : ℕ}
    (k : Tries Q B p i more number sent A table d) (from : ℕ) where
  abbrev by_d : Option (ℕ × Question)
  by_d = sought_by Q B p from i more number sent A table d

  numbered : number * (p.heads + 1) + d ≡ number * suc (length (rule_of B p).head) + d
  numbered = omega (arith, ap (λ x. number * suc x) (heads_are B p))

  -- all its choices come before the start
  pub skipped : (number * (p.heads + 1) + d + 1) * count p.heads (more - 1) ≤ from → by_d ≡ none
  skipped le =
      digit_skips 48 (rule_of B p) from number A sent (classes_of table) (atom_at stored Q i)
      (atoms_at stored Q (i + 7) (more - 1)) d (subst (λ x. x ≤ from) (sym same) le)
    where
      same : suc (number * suc (length (rule_of B p).head) + d)
          * count (length (rule_of B p).head) (length (atoms_at stored Q (i + 7) (more - 1)))
          ≡ (number * (p.heads + 1) + d + 1) * count p.heads (more - 1)
      same =
          rw (heads_are B p, count_atoms stored Q (more - 1) (i + 7))
          (ap (λ x. x * count p.heads (more - 1)) (omega arith))

  -- the atom is left
  pub left_at : {R : Question} → d ≡ 0 → R ≡ A ++ atom_at stored Q i ∷ [] → sought Q B p from (i + 7) (more - 1) (number * (p.heads + 1) + d) sent R table ≡ by_d
  left_at e q = rw (numbered, e, q) refl

  -- the head atom is of another relation
  pub apart_at : 0 < d → (get_or Q i 0 ≡ get_or B (p.head + (d - 1) * 7) 0 → ⊥) → by_d ≡ none
  apart_at h ne =
      let r = pairs_are B p (atom_at stored Q i) d h k.2 in
      rw (r.1, r.2, pairs_apart stored Q B i (p.head + (d - 1) * 7) (classes_of table) ne)

  -- the atom is put on a head atom, in a copy of the classes
  module _ (h : 0 < d) (ok : Bool) (copy table' : List ℕ) (e : merged ok table' ≡ meeting Q B p i copy d)
      (same : copy ≡ table) where
    meets : meeting Q B p i table d ≡ merged ok table'
    meets = ap (λ m. meeting Q B p i m d) (sym same) ∙ sym e

    pub clash_at : ok ≡ false → by_d ≡ none
    clash_at t =
        let r = pairs_are B p (atom_at stored Q i) d h k.2 in rw (r.1, r.2, meets ∙ merged_no ok table' t)

    pub sent_at : ok ≡ true
        → sought Q B p from (i + 7) (more - 1) (number * (p.heads + 1) + d) true A table' ≡ by_d
    sent_at t =
        let r = pairs_are B p (atom_at stored Q i) d h k.2 in
        rw (numbered, r.1, r.2, meets ∙ merged_yes ok table' t)
