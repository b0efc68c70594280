-- One digit more, as the code holds a prefix: what the builder is asked with the next atom left or sent (`asks_left`,
-- `asks_sent`), and what it then looks for (`leaves`, `sends`, `gives_up`); and how it starts. Assumes nothing.
use mathlib.Core.Path.{◌≡◌, refl, sym, ◌∙◌, ap, subst}
use mathlib.Core.Bool.{Bool, true, false}
use mathlib.Core.List.{List}
use mathlib.Core.Option.{Option, none}
use Prim.Native.Nat.{ℕ, zero, suc, ◌+◌, ◌*◌, ◌-◌, ◌≤◌, ◌<◌}
use native.Mathlib.Nat.{mul-le-mul_left}
use native.Mathlib.Omega.{arith}
use lib.ListN.{length, get_or}
use Rattle.covering.specs.Term.{Question}
use Rattle.covering.specs.Record.{stored, atoms_at}
use Rattle.book.specs.declared.Parts.{Parts}
use Rattle.unification.specs.Step.{move}
use Rattle.unify.specs.Table.{tabled, own}
use Rattle.unify.specs.InBytes.{rule_of, classes_of, merged}
use Rattle.lister.specs.Leaving.{left_by, any_sent}
use Rattle.lister.specs.Listing.{QuestionIn, RuleIn, Asks, Builds}
use Rattle.lister.proofs.LeftByBits.{none_left, left_more, sent_more}
use Rattle.lister.proofs.Asked.{Tries, meeting, child_left, child_sent, start_asks}
use Rattle.lister.proofs.Answers.{sought, sought_by, left_at, sent_at}
use Rattle.lister.specs.Hopeless.{Hopeless}
use Rattle.lister.proofs.Stuck.{asked_hopeless}

-- whether an atom is sent, by the bits
pub some_sent_lem : (m : ℕ) → (m ≡ 0 → ⊥) → any_sent m ≡ true
some_sent_lem zero h = absurd (h refl)
some_sent_lem (suc m) h = refl

pub none_sent : (m : ℕ) → m ≡ 0 → any_sent m ≡ false
none_sent m e = ap any_sent e

as_before : (m : ℕ) → any_sent m ≡ any_sent (m * 2)
as_before zero = let e : zero ≡ zero * 2 = omega arith in ap any_sent e
as_before (suc m) = sym (some_sent_lem (suc m * 2) (λ e. absurd (omega arith)))

next_place : (n : ℕ) → 1 + n * 7 + 7 ≡ 1 + (n + 1) * 7
next_place n = omega arith

module _ {Q B table : List ℕ} {p : Parts} {passed more number sent d : ℕ}
    (b : Builds Q B p passed more number sent table) (some : 0 < more) (small : d ≤ p.heads) where
  tries : Tries Q B p (1 + passed * 7) more number (any_sent sent) (left_by Q passed sent) table d
  tries = (b.asks, some, small)

  abbrev next : ℕ
  next = number * (p.heads + 1) + d

  -- the bits stay below the number
  doubled : sent * 2 ≤ number * (p.heads + 1)
  doubled =
      let two : 2 ≤ p.heads + 1 = omega (arith, b.asks.rule.some_head) in
      omega (arith, mul-le-mul_left number two, b.bits)

  with_digit : {sent' : ℕ} {table' : List ℕ} → sent' ≤ next
      → Asks Q B p (1 + passed * 7 + 7) (more - 1) next (any_sent sent') (left_by Q (passed + 1) sent') table'
      → Builds Q B p (passed + 1) (more - 1) next sent' table'
  with_digit {sent' = sent'} {table' = table'} bits asks =
      record {
        asks = subst
            (λ i. Asks Q B p i (more - 1) next (any_sent sent') (left_by Q (passed + 1) sent') table')
            (next_place passed) asks;
        all = omega (arith, b.all);
        bits = bits;
      }

  module _ (from : ℕ) where
    abbrev by_d : Option (ℕ × Question)
    by_d = sought_by Q B p from (1 + passed * 7) more number (any_sent sent) (left_by Q passed sent) table d

    -- what `build` looks for then
    abbrev then : ℕ → List ℕ → Option (ℕ × Question)
    then sent' =
        sought Q B p from (1 + (passed + 1) * 7) (more - 1) next (any_sent sent') (left_by Q (passed + 1) sent')

    -- the atom is left
    pub leaves : d ≡ 0 → then (sent * 2) table ≡ by_d
    leaves e =
        ap (λ i. sought Q B p from i (more - 1) next (any_sent (sent * 2)) (left_by Q (passed + 1) (sent * 2)) table)
        (sym (next_place passed))
        ∙ ap (λ s. sought Q B p from (1 + passed * 7 + 7) (more - 1) next s (left_by Q (passed + 1) (sent * 2)) table)
        (sym (as_before sent))
        ∙ left_at tries from e (left_more Q passed sent)

  pub asks_left : Builds Q B p (passed + 1) (more - 1) next (sent * 2) table
  asks_left =
      with_digit (omega (arith, doubled))
      (subst
      (λ s. Asks Q B p (1 + passed * 7 + 7) (more - 1) next s (left_by Q (passed + 1) (sent * 2)) table)
      (as_before sent)
      (subst (λ A. Asks Q B p (1 + passed * 7 + 7) (more - 1) next (any_sent sent) A table) (sym (left_more Q passed sent))
      (child_left tries)))

  -- the atom is put on a head atom, in a copy of the classes
  module _ (h : 0 < d) (ok : Bool) (copy table' : List ℕ)
      (e : merged ok table' ≡ meeting Q B p (1 + passed * 7) copy d) (same : copy ≡ table) (t : ok ≡ true) where
    one_sent : true ≡ any_sent (sent * 2 + 1)
    one_sent = sym (some_sent_lem (sent * 2 + 1) (λ z. absurd (omega arith)))

    module _ (kept : length table' ≡ length copy) where
      as_sent : Asks Q B p (1 + passed * 7 + 7) (more - 1) next true (left_by Q passed sent) table'
      as_sent = child_sent tries h ok copy table' e kept same t

      pub asks_sent : Builds Q B p (passed + 1) (more - 1) next (sent * 2 + 1) table'
      asks_sent =
          with_digit (omega (arith, doubled))
          (subst
          (λ s. Asks Q B p (1 + passed * 7 + 7) (more - 1) next s (left_by Q (passed + 1) (sent * 2 + 1)) table') one_sent
          (subst (λ A. Asks Q B p (1 + passed * 7 + 7) (more - 1) next true A table') (sym (sent_more Q passed sent))
          as_sent))

      -- no choice that goes on is then valid
      pub gives_up : (from : ℕ)
          → Hopeless (tabled (classes_of table')) (move 48 (rule_of B p)) (left_by Q passed sent)
          (atoms_at stored Q (1 + (passed + 1) * 7) (more - 1))
          → by_d from ≡ none
      gives_up from hopeless =
          sym (sent_at tries from h ok copy table' e same t)
          ∙ asked_hopeless as_sent from
          (subst
          (λ i.
          Hopeless (tabled (classes_of table')) (move 48 (rule_of B p)) (left_by Q passed sent)
          (atoms_at stored Q i (more - 1)))
          (sym (next_place passed)) hopeless)

    pub sends : (from : ℕ) → then from (sent * 2 + 1) table' ≡ by_d from
    sends from =
        ap
        (λ i. sought Q B p from i (more - 1) next (any_sent (sent * 2 + 1)) (left_by Q (passed + 1) (sent * 2 + 1)) table')
        (sym (next_place passed))
        ∙ ap
        (λ s. sought Q B p from (1 + passed * 7 + 7) (more - 1) next s (left_by Q (passed + 1) (sent * 2 + 1)) table')
        (sym one_sent)
        ∙ ap (λ A. sought Q B p from (1 + passed * 7 + 7) (more - 1) next true A table') (sent_more Q passed sent)
        ∙ sent_at tries from h ok copy table' e same t

-- what `try_digit` is asked, for the laws about it
pub trying : {Q B table : List ℕ} {p : Parts} {passed more number sent d : ℕ} {E : Type 0}
    → Builds Q B p passed more number sent table × ((0 < more) × (d ≤ p.heads) × E)
    → Tries Q B p (1 + passed * 7) more number (any_sent sent) (left_by Q passed sent) table d
trying k = (k.0.asks, k.1.0, k.1.1)

-- where the builder starts: no atom passed
pub start_builds : {Q B : List ℕ} {p : Parts} {table : List ℕ} → QuestionIn Q → RuleIn B p
    → classes_of table ≡ own 0 96
    → Builds Q B p 0 (get_or Q 0 0) 0 0 table
start_builds {Q = Q} {B = B} {p = p} {table = table} q r o =
    record {
      asks = start_asks Q B p q r (left_by Q 0 0) table (none_left Q 0 0 refl) o;
      all = omega arith;
      bits = omega arith;
    }
