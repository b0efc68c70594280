-- `cover::search::leads_on` meets its contract. The loop's invariant: the atom brings something new exactly where a place
-- from the j-th on does, and these are sound.
use native.Mathlib.Omega.{arith}
use mathlib.Core.Path.{◌≡◌, refl, sym, ap, ◌∙◌}
use mathlib.Core.Bool.{Bool, ◌&&◌}
use mathlib.Core.List.{List}
use Prim.Native.Nat.{ℕ, ◌-◌}
use lib.ListN.{length, take, drop}
use Rattle.covering.specs.Lists.{any}
use Rattle.covering.specs.Term.{Term, terms, eq_term}
use Rattle.covering.specs.Record.{stored, atom_at}
use Rattle.covering.proofs.Bytes.{used_more, term_constant, atom_used}
use Rattle.covering.proofs.Slices.{part_is}
use Rattle.cover.specs.Candidates.{leads_on}
use Rattle.cover.specs.Rest.{atoms_of}
use Rattle.cover.proofs.Leads.{args_stop, args_hit, args_miss, args_none}
use Rattle.cover.proofs.Rest.{rest_first, rest_room}
use Rattle.cover.proofs.search.leads_on.Goals as goal

-- the atoms after the first, as they are lent
after : (a : Bool) (t : Term) (B : List ℕ) {r : Bool}
    → r ≡ (a && any (eq_term t) (terms (atoms_of (take (length B - 7) (drop 7 B)))))
    → (a && any (eq_term t) (terms (atoms_of (drop 7 B)))) ≡ r
after a t B e = ap (λ (P : List ℕ). a && any (eq_term t) (terms (atoms_of P))) (sym (part_is B 7)) ∙ sym e

pub bounds-rest-j : goal.bounds-rest-j
bounds-rest-j c = omega (arith, rest_room _ c.requires.0 c.requires.1)

pub loop-j-init : goal.loop-j-init
loop-j-init c = (atom_used stored _ _ (rest_first _ c.requires.0 c.requires.1), refl)

pub returns-then-u : goal.returns-then-u
unfolding leads_on atom_at
returns-then-u c = sym (c.loop-j.invariant.1 ∙ args_stop _ c.args.rest.now 1 c.loop-j.j 6 (omega arith) c.if-u.true)

pub place_leads-requires : goal.place_leads-requires
place_leads-requires c =
    let u = used_more c.args.rest.now 1 c.loop-j.j 6 (omega arith) stored c.loop-j.invariant.0 c.if-u.false in
    term_constant stored _ u.0

pub returns-then-place_leads : goal.returns-then-place_leads
unfolding leads_on atom_at
returns-then-place_leads c =
    sym
    (c.loop-j.invariant.1
    ∙ args_hit _ c.args.rest.now 1 c.loop-j.j 6 (omega arith) c.if-u.false
    (after _ _ c.args.rest.now c.place_leads.ensures ∙ c.if-place_leads.true))

pub loop-j-preserved : goal.loop-j-preserved
loop-j-preserved c =
    let F = c.args.rest.now in (
      (used_more F 1 c.loop-j.j 6 (omega arith) stored c.loop-j.invariant.0 c.if-u.false).1,
      c.loop-j.invariant.1
          ∙ args_miss _ F 1 c.loop-j.j 6 (omega arith) c.if-u.false
          (after _ _ F c.place_leads.ensures ∙ c.if-place_leads.false),
    )

pub returns : goal.returns
unfolding leads_on atom_at
returns c = sym (c.loop-j.invariant.1 ∙ args_none _ _ _ _ (omega arith))
