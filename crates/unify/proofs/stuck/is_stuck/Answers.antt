-- `unify::stuck::is_stuck` meets its contract. The loop's invariant: what bars the atom from the head atoms yet to come bars
-- it from all.
use native.Mathlib.Omega.{arith}
use mathlib.Core.Path.{sym, subst}
use mathlib.Core.Bool.{true≢false}
use mathlib.Core.List.{map}
use Rattle.covering.specs.Lists.{◌∈◌}
use Rattle.covering.specs.Term.{Question, on_atom}
use Rattle.covering.specs.Record.{atom_at}
use Rattle.covering.proofs.Tests.{not_false}
use Rattle.unification.specs.Step.{up}
use Rattle.unify.specs.InBytes.{rule_in}
use Rattle.unify.proofs.EachTerm.{from_first, nth_sound}
use Rattle.unify.proofs.StuckBytes.{each_none, each_more}
use Rattle.unify.proofs.stuck.is_stuck.Goals as goal

pub tied_places-requires : goal.tied_places-requires
tied_places-requires c = (c.requires.1, omega arith)

pub returns-then-not-tied_places : goal.returns-then-not-tied_places
returns-then-not-tied_places c = λ e. absurd (true≢false (sym e))

pub loop-n-init : goal.loop-n-init
loop-n-init c = λ f. f

pub is_barred-requires : goal.is_barred-requires
is_barred-requires c =
    let p = c.requires in
    (p.1, omega arith, omega (arith, p.0.fits), nth_sound _ _ c.loop-n.n _ (omega arith) p.0.sound)

pub returns-then-not-is_barred : goal.returns-then-not-is_barred
returns-then-not-is_barred c = λ e. absurd (true≢false (sym e))

pub loop-n-preserved : goal.loop-n-preserved
loop-n-preserved c =
    λ f.
    c.loop-n.invariant
    (each_more _ _ _ _ _ (omega arith) (c.is_barred.ensures (not_false _ c.if-not-is_barred.false-raw)) f)

pub returns : goal.returns
unfolding rule_in atom_at
returns c =
    λ e.
    let a = c.args in
    let p = a.rule.now.parts in
    record {
      tied = c.tied_places.ensures (not_false _ c.if-not-tied_places.false-raw);
      barred =
          λ b m.
          c.loop-n.invariant (each_none _ _ _ _ _ (omega arith)) b
          (subst (λ (A : Question). b ∈ map (on_atom (up 48)) A) (from_first a.rule.now.book.now p.head p.heads) m);
    }
