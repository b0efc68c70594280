-- `forms::put::put_rules` meets its contract. The loop's invariant: the rules passed are put.
use Rattle.judging.specs.Forms.{form_named}
use Rattle.forms.proofs.Rules.{SoFar}
use Rattle.forms.proofs.put.put_rules.Given as goal

abbrev pub invariant-loop-rule : goal.invariant-loop-rule
invariant-loop-rule l = SoFar l.book (form_named l.form) l.initial.out l.at l.out l.s l.end l._rule
