-- The terms before place i + k are put, and those from there on are left.
use Rattle.std.proofs.Common.{◌+◌, ◌-◌}
use Rattle.covering.specs.Record.{args_at}
use Rattle.printing.specs.Printed.{ascii, marked, term_text}
use Rattle.printing.proofs.Adding.{Left}
use Rattle.printing.proofs.put.Text.put_terms.Given as goal

abbrev pub invariant-loop-k : goal.invariant-loop-k
invariant-loop-k l =
    Left (marked (ascii ",") term_text (args_at l.member l.i l.w))
    (marked (ascii ",") term_text (args_at l.member (l.i + l.k) (l.w - l.k))) l.initial.self l.self
