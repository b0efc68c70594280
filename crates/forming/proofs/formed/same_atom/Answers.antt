-- `forming::formed::same_atom` meets its contract: sound atoms are equal where their bytes are.
use native.Mathlib.Omega.{arith}
use mathlib.Core.Path.{◌∙◌}
use Rattle.covering.specs.Record.{stored}
use Rattle.covering.proofs.RoundTrip.{stored_apart}
use Rattle.forming.proofs.AtomBytes.{equal_bytes}
use Rattle.forming.proofs.formed.same_atom.Goals as goal

pub returns : goal.returns
returns c =
    c.eq.ensures ∙ equal_bytes stored stored_apart _ _ _ _ _ _ c.requires.0 c.requires.1 (omega arith) (omega arith)
