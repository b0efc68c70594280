-- `records::record::are_atoms` meets its contract: each is an atom.
use Rattle.std.proofs.Common.{rules, tests}
use native.Mathlib.Omega.{arith}
use mathlib.Core.Path.{◌∙◌}
use Prim.Native.Nat.{◌+◌, ◌*◌}
use Rattle.std.proofs.lemmas.Iterator.{YieldsList-from_range}
use Rattle.std.proofs.lemmas.Iterator.Search.{all_from_yields_List}
use Rattle.covering.specs.Record.{desk, is_atom}
use Rattle.records.proofs.Each.{atoms_are}
use Rattle.records.proofs.record.are_atoms.Goals as goal

pub returns : goal.returns
returns c =
    let a = c.args in
    all_from_yields_List (λ k. is_atom (desk a.w) a.s.now (a.i + k * (1 + a.w))) _ _ _ c.all.ensures.ran
    (YieldsList-from_range 0 a.n a.n (search rules) (omega arith)) (λ x b q k. search (rules, tests))
    ∙ atoms_are (desk a.w) a.s.now a.i a.n
