-- `printing::put::Text::put_atoms` meets its contract: a space and an atom at a turn.
use Rattle.std.proofs.Common.{List, ℕ, ◌++◌, ◌+◌, ◌-◌, ◌<◌, arith, refl}
use Rattle.covering.specs.Record.{stored, atom_at, atoms_at}
use Rattle.covering.proofs.Places.{sound_more}
use Rattle.printing.specs.declared.put.Text.{Text}
use Rattle.printing.specs.Printed.{ascii, marked, atom_text}
use Rattle.printing.specs.Text.{HasRoom}
use Rattle.printing.proofs.Adding.{Left, left_first, left_more, left_none, then}
use Rattle.printing.proofs.Texts.{atoms_end, atoms_next, atoms_rest}
use Rattle.printing.proofs.put.Text.put_atoms.Goals as goal

-- there is room for the next space and atom
next_fits : {whole : List ℕ} {before t : Text} (B : List ℕ) (i n : ℕ)
    → Left whole (marked (ascii " ") atom_text (atoms_at stored B i n)) before t → 0 < n
    → HasRoom (ascii " " ++ atom_text (atom_at stored B i)) t
next_fits B i n l h =
    left_first (ascii " " ++ atom_text (atom_at stored B i)) (marked (ascii " ") atom_text (atoms_at stored B (i + 7) (n - 1))) l
    (atoms_next B i n (i + 7) (n - 1) refl refl h)

pub put-requires : goal.put-requires
put-requires c = omega (arith, next_fits _ _ _ c.loop-k.invariant.0 (omega arith))

pub put_atom-requires : goal.put_atom-requires
put_atom-requires c = (
  omega arith,
  (sound_more stored _ _ _ (omega arith) c.loop-k.invariant.1).0,
  omega (arith, next_fits _ _ _ c.loop-k.invariant.0 (omega arith)),
)

pub loop-k-preserved : goal.loop-k-preserved
loop-k-preserved c = (
  left_more c.loop-k.invariant.0 (atoms_next _ _ _ _ _ (omega arith) (omega arith) (omega arith))
      (then c.put.ensures c.put_atom.ensures),
  atoms_rest _ _ _ _ _ (omega arith) (omega arith) (omega arith) c.loop-k.invariant.1,
)

pub returns : goal.returns
returns c = left_none c.loop-k.invariant.0 (atoms_end _ _ _ (omega arith))
