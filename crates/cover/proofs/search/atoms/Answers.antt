-- `cover::search::atoms` meets its contract: the bytes after the count byte, as many as the atoms that it counts have.
use native.Mathlib.Omega.{arith}
use Prim.Native.Nat.{ℕ}
use lib.ListN.{length-take, length-drop}
use Rattle.cover.proofs.Rest.{held_sound, held_atoms}
use Rattle.cover.proofs.search.atoms.Goals as goal

pub returns : goal.returns
returns c =
    record {
      sound = held_sound c.args.held.now c.requires _ (omega arith);
      atoms = held_atoms c.args.held.now c.requires _ (omega arith);
      long = omega (arith, length-take {A = ℕ}, length-drop 1 c.args.held.now, c.requires.fits);
    }
