-- A test of each of n atoms that stand one after the other in bytes, the first of them taken: one law for each way
-- through a loop over them. Assumes nothing.
use mathlib.Core.Path.{◌≡◌}
use mathlib.Core.Bool.{Bool, true, false}
use mathlib.Core.List.{List}
use Prim.Native.Nat.{ℕ, ◌+◌, ◌-◌, ◌<◌}
use Rattle.covering.specs.Lists.{all}
use Rattle.covering.specs.Term.{Atom}
use Rattle.covering.specs.Record.{Layout, size, atom_at, atoms_at}
use Rattle.covering.proofs.Places.{atoms_none, atoms_more}

module _ (L : Layout) (F : List ℕ) (i left : ℕ) (f : Atom → Bool) where
  pub each_none : left ≡ 0 → all f (atoms_at L F i left) ≡ true
  each_none e = rw (atoms_none L F i left e)

  pub each_fails : 0 < left → f (atom_at L F i) ≡ false → all f (atoms_at L F i left) ≡ false
  each_fails h e = rw (atoms_more L F i left h, e)

  pub each_passes : 0 < left → f (atom_at L F i) ≡ true
      → all f (atoms_at L F i left) ≡ all f (atoms_at L F (i + size L) (left - 1))
  each_passes h e = rw (atoms_more L F i left h, e)
