-- `Members::of` meets its contract: the member's record is put into an empty array.
use mathlib.Core.Path.{refl}
use lib.ListN.{replicate}
use Rattle.exploration.specs.Union.{output_size}
use Rattle.covering.proofs.Padded.{sound_stored}
use Rattle.admit.proofs.First.{first_state, first_working, first_beside}
use Rattle.admit.proofs.members.Members.of.Goals as goal

pub invariant_of-members : goal.invariant_of-members
invariant_of-members c =
    let fits = sound_stored _ c.requires.0 in
    let put = c.append-len.ensures in
    let s = c.of_one.ensures in (
      first_working (replicate output_size 0) refl _ fits c.requires.1 _ _ put.0 put.1,
      first_beside (replicate output_size 0) refl _ fits c.requires.1 _ _ put.0 put.1 _ s.0 s.1,
    )

pub returns : goal.returns
returns c =
    let put = c.append-len.ensures in
    first_state (replicate output_size 0) refl _ (sound_stored _ c.requires.0) c.requires.1 _ _ put.0 put.1
