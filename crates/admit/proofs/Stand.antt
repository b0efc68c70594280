-- A state that is held stands: what `member_covering` asks of the working array, and the members that it reads there
-- are the state's. Assumes nothing.
use mathlib.Core.Path.{◌≡◌, sym, ◌∙◌, ap, subst}
use mathlib.Core.List.{List}
use Prim.Native.Nat.{ℕ}
use lib.ListN.{drop}
use Rattle.covering.specs.Lists.{◌∈◌}
use Rattle.covering.specs.Term.{Question}
use Rattle.covering.specs.Record.{stored, Fits}
use Rattle.exploration.specs.Run.{State}
use Rattle.exploration.specs.Union.{first_at}
use Rattle.exploration.specs.Held.{held_from}
use Rattle.admit.specs.WorkingArray.{HoldsState}
use Rattle.exploration.specs.Held.{Standing}
use Rattle.exploration.proofs.HeldBytes.{held_read}
use Rattle.exploration.proofs.Standing.{members_stand}

module _ (W : List ℕ) where
  module _ {len count front : ℕ} {s : State} (h : HoldsState W len count front s)
      (fits : (M : Question) → M ∈ s.members → Fits stored M) where
    pub held_stands : Standing W first_at count
    held_stands =
        subst (Standing W first_at) (sym h.members) (members_stand W first_at s.members (drop len W) fits h.bytes)

    pub held_members : held_from W first_at count ≡ s.members
    held_members =
        ap (held_from W first_at) h.members ∙ held_read W first_at s.members (drop len W) fits h.bytes
