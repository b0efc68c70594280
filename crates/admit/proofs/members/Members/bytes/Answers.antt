-- `Members::bytes` meets its contract.
use mathlib.Core.Path.{subst}
use Rattle.exploration.specs.Run.{State}
use Rattle.admit.specs.WorkingArray.{Stands}
use Rattle.admit.proofs.Array.{stands_held}
use Rattle.admit.proofs.members.Members.bytes.Goals as goal

pub returns : goal.returns
returns c = subst (λ (s : State). Stands c.self.inside.work s.members) c.self.view_is (stands_held c.self.invariant.0)
