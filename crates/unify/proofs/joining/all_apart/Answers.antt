-- `unify::joining::all_apart` meets its contract: the table has each number at its own place.
use native.Mathlib.Omega.{arith}
use Rattle.unify.proofs.TableBytes.{own_bytes}
use Rattle.unify.proofs.joining.all_apart.Goals as goal

pub returns : goal.returns
returns c = own_bytes 96 0 (omega arith)
