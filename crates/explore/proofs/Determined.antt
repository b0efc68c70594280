-- Any two results that `run`'s contract allows are equal: the answer, and every byte of the output. Assumes nothing.
use mathlib.Core.Path.{◌≡◌}
use Rattle.reading.proofs.ToldOnce.{told_once}
use Rattle.exploration.proofs.Demands.{demand_1}
use Rattle.explore.proofs.whole_run.run.Reads as run-reads

-- Over the contract itself, as a caller learns it: `Learnt` at the lifetimes, the arguments, the result and the exit.
pub run_learnt : (κs : _) (a : _) (r s : _) (x y : _) → run-reads.Learnt κs a r x → run-reads.Learnt κs a s y
    → (r ≡ s) × (x.1.0.now ≡ y.1.0.now)
run_learnt κs a r s x y p q = let d = (demand_1 p).determined q in (told_once r s d.0 d.1, d.2)
