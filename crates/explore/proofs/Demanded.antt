-- `run` meets the three demands (`exploration`, `proofs/Demands`): whatever book and output it is called with, and
-- whatever it then answers and leaves in the output. Assumes nothing.
use mathlib.Core.Path.{◌≡◌}
use Rattle.reading.specs.Told.{number_told, place_told}
use Rattle.exploration.proofs.Demands.{Demand1, Demand2, Demand3, demand_1, demand_2, demand_3}
use Rattle.explore.proofs.whole_run.run.Reads as reads

-- `Learnt` is `run`'s contract as a caller learns it: at the lifetimes, the arguments (the book, the output), the
-- result and the exit.
module _ (κs : _) (args : _) (result : _) (exit : _) (learnt : reads.Learnt κs args result exit) where
  pub run_demand_1 : Demand1 args.0.now args.1.0.now (number_told result) (place_told result) exit.1.0.now
  run_demand_1 = demand_1 learnt

  pub run_demand_2 : Demand2 args.0.now args.1.0.now (number_told result) (place_told result) exit.1.0.now
  run_demand_2 = demand_2 learnt

  pub run_demand_3 : number_told result ≡ 0 → Demand3 args.0.now exit.1.0.now
  run_demand_3 zero = demand_3 learnt zero
