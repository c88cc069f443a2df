-- The SRAM of each node at reset has its size.
use Rattle.std.proofs.Common.{◌≡◌, ℕ, length}
use Rattle.std.proofs.lemmas.List.{length-replicate}
use Rattle.data_space.specs.Memory.{zeros}
use Rattle.fleet_flight.specs.Shadows.{AreSized}
use Rattle.node_runner.specs.Scenario.{ScenarioOf}
use Rattle.fleet_plain.specs.Run.{at_reset}

zeros_size : (n : ℕ) → length (zeros n) ≡ n
unfolding zeros
zeros_size n = let zero : ℕ = 0 in length-replicate n zero

pub all_sized : (sc : ScenarioOf) → AreSized (at_reset sc)
all_sized sc k l = zeros_size 4096
