-- The SRAM of each node of a state has its size.
use Rattle.std.proofs.Common.{◌≡◌, ℕ, [], length, refl, ◌∙◌, arith}
use Rattle.fleet_flight.specs.Shadows.{AreSized}
use Rattle.node_runner.specs.Scenario.{ScenarioOf}
use Rattle.state_text.specs.Text.{NodeOf, StateOf}
use Rattle.checkpoint_text.specs.NodeOf.{node_of}
use Rattle.checkpoint_text.specs.Onward.{CanResume, origin_of, saved_node}

same_sram : (sc : ScenarioOf) (k : ℕ) (n : NodeOf) → length (node_of sc k n).sram ≡ length n.sram
unfolding node_of
same_sram sc k n = refl

pub all_sized : (sc : ScenarioOf) (st : StateOf) → CanResume sc st → AreSized (origin_of sc st)
all_sized sc st can k lt =
    let count = can.count in
    let it = can.nodes k (record { numbers = []; io = []; sram = [] }) (omega arith) in
    same_sram sc k (saved_node st k) ∙ it.sram_count
