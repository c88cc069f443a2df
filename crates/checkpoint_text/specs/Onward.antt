-- The run onward from a saved state: the nodes of the state, in the cycle of the state, with the sends that may still
-- be heard, go on in the single global order of cycles. Own to this simulator.
use Rattle.std.specs.Prelude.{◌≡◌, ℕ, ◌<◌, Bool, true, [], length, None, slice_index_or}
use Rattle.std.specs.List.{All}
use Rattle.world_core.specs.Chain.{Rises}
use Rattle.world_core.specs.Order.{Fleet}
use Rattle.data_space.specs.declared.regions.TheConstants.{IO_COUNT, SRAM_LEN}
use Rattle.device_base.specs.declared.numbers.TheConstants.{NUMBERS}
use Rattle.node_core.specs.declared.row.Row.{Row}
use Rattle.node_core.specs.Restored.{fault_of}
use Rattle.node_core.specs.State.{NodeState}
use Rattle.fleet_flight.specs.Origin.{Origin}
use Rattle.node_runner.specs.Scenario.{ScenarioOf, fleet_of}
use Rattle.state_text.specs.Bounds.{are_sends}
use Rattle.state_text.specs.Text.{NodeOf, StateOf}
use Rattle.checkpoint_text.specs.NodeOf.{node_of}

abbrev no_node : NodeOf
no_node = record { numbers = []; io = []; sram = [] }

-- what the state has of node k
abbrev pub saved_node : StateOf → ℕ → NodeOf
saved_node st k = slice_index_or st.nodes k no_node

-- the nodes of the state, from its cycle on; `run_rows` of it is the rest of the trace
abbrev pub onward : ScenarioOf → StateOf → Fleet NodeState Row
onward sc st = record (fleet_of sc) { start = st.cycle; begins = λ k. node_of sc k (saved_node st k); sent = st.sends }

-- the moment in which it begins
abbrev pub origin_of : ScenarioOf → StateOf → Origin
origin_of sc st = record { topo = sc.topo; cycle = st.cycle; states = (onward sc st).begins; sends = st.sends }

-- what is saved of a node is that of one that has reached a cycle
pub record IsFit (cycle : ℕ) (n : NodeOf) : Type 0 where
  pub count : length n.numbers ≡ NUMBERS
  pub io_count : length n.io ≡ IO_COUNT
  pub sram_count : length n.sram ≡ SRAM_LEN
  pub fault : fault_of cycle n.numbers n.io ≡ None

-- a state from which the scenario can go on, be it one that a run comes to or not
pub record CanResume (sc : ScenarioOf) (st : StateOf) : Type 0 where
  pub early : st.cycle < sc.topo.limit
  pub count : length st.nodes ≡ sc.topo.nodes
  pub nodes : All (IsFit st.cycle) st.nodes
  pub sends : All (λ x. (x.node < sc.topo.nodes) × (x.cycle < st.cycle)) st.sends
  pub rises : Rises st.sends
  -- they may still be heard, and stand in order of cycle, then node
  pub order : are_sends sc.topo st.cycle None st.sends ≡ true

-- a run onward: the scenario, the state that it began in, the cycle reached, and whether there was want of memory
pub record SavedAt : Type 0 where
  pub scenario : ScenarioOf
  pub state : StateOf
  pub floor : ℕ
  pub failed : Bool
