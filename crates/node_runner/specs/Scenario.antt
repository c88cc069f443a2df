-- A scenario, and its nodes in the single global order of cycles. Own to this simulator.
use Rattle.std.specs.Prelude.{◌≡◌, ℕ, ◌≤◌, List, [], length, slice_index_or, slice_set}
use Rattle.world_core.specs.Topology.{Topology, IsTopology}
use Rattle.ihex_loader.specs.Flash.{Image}
use Rattle.serial_ports.specs.Script.{ScriptBytes}
use Rattle.node_core.specs.declared.row.Row.{Row}
use Rattle.node_core.specs.Restored.{IsRestored}
use Rattle.node_core.specs.State.{NodeState, reset}
use Rattle.node_core.specs.Cycle.{node_kind}
use Rattle.world_core.specs.Order.{Fleet}

pub record ScenarioOf : Type 0 where
  pub topo : Topology
  -- each node's program memory, and the bytes that arrive at it
  pub images : List Image
  pub scripts : List ScriptBytes
  -- instructions and entries are traced from this cycle on
  pub from : ℕ
  -- and below this one
  pub to : ℕ

pub record IsScenario (s : ScenarioOf) : Type 0 where
  pub topo : IsTopology s.topo
  pub images : length s.images ≡ s.topo.nodes
  pub scripts : length s.scripts ≡ s.topo.nodes
  pub window : s.from ≤ s.to

abbrev no_image : Image
no_image = record { bytes = []; used = 0 }

abbrev no_script : ScriptBytes
no_script = record { stretches = [] }

-- the program memory of node k, and the bytes that arrive at it
abbrev pub image_at : ScenarioOf → ℕ → Image
image_at s k = slice_index_or s.images k no_image

abbrev pub script_at : ScenarioOf → ℕ → ScriptBytes
script_at s k = slice_index_or s.scripts k no_script

-- the same scenario with this script at node k, in place of its own
abbrev pub with_script : ScenarioOf → ℕ → ScriptBytes → ScenarioOf
with_script s k script = record s { scripts = slice_set s.scripts k script }

-- all its nodes, from reset on
abbrev pub fleet_of : ScenarioOf → Fleet NodeState Row
fleet_of s = record {
  kind = node_kind;
  topo = s.topo;
  start = 0;
  begins = λ k. reset k (image_at s k).bytes (script_at s k) s.from s.to s.topo.byte_time;
  sent = [];
}

-- the state of node k of the scenario that has these numbers, I/O bytes and SRAM
abbrev pub IsRestoredIn : ScenarioOf → ℕ → List ℕ → List ℕ → List ℕ → NodeState → Type 0
IsRestoredIn s k n io sram u = IsRestored k (image_at s k).bytes (script_at s k) s.from s.to s.topo.byte_time n io sram u
