-- The moment in which a run of nodes begins: at reset, or in a saved state. Own to this simulator.
use Rattle.std.specs.Prelude.{ℕ, List}
use Rattle.air_base.specs.declared.air.Send.{Send}
use Rattle.world_core.specs.Order.{Fleet}
use Rattle.world_core.specs.Topology.{Topology}
use Rattle.node_core.specs.Cycle.{node_kind}
use Rattle.node_core.specs.State.{NodeState}
use Rattle.node_core.specs.declared.row.Row.{Row}

pub record Origin : Type 0 where
  pub topo : Topology
  -- the first cycle: 0 for a run from reset
  pub cycle : ℕ
  -- each node's state then, by its number
  pub states : ℕ → NodeState
  -- the sends of earlier cycles that can still be heard
  pub sends : List Send

-- its nodes in the single global order of cycles
abbrev pub flown : Origin → Fleet NodeState Row
flown o = record { kind = node_kind; topo = o.topo; start = o.cycle; begins = o.states; sent = o.sends }
