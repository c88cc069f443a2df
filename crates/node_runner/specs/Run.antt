-- How far a run has come, and the sends that can still be heard. Own to this simulator.
use Rattle.std.specs.Prelude.{ℕ, Bool, List}
use Rattle.std.specs.List.{filter}
use Rattle.air_base.specs.declared.air.Send.{Send}
use Rattle.world_core.specs.Kept.{is_kept}
use Rattle.world_core.specs.Order.{world_at}
use Rattle.node_runner.specs.Scenario.{ScenarioOf, fleet_of}

-- the scenario, the cycle reached, and whether there was want of memory
pub record RunAt : Type 0 where
  pub scenario : ScenarioOf
  pub floor : ℕ
  pub failed : Bool

-- the world's sends that are kept at cycle c, in order of cycle, then node
abbrev pub kept_at : ScenarioOf → ℕ → List Send
kept_at sc c = filter (is_kept sc.topo c) (world_at (fleet_of sc) c).sends
