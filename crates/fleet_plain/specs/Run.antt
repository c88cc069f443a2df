-- A run from reset, in epochs. Own to this simulator.
use Rattle.std.specs.Prelude.{◌≡◌, ℕ, ◌≤◌, false, List, []}
use Rattle.air_base.specs.declared.air.Send.{Send}
use Rattle.air_base.specs.NodeRun.{Timed}
use Rattle.node_core.specs.declared.row.Row.{Row}
use Rattle.node_core.specs.State.{NodeState}
use Rattle.fleet_flight.specs.Origin.{Origin}
use Rattle.fleet_flight.specs.Paused.{IsPaused}
use Rattle.node_runner.specs.Scenario.{ScenarioOf, IsScenario, fleet_of}
use Rattle.node_runner.specs.Run.{RunAt}

-- all nodes of a scenario at reset
abbrev pub at_reset : ScenarioOf → Origin
at_reset s = record { topo = s.topo; cycle = 0; states = (fleet_of s).begins; sends = [] }

-- what holds of the inside of a run
pub record IsRun (r : RunAt) (last : ℕ) (vs : List (Timed NodeState Row)) (xs : List Send) : Type 0 where
  pub scenario : IsScenario r.scenario
  pub limit : last ≡ r.scenario.topo.limit
  pub within : r.floor ≤ last
  pub paused : r.failed ≡ false → IsPaused (fleet_of r.scenario) r.floor r.floor vs xs
