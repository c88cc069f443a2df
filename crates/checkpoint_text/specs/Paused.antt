-- What holds of the inside of a run onward. These are words of contracts.
use Rattle.std.specs.Prelude.{◌≡◌, ℕ, ◌≤◌, true, false, None, List}
use Rattle.air_base.specs.declared.air.Send.{Send}
use Rattle.air_base.specs.NodeRun.{Timed}
use Rattle.node_core.specs.declared.row.Row.{Row}
use Rattle.node_core.specs.State.{NodeState}
use Rattle.fleet_flight.specs.Paused.{IsPaused}
use Rattle.fleet_flight.specs.Shadows.{AreSized}
use Rattle.node_runner.specs.Scenario.{IsScenario}
use Rattle.state_text.specs.Bounds.{are_sends}
use Rattle.checkpoint_text.specs.Onward.{SavedAt, onward, origin_of}

pub record IsSaved (a : SavedAt) (last : ℕ) (vs : List (Timed NodeState Row)) (xs : List Send) : Type 0 where
  pub scenario : IsScenario a.scenario
  pub limit : last ≡ a.scenario.topo.limit
  pub within : a.floor ≤ last
  pub order : are_sends a.scenario.topo a.state.cycle None a.state.sends ≡ true
  pub sized : AreSized (origin_of a.scenario a.state)
  pub paused : a.failed ≡ false → IsPaused (onward a.scenario a.state) a.floor a.floor vs xs
