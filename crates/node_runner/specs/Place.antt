-- Where a runner stands. Its rows and counts follow from it.
use Rattle.std.specs.Prelude.{is_some, ◌≡◌, ℕ, ◌+◌, ◌-◌, ◌<◌, ◌⊎◌, Bool, true, false, not, ◌&&◌, ◌||◌, nat_lt, if◌then◌else◌, List}
use Rattle.world_core.specs.Sends.{sends_below}
use Rattle.air_base.specs.NodeRun.{Timed}
use Rattle.node_core.specs.declared.row.Row.{Row}
use Rattle.node_core.specs.State.{NodeState}
use Rattle.world_core.specs.Order.{facts_of, node_at}
use Rattle.world_core.specs.Stands.{Stands, rows_shown}
use Rattle.node_runner.specs.Scenario.{ScenarioOf, IsScenario, fleet_of}

-- node `number` of the scenario: its cycle, the cycle of the last taking of rows, an unanswered sample, an unnoted send
pub record Place : Type 0 where
  pub scenario : ScenarioOf
  pub number : ℕ
  pub since : ℕ
  pub cycle : ℕ
  pub asking : Bool
  pub unnoted : Bool

-- its rows since the last taking, and its noted sends
abbrev pub rows_of : Place → List Row
rows_of p = rows_shown (fleet_of p.scenario) p.number p.since p.cycle p.asking

abbrev pub state_at : Place → NodeState
state_at p = node_at (fleet_of p.scenario) p.number p.cycle

abbrev pub sends_passed : Place → ℕ
sends_passed p = sends_below (facts_of (fleet_of p.scenario)).sends p.number p.cycle

abbrev pub noted_of : Place → ℕ
noted_of p = sends_passed p - (if p.unnoted then 1 else 0)

-- it can go on before the cycle `end`: it waits for an answer, or has neither stopped nor come so far
abbrev pub is_live : ℕ → Place → Bool
is_live end p = p.asking || (not (is_some (state_at p).stop) && nat_lt p.cycle end)

pub record HasEnded (p : Place) : Type 0 where
  pub calm : p.asking ≡ false
  pub noted : p.unnoted ≡ false
  pub over : (is_some (state_at p).stop ≡ true) ⊎ (p.cycle ≡ p.scenario.topo.limit)

-- what holds of the inside of a runner
pub record IsRunner (p : Place) (v : Timed NodeState Row) (noted last : ℕ) : Type 0 where
  pub scenario : IsScenario p.scenario
  pub number : p.number < p.scenario.topo.nodes
  pub limit : last ≡ p.scenario.topo.limit
  pub stands : Stands (fleet_of p.scenario) p.number p.since v
  pub count : noted + (if p.unnoted then 1 else 0) ≡ sends_passed p
