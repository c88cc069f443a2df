-- A run between two epochs. Own to this simulator.
use Rattle.std.specs.Prelude.{◌≡◌, ℕ, ◌≤◌, Bool, true, false, IfSome, Option, Some, None}
use Rattle.std.specs.List.{All}
use Rattle.atomic_table.specs.Seated.{TableId}
use Rattle.world_core.specs.Kept.{IsPostedTo}
use Rattle.neighbour_sync.specs.Seats.{NodeFacts}
use Rattle.world_core.specs.Order.{facts_of}
use Rattle.node_runner.specs.Scenario.{ScenarioOf, IsScenario, fleet_of}
use Rattle.node_runner.specs.Place.{is_live}
use Rattle.neighbour_sync.specs.Parts.{AreParts}
use Rattle.node_runner.specs.Gather.{start_of}
use Rattle.fleet_threads.specs.declared.member.Member.{Member}
use Rattle.fleet_threads.specs.declared.parts.Parts.{Parts}
use Rattle.fleet_threads.specs.Member.{IsUnderWay, InOrder}

abbrev pub air_of : Member → NodeFacts
air_of m = m.air

-- a node at reset
abbrev pub IsFirst : ScenarioOf → Member → Type 0
IsFirst sc m = (m.runner ≡ start_of sc m.air.number) × (m.halted ≡ false) × (m.gap ≡ sc.topo.byte_time)

-- a node that has come to the end of the epoch or stopped before, and has not halted
pub record IsResting (t : TableId) (sc : ScenarioOf) (floor end : ℕ) (m : Member) : Type 0 where
  pub is : IsUnderWay t (facts_of (fleet_of sc)) sc floor end m
  pub still : is_live end m.runner ≡ false
  pub clock : m.air.clock ≡ end
  pub goes : m.halted ≡ false

-- Words, record and nodes are of one table and of this scenario. The record is cut at the end of the epoch, all nodes
-- have come there, and their rows were taken at the floor.
pub record IsTied (sc : ScenarioOf) (floor end : ℕ) (x : Parts) : Type 0 where
  pub parts : AreParts x.air.table (facts_of (fleet_of sc)) end x.clocks x.air
  pub posted : IsPostedTo (facts_of (fleet_of sc)) end x.air.sent
  pub order : InOrder sc.topo.nodes x.members.items
  pub rests : All (IsResting x.air.table sc floor end) x.members.items

abbrev pub is_gone : Option Parts → Bool
is_gone (Some x) = false
is_gone None = true

pub record IsRun (sc : ScenarioOf) (floor last : ℕ) (parts : Option Parts) : Type 0 where
  pub scenario : IsScenario sc
  pub limit : last ≡ sc.topo.limit
  pub within : floor ≤ last
  pub tied : IfSome parts (IsTied sc floor floor)
