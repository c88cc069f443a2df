-- A scenario's fleet keeps what the global order asks, so its air is a world.
use Rattle.std.proofs.Common.{arith}
use Rattle.world_core.specs.Lawful.{IsLawful}
use Rattle.node_core.proofs.Steady.{steady, steady_gap}
use Rattle.world_core.specs.Order.{facts_of}
use Rattle.world_core.specs.Sound.{IsSound}
use Rattle.world_core.proofs.Laws.{lawful}
use Rattle.node_runner.specs.Scenario.{ScenarioOf, IsScenario, fleet_of}

pub sound : (s : ScenarioOf) → IsScenario s → IsSound (fleet_of s)
sound s i = record {
  topo = i.topo;
  kind = steady;
  start = omega arith;
  gap = λ k. steady_gap ((fleet_of s).begins k);
  inside = λ k d lt. absurd (omega arith);
  spaced = λ k i j d lt le. absurd (omega arith);
  free = λ k j d lt. absurd (omega arith);
}

pub scenario_lawful : (s : ScenarioOf) → IsScenario s → IsLawful (facts_of (fleet_of s))
scenario_lawful s i = lawful (fleet_of s) (sound s i)
