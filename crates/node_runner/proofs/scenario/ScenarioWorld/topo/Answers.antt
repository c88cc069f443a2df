use Rattle.std.proofs.Common.{subst}
use Rattle.world_core.specs.Lawful.{IsLawful}
use Rattle.world_core.specs.Order.{facts_of}
use Rattle.node_runner.specs.Scenario.{ScenarioOf, fleet_of}
use Rattle.node_runner.proofs.Sound.{scenario_lawful}
use Rattle.node_runner.proofs.scenario.ScenarioWorld.topo.Goals as goal

pub returns-clause-lawful : goal.returns-clause-lawful
returns-clause-lawful c = subst (λ (s : ScenarioOf). IsLawful (facts_of (fleet_of s))) c.self.view_is (scenario_lawful _ c.self.invariant)
