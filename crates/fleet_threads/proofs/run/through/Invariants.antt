use Rattle.world_core.specs.Order.{facts_of}
use Rattle.node_runner.specs.Scenario.{fleet_of}
use Rattle.fleet_threads.proofs.run.through.Given as goal

abbrev pub ghosts-in_session : goal.ghosts-in_session
ghosts-in_session g a = record { table = a.self.air.table; world = facts_of (fleet_of a.epoch.now.scenario.now); floor = a.self.air.floor }
