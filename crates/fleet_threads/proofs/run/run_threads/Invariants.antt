use Rattle.std.proofs.Common.{◌≡◌, ◌-◌, false}
use Rattle.node_runner.specs.Scenario.{fleet_of}
use Rattle.fleet_flight.specs.Rows.{rows_upto}
use Rattle.fleet_threads.proofs.run.run_threads.Given as goal

abbrev pub invariant-loop-rows : goal.invariant-loop-rows
invariant-loop-rows g l = record {
  same : l.run.scenario ≡ l.scenario;
  sound : l.run.failed ≡ false;
  rows : l.rows.items ≡ rows_upto (fleet_of l.scenario) l.run.floor;
}

abbrev pub decreases-loop-rows : goal.decreases-loop-rows
decreases-loop-rows g l = l.scenario.topo.limit - l.run.floor
