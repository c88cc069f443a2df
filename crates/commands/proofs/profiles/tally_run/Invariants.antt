use Rattle.std.proofs.Common.{◌≡◌, ◌≤◌, ◌-◌, false}
use Rattle.node_runner.specs.Scenario.{fleet_of}
use Rattle.fleet_flight.specs.Rows.{rows_upto}
use Rattle.run_reports.specs.Profiles.{window_of}
use Rattle.run_reports.specs.Tallies.{tallies}
use Rattle.commands.proofs.profiles.tally_run.Given as goal

abbrev pub invariant-loop-run : goal.invariant-loop-run
invariant-loop-run l = record {
  same : l.run.scenario ≡ l.network;
  sound : l.run.failed ≡ false;
  within : l.run.floor ≤ l.end;
  all : l.all.items ≡ tallies l.network.topo.nodes (window_of l.network) (rows_upto (fleet_of l.network) l.run.floor);
}

abbrev pub decreases-loop-run : goal.decreases-loop-run
decreases-loop-run l = l.end - l.run.floor
