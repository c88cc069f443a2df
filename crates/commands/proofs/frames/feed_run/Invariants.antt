use Rattle.std.proofs.Common.{◌≡◌, ◌-◌, false}
use Rattle.node_runner.specs.Scenario.{fleet_of}
use Rattle.fleet_flight.specs.Rows.{rows_upto}
use Rattle.run_reports.specs.Frames.{sends_told}
use Rattle.run_reports.specs.Sniffing.{fed_all, of_each}
use Rattle.commands.proofs.frames.feed_run.Given as goal

abbrev pub invariant-loop-alloc : goal.invariant-loop-alloc
invariant-loop-alloc l = record {
  same : l.run.scenario ≡ l.network;
  sound : l.run.failed ≡ false;
  all : l.all.items ≡ of_each l.network.topo.nodes (fed_all (sends_told (rows_upto (fleet_of l.network) l.run.floor)));
}

abbrev pub decreases-loop-alloc : goal.decreases-loop-alloc
decreases-loop-alloc l = l.network.topo.limit - l.run.floor
