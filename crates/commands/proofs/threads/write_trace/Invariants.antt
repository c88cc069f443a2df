use Rattle.std.proofs.Common.{◌≡◌, ◌-◌, false}
use Rattle.sim_io.specs.Outside.{extended}
use Rattle.trace_writer.specs.Line.{rows_text}
use Rattle.node_runner.specs.Scenario.{fleet_of}
use Rattle.fleet_flight.specs.Rows.{rows_upto}
use Rattle.commands.proofs.threads.write_trace.Given as goal

abbrev pub invariant-loop-run : goal.invariant-loop-run
invariant-loop-run g l = record {
  same : l.run.scenario ≡ l.network;
  sound : l.run.failed ≡ false;
  taken : g.O.Sink.taken l.out ≡ extended (g.O.Sink.taken l.fn.out) (rows_text (rows_upto (fleet_of l.network) l.run.floor));
  count : g.O.Sink.faults l.out ≡ g.O.Sink.faults l.fn.out;
}

abbrev pub decreases-loop-run : goal.decreases-loop-run
decreases-loop-run g l = l.network.topo.limit - l.run.floor
