use Rattle.std.proofs.Common.{◌≡◌, ◌-◌, ◌≤◌, false}
use Rattle.sim_io.specs.Outside.{extended}
use Rattle.trace_writer.specs.Line.{rows_text}
use Rattle.checkpoint_text.specs.Onward.{onward}
use Rattle.fleet_flight.specs.Rows.{rows_upto}
use Rattle.commands.specs.Parts.{EndsFrom}
use Rattle.commands.proofs.checkpoints.write_rows_to.Given as goal

abbrev pub invariant-loop-saved : goal.invariant-loop-saved
invariant-loop-saved g l = record {
  same : l.saved.scenario ≡ l.network;
  state : l.saved.state ≡ l.fn.saved.state;
  sound : l.saved.failed ≡ false;
  at : EndsFrom l.network l.fn.saved.state.cycle l.saved.floor;
  within : l.saved.floor ≤ l.end;
  taken : g.O.Sink.taken l.out ≡ extended (g.O.Sink.taken l.fn.out) (rows_text (rows_upto (onward l.network l.fn.saved.state) l.saved.floor));
  count : g.O.Sink.faults l.out ≡ g.O.Sink.faults l.fn.out;
}

abbrev pub decreases-loop-saved : goal.decreases-loop-saved
decreases-loop-saved g l = l.end - l.saved.floor
