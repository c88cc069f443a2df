use Rattle.std.proofs.Common.{◌≡◌, drop}
use Rattle.sim_io.proofs.Pages.{Stands}
use Rattle.trace_writer.specs.Line.{rows_text}
use Rattle.trace_writer.proofs.trace.write.Given as goal

abbrev pub invariant-loop-row : goal.invariant-loop-row
invariant-loop-row g l = record {
  stands : Stands (g.O.Sink.taken l.fn.sink) (rows_text l.rows) (rows_text (drop l.row-index l.rows)) (g.O.Sink.taken l.sink) l.page.bytes;
  count : g.O.Sink.faults l.sink ≡ g.O.Sink.faults l.fn.sink;
}
