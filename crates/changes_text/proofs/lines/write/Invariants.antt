use Rattle.std.proofs.Common.{◌≡◌, drop}
use Rattle.sim_io.proofs.Pages.{Stands}
use Rattle.changes_text.specs.Line.{changes_text}
use Rattle.changes_text.proofs.lines.write.Given as goal

abbrev pub invariant-loop-change : goal.invariant-loop-change
invariant-loop-change g l = record {
  stands : Stands (g.O.Sink.taken l.fn.sink) (changes_text l.changes) (changes_text (drop l.change-index l.changes)) (g.O.Sink.taken l.sink) l.page.bytes;
  count : g.O.Sink.faults l.sink ≡ g.O.Sink.faults l.fn.sink;
}
