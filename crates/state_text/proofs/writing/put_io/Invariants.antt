use Rattle.std.proofs.Common.{take}
use Rattle.hex.specs.Hex.{encode_upper}
use Rattle.state_text.specs.Writing.{IsPut, node_of, out}
use Rattle.state_text.proofs.writing.put_io.Given as goal

abbrev pub invariant-loop-place : goal.invariant-loop-place
invariant-loop-place g l = IsPut (encode_upper (take l.place (node_of (g.N.Nodes.nodes l.nodes) l.node).io)) (out (g.O.Sink.taken l.fn.sink) l.fn.page.text.bytes l.fn.page.failed (g.O.Sink.faults l.fn.sink)) (out (g.O.Sink.taken l.sink) l.page.text.bytes l.page.failed (g.O.Sink.faults l.sink))
