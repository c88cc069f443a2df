use Rattle.std.proofs.Common.{take}
use Rattle.std.specs.List.{flat_map}
use Rattle.state_text.specs.Parts.{ended}
use Rattle.state_text.specs.Text.{nodes_lines}
use Rattle.state_text.specs.Writing.{IsPut, out}
use Rattle.state_text.proofs.writing.put_nodes.Given as goal

abbrev pub invariant-loop-node : goal.invariant-loop-node
invariant-loop-node g l = IsPut (flat_map ended (nodes_lines 0 (take l.node (g.N.Nodes.nodes l.nodes)))) (out (g.O.Sink.taken l.fn.sink) l.fn.page.text.bytes l.fn.page.failed (g.O.Sink.faults l.fn.sink)) (out (g.O.Sink.taken l.sink) l.page.text.bytes l.page.failed (g.O.Sink.faults l.sink))
