use Rattle.std.proofs.Common.{take}
use Rattle.std.specs.List.{flat_map}
use Rattle.state_text.specs.Parts.{ended}
use Rattle.state_text.specs.Text.{send_line}
use Rattle.state_text.specs.Writing.{IsPut, out}
use Rattle.state_text.proofs.writing.put_sends.Given as goal

abbrev pub invariant-loop-send : goal.invariant-loop-send
invariant-loop-send g l = IsPut (flat_map (λ x. ended (send_line x)) (take l.send-index l.sends)) (out (g.O.Sink.taken l.fn.sink) l.fn.page.text.bytes l.fn.page.failed (g.O.Sink.faults l.fn.sink)) (out (g.O.Sink.taken l.sink) l.page.text.bytes l.page.failed (g.O.Sink.faults l.sink))
