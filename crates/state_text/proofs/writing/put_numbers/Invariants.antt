use Rattle.std.proofs.Common.{decimal, take}
use Rattle.std.specs.List.{flat_map}
use Rattle.state_text.specs.Writing.{IsPut, out, spaced}
use Rattle.state_text.proofs.writing.put_numbers.Given as goal

abbrev pub invariant-loop-n : goal.invariant-loop-n
invariant-loop-n g l = IsPut (flat_map (λ n. spaced (decimal n)) (take l.n-index l.numbers)) (out (g.O.Sink.taken l.fn.sink) l.fn.page.text.bytes l.fn.page.failed (g.O.Sink.faults l.fn.sink)) (out (g.O.Sink.taken l.sink) l.page.text.bytes l.page.failed (g.O.Sink.faults l.sink))
