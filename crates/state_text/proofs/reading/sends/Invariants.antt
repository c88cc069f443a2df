use Rattle.std.proofs.Common.{◌≡◌, length, None}
use Rattle.state_text.specs.Reading.{sends_in}
use Rattle.state_text.proofs.Loops.{with_sends}
use Rattle.state_text.proofs.reading.sends.Given as goal

abbrev pub invariant-loop-sends : goal.invariant-loop-sends
invariant-loop-sends l = with_sends l.sends.items (sends_in l.topo l.cycle l.before l.lines.number l.lines.pieces) ≡ sends_in l.topo l.cycle None l.fn.lines.number l.fn.lines.pieces

abbrev pub decreases-loop-sends : goal.decreases-loop-sends
decreases-loop-sends l = length l.lines.pieces
