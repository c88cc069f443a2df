use Rattle.std.proofs.Common.{◌≡◌, ◌≤◌, length}
use Rattle.moves_text.specs.Moves.{stretches_in, whole_room}
use Rattle.moves_text.proofs.Lines.{behind}
use Rattle.moves_text.proofs.reading.stretches_in.Given as goal
use Rattle.serial_ports.specs.declared.stretch.TheConstants.{MOST_ARRIVALS}

abbrev pub invariant-loop-stretches : goal.invariant-loop-stretches
invariant-loop-stretches l = record {
  read : behind l.stretches.items (stretches_in l.line l.room l.words) ≡ stretches_in l.line whole_room l.fn.words;
  few : l.room.bytes ≤ MOST_ARRIVALS;
}

abbrev pub decreases-loop-stretches : goal.decreases-loop-stretches
decreases-loop-stretches l = length l.words
