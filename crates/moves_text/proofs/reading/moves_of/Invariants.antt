use Rattle.std.proofs.Common.{◌≡◌, ◌+◌, ◌<◌, ◌≤◌, length}
use Rattle.std.specs.List.{All}
use Rattle.state_text.specs.Parts.{pieces_of}
use Rattle.moves_text.specs.Moves.{MoveOf, moves_from}
use Rattle.moves_text.proofs.Lines.{behind}
use Rattle.moves_text.proofs.reading.moves_of.Given as goal

abbrev pub invariant-loop-rest : goal.invariant-loop-rest
invariant-loop-rest l = record {
  read : behind l.moves.items (moves_from l.nodes l.line (pieces_of l.rest)) ≡ moves_from l.nodes 1 (pieces_of l.text);
  known : All (λ (m : MoveOf). m.node < l.nodes) l.moves.items;
  few : l.line + length l.rest ≤ 1 + length l.text;
}

abbrev pub decreases-loop-rest : goal.decreases-loop-rest
decreases-loop-rest l = length l.rest
