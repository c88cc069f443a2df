use Rattle.std.proofs.Common.{◌≡◌, ◌+◌, ◌≤◌, length}
use Rattle.std.specs.List.{All}
use Rattle.state_text.specs.Parts.{pieces_of}
use Rattle.places_text.specs.Known.{IsKnown}
use Rattle.places_text.specs.Places.{places_from}
use Rattle.places_text.proofs.Lines.{behind}
use Rattle.places_text.proofs.reading.places_of.Given as goal

abbrev pub invariant-loop-rest : goal.invariant-loop-rest
invariant-loop-rest l = record {
  read : behind l.places.items (places_from l.nodes l.line l.least (pieces_of l.rest)) ≡ places_from l.nodes 1 0 (pieces_of l.text);
  known : All (IsKnown l.nodes) l.places.items;
  few : l.line + length l.rest ≤ 1 + length l.text;
}

abbrev pub decreases-loop-rest : goal.decreases-loop-rest
decreases-loop-rest l = length l.rest
