use Rattle.std.proofs.Common.{refl}
use Rattle.board_io.specs.Board.{clocked}
use Rattle.node_laws.proofs.Boards.{cycle_within, entered_within, read_within, reset_within, sends_within, write_within}
use Rattle.node_laws.proofs.board_law.Goals as goal

pub returns : goal.returns
returns c = record {
  reset = reset_within;
  read = λ t b at. read_within t (clocked t b) at refl;
  write = λ t b at x low small early. write_within t (clocked t b) at x low small early refl;
  entry = entered_within;
  cycle = cycle_within;
  sends = sends_within;
}
