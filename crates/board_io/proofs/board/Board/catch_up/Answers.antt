use Rattle.std.proofs.Common.{sym, arith}
use Rattle.board_io.proofs.Lags.{caught_zero}
use Rattle.board_io.proofs.board.Board.catch_up.Goals as goal

pub returns-else-settled-clock : goal.returns-else-settled-clock
returns-else-settled-clock c = sym (caught_zero c.args.settled c.args.clock c.args.self.now (omega arith))
