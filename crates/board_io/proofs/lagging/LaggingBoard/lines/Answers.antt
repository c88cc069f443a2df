use Rattle.board_io.proofs.Lags.{lines_are}
use Rattle.board_io.proofs.lagging.LaggingBoard.lines.Goals as goal

pub returns : goal.returns
returns c = lines_are c.self.inside.ahead c.self.inside.held.clock c.self.inside.held.board c.self.invariant c.args.self.now c.self.view_is
