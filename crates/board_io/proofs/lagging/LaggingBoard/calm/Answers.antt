use Rattle.std.proofs.Common.{arith}
use Rattle.board_io.proofs.Lags.{calm_to}
use Rattle.board_io.proofs.lagging.LaggingBoard.calm.Goals as goal

pub returns-clause-calm : goal.returns-clause-calm
returns-clause-calm c = calm_to c.self.inside.ahead c.self.inside.held.clock c.self.inside.held.board c.self.invariant c.self.inside.ahead.next c.args.self.now (omega arith) c.self.view_is
