use Rattle.std.proofs.Common.{arith}
use Rattle.board_io.proofs.Lags.{calm_to, down_to}
use Rattle.board_io.proofs.lagging.LaggingBoard.clear.Goals as goal

pub returns-clause-early : goal.returns-clause-early
returns-clause-early c =
    let clear = c.self.invariant.clear in
    let early = c.self.invariant.early in
    omega (arith, clear, early)

pub returns-clause-calm : goal.returns-clause-calm
returns-clause-calm c = calm_to c.self.inside.ahead c.self.inside.held.clock c.self.inside.held.board c.self.invariant c.self.inside.ahead.clear c.args.self.now c.self.invariant.clear c.self.view_is

pub returns-clause-down : goal.returns-clause-down
returns-clause-down c = down_to c.self.inside.ahead c.self.inside.held.clock c.self.inside.held.board c.self.invariant c.args.self.now c.self.view_is
