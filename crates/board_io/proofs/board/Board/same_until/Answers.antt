use Rattle.board_io.proofs.Steady.{changes_none}
use Rattle.board_io.proofs.board.Board.same_until.Goals as goal

pub returns-then-steady-settled-clause-calm : goal.returns-then-steady-settled-clause-calm
returns-then-steady-settled-clause-calm c i below = changes_none c.args.settled i c.args.self.now (c.requires.steady i below)

pub returns-then-is_new-clause-calm : goal.returns-then-is_new-clause-calm
returns-then-is_new-clause-calm c i below = changes_none c.args.settled i c.args.self.now (c.requires.steady i below)
