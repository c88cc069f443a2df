use Rattle.std.proofs.Common.{◌-◌}
use Rattle.board_io.proofs.Apart.{got_apart, read_ahead_by, read_by}
use Rattle.board_io.proofs.Lags.{calm_now}
use Rattle.board_io.proofs.lagging.LaggingBoard.get_plain.Goals as goal

pub invariant_of-self : goal.invariant_of-self
invariant_of-self c =
    let i = c.self.inside in
    read_ahead_by c.args.rule i.held.board c.args.at i.ahead.settled i.held.clock (got_apart c.args.rule i.held.board c.args.at i.ahead.settled (i.held.clock - i.ahead.settled) c.requires (calm_now i.ahead i.held.clock i.held.board c.self.invariant)) c.get_by.result i.ahead c.get_by.new.self c.get_by.ensures c.self.invariant

pub returns : goal.returns
returns c =
    let i = c.self.inside in
    read_by c.args.rule i.held.board c.args.at i.ahead.settled i.held.clock (got_apart c.args.rule i.held.board c.args.at i.ahead.settled (i.held.clock - i.ahead.settled) c.requires (calm_now i.ahead i.held.clock i.held.board c.self.invariant)) c.get_by.result c.get_by.new.self c.args.self.now c.self.view_is c.get_by.ensures
