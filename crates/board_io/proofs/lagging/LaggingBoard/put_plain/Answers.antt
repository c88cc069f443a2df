use Rattle.board_io.proofs.Apart.{write_ahead_by, write_by}
use Rattle.board_io.proofs.lagging.LaggingBoard.put_plain.Goals as goal

pub invariant_of-self : goal.invariant_of-self
invariant_of-self c =
    let i = c.self.inside in
    write_ahead_by c.args.rule i.held.board c.args.at c.args.x i.ahead.settled i.held.clock c.requires c.put_by.result i.ahead c.put_by.new.self c.put_by.ensures c.self.invariant

pub returns : goal.returns
returns c =
    let i = c.self.inside in
    write_by c.args.rule i.held.board c.args.at c.args.x i.ahead.settled i.held.clock c.requires c.put_by.result c.put_by.new.self c.args.self.now c.self.view_is c.put_by.ensures
