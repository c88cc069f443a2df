use Rattle.std.proofs.Common.{◌-◌, ◌≡◌, true, sym, ◌∙◌}
use Rattle.board_io.specs.Lagging.{is_standing}
use Rattle.board_io.proofs.Apart.{write_ahead_apart, write_apart}
use Rattle.board_io.proofs.Standing.{standing_apart}
use Rattle.board_io.proofs.lagging.LaggingBoard.put_timer.Goals as goal

pub invariant_of-self : goal.invariant_of-self
invariant_of-self c =
    let i = c.self.inside in
    let stands : is_standing c.args.rule c.args.x i.held.board ≡ true = sym c.is_standing.ensures ∙ c.if-not-is_standing.false in
    write_ahead_apart c.args.rule i.held.board c.args.at c.args.x i.ahead.settled i.held.clock
    (standing_apart i.held.clock c.args.rule i.held.board c.args.at c.args.x i.ahead.settled (i.held.clock - i.ahead.settled) stands)
    c.put_by.result i.ahead c.put_by.new.self c.put_by.ensures c.self.invariant

pub returns : goal.returns
returns c =
    let i = c.self.inside in
    let stands : is_standing c.args.rule c.args.x i.held.board ≡ true = sym c.is_standing.ensures ∙ c.if-not-is_standing.false in
    write_apart c.args.rule i.held.board c.args.at c.args.x i.ahead.settled i.held.clock
    (standing_apart i.held.clock c.args.rule i.held.board c.args.at c.args.x i.ahead.settled (i.held.clock - i.ahead.settled) stands)
    c.put_by.result c.put_by.new.self c.args.self.now c.self.view_is c.put_by.ensures
