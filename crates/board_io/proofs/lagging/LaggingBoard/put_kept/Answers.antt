use Rattle.std.proofs.Common.{Ok, Result, ap, sym}
use Rattle.avr_base.specs.declared.stop.StopCause.{StopCause}
use Rattle.board_io.specs.declared.board.Board.{Board}
use Rattle.board_io.specs.declared.rules.Rule.TheVariants.{Kept}
use Rattle.board_io.proofs.Apart.{write_ahead_by, write_by}
use Rattle.board_io.proofs.lagging.LaggingBoard.put_kept.Goals as goal

abbrev done : Result (Unit {0}) StopCause
done = Ok tt

pub invariant_of-self : goal.invariant_of-self
invariant_of-self c =
    let i = c.self.inside in
    write_ahead_by (Kept c.args.mask) i.held.board c.args.at c.args.x i.ahead.settled i.held.clock c.requires done i.ahead c.keep.new.self (ap (λ (d : Board). let r : Result Board StopCause = Ok d in r) (sym c.keep.ensures)) c.self.invariant

pub returns : goal.returns
returns c =
    let i = c.self.inside in
    write_by (Kept c.args.mask) i.held.board c.args.at c.args.x i.ahead.settled i.held.clock c.requires done c.keep.new.self c.args.self.now c.self.view_is (ap (λ (d : Board). let r : Result Board StopCause = Ok d in r) (sym c.keep.ensures))
