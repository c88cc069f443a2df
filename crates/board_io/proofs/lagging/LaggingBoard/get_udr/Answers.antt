use Rattle.std.proofs.Common.{◌-◌, sym, subst}
use Rattle.serial_ports.specs.declared.usart_registers.UsartReg.TheVariants.{Udr}
use Rattle.board_io.specs.Board.{clocked}
use Rattle.board_io.specs.declared.rules.Rule.{Rule}
use Rattle.board_io.specs.declared.rules.Rule.TheVariants.{Usart0}
use Rattle.board_io.specs.Lagging.{caught_up}
use Rattle.board_io.specs.Registers.{IsGot, get_in}
use Rattle.board_io.proofs.Apart.{got_udr, read_ahead_by, read_by}
use Rattle.board_io.proofs.lagging.LaggingBoard.get_udr.Goals as goal

pub invariant_of-self : goal.invariant_of-self
invariant_of-self c =
    let i = c.self.inside in
    read_ahead_by (Usart0 Udr) i.held.board c.args.at i.ahead.settled i.held.clock (got_udr i.held.board c.args.at i.ahead.settled (i.held.clock - i.ahead.settled) (sym c.if-asks_for_a_read.ensures)) c.get_by.result i.ahead c.get_by.new.self c.get_by.ensures c.self.invariant

pub returns : goal.returns
returns c =
    let i = c.self.inside in
    let apart = got_udr i.held.board c.args.at i.ahead.settled (i.held.clock - i.ahead.settled) (sym c.if-asks_for_a_read.ensures) in
    subst (λ (k : Rule). IsGot (get_in k c.args.self.now c.args.at) c.args.self.now c.get_by.result (clocked i.held.clock (caught_up i.ahead.settled i.held.clock c.get_by.new.self))) (sym c.requires.rule)
    (read_by (Usart0 Udr) i.held.board c.args.at i.ahead.settled i.held.clock apart c.get_by.result c.get_by.new.self c.args.self.now c.self.view_is c.get_by.ensures)
