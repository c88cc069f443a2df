use Rattle.std.proofs.Common.{refl, sym, subst, arith}
use Rattle.serial_ports.specs.declared.usart_registers.UsartReg.TheVariants.{Udr}
use Rattle.board_io.specs.Board.{clocked}
use Rattle.board_io.specs.declared.rules.Rule.{Rule}
use Rattle.board_io.specs.declared.rules.Rule.TheVariants.{Usart0}
use Rattle.board_io.specs.Lagging.{caught_up}
use Rattle.board_io.specs.Registers.{IsPut, put_in}
use Rattle.board_io.proofs.Beside.{write_beside}
use Rattle.board_io.proofs.Posted.{sent_ahead}
use Rattle.board_io.proofs.lagging.LaggingBoard.put_udr.Goals as goal

pub returns : goal.returns
returns c =
    let i = c.self.inside in
    subst (λ (k : Rule). IsPut (put_in k c.args.self.now c.args.at c.args.x) c.args.self.now c.put_udr-put.result (clocked i.held.clock (caught_up i.ahead.settled i.held.clock c.put_udr-put.new.self))) (sym c.requires.rule)
    (write_beside (Usart0 Udr) i.held.board c.args.at i.ahead.settled i.held.clock refl c.args.x c.put_udr-put.result c.put_udr-put.new.self c.args.self.now c.self.view_is c.put_udr-put.ensures)

pub invariant_of-self : goal.invariant_of-self
invariant_of-self c =
    let i = c.self.inside in
    let none = c.cycles_before-calm.ensures in
    let most = c.saturating_sub-most.ensures in
    let within = none.within in
    let clear = c.clear_until-self-inside.ensures in
    sent_ahead i.ahead i.held.clock i.held.board c.self.invariant c.args.x (sym c.if-asks_for_a_write.ensures) c.args.at c.put_udr-put.result c.put_udr-put.new.self c.get-clock.result c.cycles_before-calm.result c.clear_until-self-inside.result c.next_event.result
    c.put_udr-put.ensures c.get-clock.ensures.value c.next_event.ensures (omega (arith, most, within)) none.none clear.within clear.down
