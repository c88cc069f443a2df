use Rattle.std.proofs.Common.{refl, sym, subst, arith}
use Rattle.serial_ports.specs.declared.spi_registers.SpiReg.TheVariants.{Spdr}
use Rattle.board_io.specs.Board.{clocked}
use Rattle.board_io.specs.declared.rules.Rule.{Rule}
use Rattle.board_io.specs.declared.rules.Rule.TheVariants.{Spi}
use Rattle.board_io.specs.Lagging.{caught_up}
use Rattle.board_io.specs.Registers.{IsPut, put_in}
use Rattle.board_io.proofs.Beside.{write_beside}
use Rattle.board_io.proofs.Sent.{sent_ahead}
use Rattle.board_io.proofs.lagging.LaggingBoard.put_spdr.Goals as goal

pub returns : goal.returns
returns c =
    let i = c.self.inside in
    subst (λ (k : Rule). IsPut (put_in k c.args.self.now c.args.at c.args.x) c.args.self.now c.put_spdr-put.result (clocked i.held.clock (caught_up i.ahead.settled i.held.clock c.put_spdr-put.new.self))) (sym c.requires.rule)
    (write_beside (Spi Spdr) i.held.board c.args.at i.ahead.settled i.held.clock refl c.args.x c.put_spdr-put.result c.put_spdr-put.new.self c.args.self.now c.self.view_is c.put_spdr-put.ensures)

pub invariant_of-self : goal.invariant_of-self
invariant_of-self c =
    let i = c.self.inside in
    let none = c.cycles_before-calm.ensures in
    let most = c.saturating_sub-most.ensures in
    let within = none.within in
    let clear = c.clear_until-self-inside.ensures in
    sent_ahead i.ahead i.held.clock i.held.board c.self.invariant c.args.x (sym c.if-line.ensures) c.args.at c.put_spdr-put.result c.put_spdr-put.new.self c.get-clock.result c.cycles_before-calm.result c.clear_until-self-inside.result c.done_at.result
    c.put_spdr-put.ensures c.get-clock.ensures.value c.done_at.ensures (omega (arith, most, within)) none.none clear.within clear.down
