use Rattle.std.proofs.Common.{ap, ◌∙◌}
use Rattle.serial_ports.specs.Usart.{frame_ended}
use Rattle.board_io.proofs.Turns.{arrived_ended}
use Rattle.board_io.proofs.board.Board.tick_usart.Goals as goal

pub returns-in-Some-clause-ended : goal.returns-in-Some-clause-ended
returns-in-Some-clause-ended c =
    c.tick-in-Some.ensures.value ∙ (ap (frame_ended c.args.cycle) c.arrive.ensures ∙ arrived_ended c.args.cycle c.in-Some.byte c.args.self.now.usart)
