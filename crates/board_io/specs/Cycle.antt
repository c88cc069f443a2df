-- One cycle of the devices, which follows the processor's part: timers 0 to 3, then USART0 (a byte that arrives, then
-- the transmitter), then the serial peripheral interface with the radio. Where a transfer ends that samples the air,
-- the cycle is split there: the rest follows once it is known what was heard. This order is this simulator's own
-- choice.
use Rattle.std.specs.Prelude.{ℕ, ◌&&◌, not, Bool, true, false, Option, Some, None}
use Rattle.board_io.specs.declared.board.Board.{Board}
use Rattle.board_io.specs.declared.cycle.OnAir.{OnAir}
use Rattle.board_io.specs.declared.cycle.OnAir.TheVariants.{Quiet, Sent, Asks}
use Rattle.board_io.specs.Board.{selected}
use Rattle.serial_ports.specs.declared.radio.TransferOutcome.{TransferOutcome}
use Rattle.serial_ports.specs.declared.radio.TransferOutcome.TheVariants.{Answer, Send, Ask}
use Rattle.serial_ports.specs.declared.radio.Radio.{Radio}
use Rattle.serial_ports.specs.Radio.{radio_transfer, radio_answered}
use Rattle.avr_timers.specs.Clock.{cycles}
use Rattle.serial_ports.specs.Transmission.{ended_byte}
use Rattle.serial_ports.specs.Spi as spi
use Rattle.avr_timers.specs.Timer16 as timer16
use Rattle.avr_timers.specs.Timer8 as timer8
use Rattle.serial_ports.specs.declared.usart.Usart.{Usart}
use Rattle.serial_ports.specs.Usart as usart
use Rattle.air_base.specs.declared.air.Heard.{Heard}

abbrev pub timers_cycle : ℕ → Board → Board
timers_cycle t b = record b {
  t0 = timer8.timer_cycle t b.t0;
  t1 = timer16.timer_cycle t b.t1;
  t2 = timer8.timer_cycle t b.t2;
  t3 = timer16.timer_cycle t b.t3;
}

-- so many cycles of the timers alone, from cycle t on
unfoldable pub timers_leap : ℕ → ℕ → Board → Board
timers_leap t n b = record b {
  t0 = cycles timer8.timer_cycle t n b.t0;
  t1 = cycles timer16.timer_cycle t n b.t1;
  t2 = cycles timer8.timer_cycle t n b.t2;
  t3 = cycles timer16.timer_cycle t n b.t3;
}

-- a byte that arrives at USART0, or none
abbrev pub received : Option ℕ → Usart → Usart
received None u = u
received (Some b) u = usart.arrived b u

abbrev pub usart_cycle : ℕ → Option ℕ → Board → Board
usart_cycle t arrival b = record b { usart = usart.usart_cycle t (received arrival b.usart) }

-- what the radio makes of the byte of the transfer that ends in cycle t; nothing where none ends
abbrev pub moved_by : ℕ → Option ℕ → Board → Option (TransferOutcome × Radio)
moved_by t None b = None
moved_by t (Some byte) b = Some (radio_transfer t (selected b) byte b.radio)

abbrev pub moved : ℕ → Board → Option (TransferOutcome × Radio)
moved t b = moved_by t (ended_byte b.spi.shift_register t) b

-- the end of a transfer whose answer is known; a sample waits for what it hears
abbrev pub transfer_end : TransferOutcome → Radio → Board → Board
transfer_end (Answer miso) radio b = record b { radio = radio; spi = spi.spi_finished miso b.spi }
transfer_end (Send byte miso) radio b = record b { radio = radio; spi = spi.spi_finished miso b.spi }
transfer_end Ask radio b = record b { radio = radio }

abbrev pub with_moved : Option (TransferOutcome × Radio) → Board → Board
with_moved None b = b
with_moved (Some m) b = transfer_end m.0 m.1 b

-- the part of USART0, and of the serial peripheral interface and the radio up to a sample
unfoldable pub ports_begun : ℕ → Option ℕ → Board → Board
ports_begun t arrival b = with_moved (moved t b) (usart_cycle t arrival b)

-- the devices' part of cycle t, up to its sample where it has one
unfoldable pub board_begun : ℕ → Option ℕ → Board → Board
board_begun t arrival b = with_moved (moved t b) (usart_cycle t arrival (timers_cycle t b))

-- the byte of the frame that ends in cycle t
unfoldable pub board_serial : ℕ → Board → Option ℕ
board_serial t b = usart.frame_ended t b.usart

-- what the radio does on the air, by what a transfer comes to
abbrev pub air_by : TransferOutcome → OnAir
air_by (Answer miso) = Quiet
air_by (Send byte miso) = Sent byte
air_by Ask = Asks

abbrev pub air_of : Option (TransferOutcome × Radio) → OnAir
air_of None = Quiet
air_of (Some m) = air_by m.0

-- what it does in cycle t
unfoldable pub board_air : ℕ → Board → OnAir
board_air t b = air_of (moved t b)

-- whether it samples the air, and the byte that it sends
abbrev pub is_asks : OnAir → Bool
is_asks Quiet = false
is_asks (Sent byte) = false
is_asks Asks = true

abbrev pub sent_by : OnAir → Option ℕ
sent_by Quiet = None
sent_by (Sent byte) = Some byte
sent_by Asks = None

abbrev pub board_asks : ℕ → Board → Bool
board_asks t b = is_asks (board_air t b)

abbrev pub board_sends : ℕ → Board → Option ℕ
board_sends t b = sent_by (board_air t b)

-- the rest of a cycle that samples: the transfer answers 0, and the radio keeps what was heard
unfoldable pub board_answered : Heard → Board → Board
board_answered h b = record b { radio = radio_answered h b.radio; spi = spi.spi_finished 0 b.spi }

-- whether cycle t ends no frame and no transfer
unfoldable pub board_quiet : ℕ → Board → Bool
board_quiet t b = not (usart.ends_at t b.usart) && not (spi.ends_at t b.spi)
