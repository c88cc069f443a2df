-- USART0 as an asynchronous port, cycle by cycle (ATmega128 datasheet, "USART": frame formats, transmitter, receiver
-- buffer). The cycles in which a frame begins and ends are this simulator's own choice.
use Rattle.std.specs.Prelude.{ℕ, ◌+◌, ◌*◌, ◌/◌, ◌%◌, ◌^◌, ◌&&◌, not, if◌then◌else◌, Bool, true, false, Option, Some, None, is_some}
use Rattle.device_base.specs.Bits.{any_bit}
use Rattle.device_base.specs.Names.{RXCIE0, RXEN0, TXCIE0, UCSZ0, UDRIE0, USBS0}
use Rattle.serial_ports.specs.Transmission.{ended_byte, is_end}
use Rattle.serial_ports.specs.declared.usart_receive_buffer.ReceiveBuffer.{ReceiveBuffer}
use Rattle.serial_ports.specs.declared.usart_receive_buffer.ReceiveBuffer.TheVariants.{Empty, One, Two}
use Rattle.serial_ports.specs.declared.usart.Usart.{Usart}
use Rattle.serial_ports.specs.declared.usart.UsartLines.{UsartLines}

-- UCSR0C starts with eight data bits and one stop bit
abbrev pub reset_usart : Usart
reset_usart = record {
  baud = 0;
  double = false;
  control_b = 0;
  control_c = UCSZ0;
  txc = false;
  dor = false;
  receive_buffer = Empty;
  shift_register = None;
  transmit_buffer = None;
}

-- UCSZ1:0, bits 2 and 1 of UCSR0C, and USBS, bit 3
abbrev pub data_bits : Usart → ℕ
data_bits u = 5 + u.control_c / 2 % 4

abbrev pub stop_bits : Usart → ℕ
stop_bits u = if any_bit u.control_c USBS0 then 2 else 1

-- a bit lasts 16 (UBRR + 1) cycles, and half of that with U2X ("Equations for Calculating Baud Rate Register Setting")
abbrev pub bit_cycles : Usart → ℕ
bit_cycles u = (if u.double then 8 else 16) * (u.baud + 1)

-- a frame: a start bit, the data bits, the stop bits
unfoldable pub frame_cycles : Usart → ℕ
frame_cycles u = (1 + data_bits u + stop_bits u) * bit_cycles u

-- a byte cut to the data bits
unfoldable pub cut : Usart → ℕ → ℕ
cut u b = b % 2 ^ data_bits u

-- a frame with the byte b begins in cycle t; its length and its data bits are those of that cycle
abbrev pub started : ℕ → ℕ → Usart → Usart
started t b u = record u { shift_register = Some (record { ends = t + frame_cycles u; byte = cut u b }) }

-- whether a frame ends in cycle t
abbrev pub ends_at : ℕ → Usart → Bool
ends_at t u = is_end u.shift_register t

-- the byte whose frame ends in cycle t
unfoldable pub frame_ended : ℕ → Usart → Option ℕ
frame_ended t u = ended_byte u.shift_register t

-- after a frame: the byte that waits in the transmit buffer begins its own, and with none TXC is set
abbrev pub next_frame : ℕ → Option ℕ → Usart → Usart
next_frame t None u = record u { shift_register = None; txc = true }
next_frame t (Some b) u = started t b (record u { transmit_buffer = None })

-- the transmitter's part of cycle t
unfoldable pub usart_cycle : ℕ → Usart → Usart
usart_cycle t u = if ends_at t u then next_frame t u.transmit_buffer u else u

-- a byte that was received: the buffer holds two, and a third one is lost by a data overrun
abbrev pub buffered : ReceiveBuffer → ℕ → Usart → Usart
buffered Empty x u = record u { receive_buffer = One x }
buffered (One a) x u = record u { receive_buffer = Two a x }
buffered (Two a b) x u = record u { dor = true }

-- a byte arrives: lost where RXEN is clear
unfoldable pub arrived : ℕ → Usart → Usart
arrived b u = if any_bit u.control_b RXEN0 then buffered u.receive_buffer (cut u b) u else u

abbrev pub is_filled : ReceiveBuffer → Bool
is_filled Empty = false
is_filled (One a) = true
is_filled (Two a b) = true

-- the lines of its three interrupts: RXC with RXCIE, UDRE with UDRIE, TXC with TXCIE. UDRE says that no byte waits
abbrev pub lines_of : Usart → UsartLines
lines_of u = record {
  rxc = is_filled u.receive_buffer && any_bit u.control_b RXCIE0;
  udre = not (is_some u.transmit_buffer) && any_bit u.control_b UDRIE0;
  txc = u.txc && any_bit u.control_b TXCIE0;
}
