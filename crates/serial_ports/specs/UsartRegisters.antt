-- The registers of USART0 (ATmega128 datasheet, "USART Register Description").
use Rattle.std.specs.Prelude.{ℕ, ◌+◌, ◌*◌, ◌/◌, ◌%◌, ◌&&◌, not, if◌then◌else◌, false, Some, is_some, Result, Ok, Err, bit_and}
use Rattle.avr_base.specs.declared.stop.StopCause.{StopCause}
use Rattle.avr_base.specs.declared.stop.StopCause.TheVariants as stop
use Rattle.device_base.specs.Bits.{any_bit, bit}
use Rattle.device_base.specs.Names.{DOR0, MPCM0, RXC0, RXEN0, TXC0, TXEN0, U2X0, UCSR0B_KEPT, UCSR0C_KEPT, UCSZ02, UDRE0, UMSEL0_UPM0}
use Rattle.serial_ports.specs.declared.usart_receive_buffer.ReceiveBuffer.{ReceiveBuffer}
use Rattle.serial_ports.specs.declared.usart_receive_buffer.ReceiveBuffer.TheVariants.{Empty, One, Two}
use Rattle.serial_ports.specs.declared.usart_registers.UsartReg.{UsartReg}
use Rattle.serial_ports.specs.declared.usart_registers.UsartReg.TheVariants.{StatusA, ControlB, ControlC, BaudL, BaudH, Udr}
use Rattle.serial_ports.specs.declared.usart.Usart.{Usart}
use Rattle.serial_ports.specs.Usart.{is_filled, started}

-- UCSR0A: there are no frame and no parity errors
abbrev pub status_of : Usart → ℕ
status_of u =
    bit (is_filled u.receive_buffer) RXC0 + bit u.txc TXC0 + bit (not (is_some u.transmit_buffer)) UDRE0 + bit u.dor DOR0 + bit u.double U2X0

-- the oldest byte of the receive buffer, 0 where there is none
abbrev pub oldest : ReceiveBuffer → ℕ
oldest Empty = 0
oldest (One a) = a
oldest (Two a b) = a

abbrev pub without_oldest : ReceiveBuffer → ReceiveBuffer
without_oldest Empty = Empty
without_oldest (One a) = Empty
without_oldest (Two a b) = One b

-- what a read gives, and the port after it: a read of UDR0 takes a byte and clears DOR
abbrev pub get_of : Usart → UsartReg → ℕ × Usart
get_of u StatusA = (status_of u, u)
get_of u ControlB = (u.control_b, u)
get_of u ControlC = (u.control_c, u)
get_of u BaudL = (u.baud % 256, u)
get_of u BaudH = (u.baud / 256, u)
get_of u Udr = (oldest u.receive_buffer, record u { receive_buffer = without_oldest u.receive_buffer; dor = false })

-- a byte to send from cycle t on: lost where TXEN is clear; while a frame runs it waits, and is lost where another one
-- waits already
abbrev pub sent_out : ℕ → ℕ → Usart → Usart
sent_out t b u =
    if not (any_bit u.control_b TXEN0) then u
    else if not (is_some u.shift_register) then started t b u
    else if is_some u.transmit_buffer then u
    else record u { transmit_buffer = Some b }

-- UCSR0B; without RXEN the receive buffer is emptied
abbrev pub with_control_b : ℕ → Usart → Usart
with_control_b b u =
    if any_bit b RXEN0 then record u { control_b = bit_and b UCSR0B_KEPT }
    else record u { control_b = bit_and b UCSR0B_KEPT; receive_buffer = Empty; dor = false }

-- the port after a write of the byte b in cycle t, or why that stops: multi-processor mode (MPCM), nine data bits
-- (UCSZ2), synchronous mode and parity (UMSEL, UPM) are not there. TXC is cleared by a 1; RXB8 reads 0
abbrev pub put_of : ℕ → Usart → UsartReg → ℕ → Result Usart StopCause
put_of t u StatusA b =
    if any_bit b MPCM0 then Err stop.UsartMode
    else Ok (record u { double = any_bit b U2X0; txc = u.txc && not (any_bit b TXC0) })
put_of t u ControlB b = if any_bit b UCSZ02 then Err stop.UsartMode else Ok (with_control_b b u)
put_of t u ControlC b = if any_bit b UMSEL0_UPM0 then Err stop.UsartMode else Ok (record u { control_c = bit_and b UCSR0C_KEPT })
put_of t u BaudL b = Ok (record u { baud = u.baud / 256 * 256 + b })
put_of t u BaudH b = Ok (record u { baud = b % 16 * 256 + u.baud % 256 })
put_of t u Udr b = Ok (sent_out t b u)
