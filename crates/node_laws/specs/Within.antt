-- Within which bounds the numbers of a board's devices stay from reset on, beyond what `device_laws` says of its
-- devices: the bounds by which a saved node is refused (ATmega128 datasheet, the register descriptions).
use Rattle.std.specs.Prelude.{◌≡◌, ℕ, ◌<◌, ◌≤◌, Option, Some, None, Result, Ok, Err, bit_and}
use Rattle.air_base.specs.Bounds.{LAST_END}
use Rattle.avr_base.specs.declared.stop.StopCause.{StopCause}
use Rattle.board_io.specs.declared.board.Board.{Board}
use Rattle.board_io.specs.declared.clocked.ClockedBoard.{ClockedBoard}
use Rattle.board_io.specs.Board.{kept_at}
use Rattle.board_io.specs.Kept.{kept_bits}
use Rattle.board_io.specs.Table.{rule_of}
use Rattle.avr_timers.specs.declared.timer8.Timer8.{Timer8}
use Rattle.avr_timers.specs.declared.timer16.Timer16.{Timer16}
use Rattle.serial_ports.specs.declared.transmission.Transmission.{Transmission}
use Rattle.serial_ports.specs.declared.usart_receive_buffer.ReceiveBuffer.{ReceiveBuffer}
use Rattle.serial_ports.specs.declared.usart_receive_buffer.ReceiveBuffer.TheVariants.{Empty, One, Two}
use Rattle.serial_ports.specs.declared.radio.Radio.{Radio}
use Rattle.serial_ports.specs.declared.radio.RadioState.{RadioState}
use Rattle.serial_ports.specs.declared.radio.RadioState.TheVariants.{Idle, ToSend, ToSample, Status, Byte, Age}
use Rattle.serial_ports.specs.declared.spi.Spi.{Spi}
use Rattle.serial_ports.specs.declared.usart.Usart.{Usart}
use Rattle.air_base.specs.declared.air.Heard.{Heard}

pub record Timer8Within (tm : Timer8) : Type 0 where
  pub count : tm.count ≤ 255
  pub compare : tm.compare ≤ 255

pub record Timer16Within (tm : Timer16) : Type 0 where
  pub count : tm.count ≤ 65535
  pub compare_a : tm.compare_a ≤ 65535
  pub compare_b : tm.compare_b ≤ 65535
  pub compare_c : tm.compare_c ≤ 65535
  pub icr : tm.icr ≤ 65535
  pub temp : tm.temp ≤ 255

-- a byte, where there is one
abbrev pub ByteWithin : Option ℕ → Type 0
ByteWithin None = Unit {0}
ByteWithin (Some b) = b ≤ 255

abbrev pub InboxWithin : ReceiveBuffer → Type 0
InboxWithin Empty = Unit {0}
InboxWithin (One a) = a ≤ 255
InboxWithin (Two a b) = (a ≤ 255) × (b ≤ 255)

-- what is shifted out, where anything is, ends in cycle t or later, and by 2^41
abbrev pub ShiftWithin : ℕ → Option Transmission → Type 0
ShiftWithin t None = Unit {0}
ShiftWithin t (Some f) = (t ≤ f.ends) × (f.ends ≤ LAST_END) × (f.byte ≤ 255)

pub record UsartWithin (t : ℕ) (u : Usart) : Type 0 where
  pub receive_buffer : InboxWithin u.receive_buffer
  pub shift_register : ShiftWithin t u.shift_register
  pub transmit_buffer : ByteWithin u.transmit_buffer

pub record SpiWithin (t : ℕ) (s : Spi) : Type 0 where
  pub control : s.control ≤ 255
  pub last : s.receive_buffer ≤ 255
  pub shift_register : ShiftWithin t s.shift_register

-- what a sample can hear
pub record HeardWithin (h : Heard) : Type 0 where
  pub status : h.status ≤ 2
  pub byte : h.byte ≤ 255
  pub age : h.age ≤ 255

-- a state of the radio between two cycles: a sample is answered in the cycle in which it is taken
abbrev pub StateWithin : RadioState → Type 0
StateWithin Idle = Unit {0}
StateWithin ToSend = Unit {0}
StateWithin ToSample = ⊥
StateWithin (Status h) = HeardWithin h
StateWithin (Byte h) = HeardWithin h
StateWithin (Age h) = HeardWithin h

pub record RadioWithin (r : Radio) : Type 0 where
  pub state : StateWithin r.state
  pub free : r.free ≤ LAST_END

-- a board before cycle t
pub record BoardWithin (t : ℕ) (b : Board) : Type 0 where
  pub t0 : Timer8Within b.t0
  pub t1 : Timer16Within b.t1
  pub t2 : Timer8Within b.t2
  pub t3 : Timer16Within b.t3
  pub usart : UsartWithin t b.usart
  pub spi : SpiWithin t b.spi
  pub radio : RadioWithin b.radio
  -- a byte that the board keeps has no bit that its register cannot have; where it keeps none it is 0
  pub kept : (at : ℕ) → at < 256 → bit_and (kept_at at b) (kept_bits (rule_of at)) ≡ kept_at at b

-- what an access in cycle t gives and leaves; one that stops leaves the board as it was
abbrev pub ReadWithin : ℕ → Result (ℕ × ClockedBoard) StopCause → Type 0
ReadWithin t (Ok got) = (got.0 ≤ 255) × BoardWithin t got.1.board × (got.1.clock ≡ t)
ReadWithin t (Err cause) = Unit {0}

abbrev pub WrittenWithin : ℕ → Result ClockedBoard StopCause → Type 0
WrittenWithin t (Ok c) = BoardWithin t c.board × (c.clock ≡ t)
WrittenWithin t (Err cause) = Unit {0}
