-- What holds of each device at every moment after reset, beyond what its types say: so which states can be written as
-- numbers and read back (ATmega128 datasheet, the register descriptions).
use Rattle.std.specs.Prelude.{◌≡◌, ℕ, ◌<◌, ◌≤◌, Bool, true, false, is_some, length, bit_and}
use Rattle.air_base.specs.declared.bounds.TheConstants.{LONGEST_BYTE}
use Rattle.board_io.specs.declared.board.Board.{Board}
use Rattle.board_io.specs.declared.rules.Rule.{Rule}
use Rattle.board_io.specs.declared.rules.Rule.TheVariants.{Kept, Guarded, ResetFlags, CpuControl}
use Rattle.board_io.specs.Board.{kept_at}
use Rattle.board_io.specs.Table.{rule_of}
use Rattle.serial_ports.specs.declared.radio.Radio.{Radio}
use Rattle.device_base.specs.Bits.{any_bit}
use Rattle.avr_timers.specs.declared.prescaler.Prescaler.{Prescaler}
use Rattle.avr_timers.specs.declared.prescaler.Prescaler.TheVariants.{Own, Shared}
use Rattle.avr_timers.specs.Prescaler.{is_pin}
use Rattle.serial_ports.specs.declared.spi.Spi.{Spi}
use Rattle.avr_timers.specs.declared.timer8.Timer8.{Timer8}
use Rattle.avr_timers.specs.declared.timer16.Timer16.{Timer16}
use Rattle.serial_ports.specs.declared.usart_receive_buffer.ReceiveBuffer.{ReceiveBuffer}
use Rattle.serial_ports.specs.declared.usart_receive_buffer.ReceiveBuffer.TheVariants.{Empty, One, Two}
use Rattle.serial_ports.specs.declared.usart.Usart.{Usart}
use Rattle.serial_ports.specs.Usart.{is_filled}

-- the bits of a byte lie within a mask
abbrev pub IsWithin : ℕ → ℕ → Type 0
IsWithin mask x = bit_and x mask ≡ x

-- timer 0 or 2: its clock select is one that a write is accepted with
pub record IsTimer8 (prescaler : Prescaler) (tm : Timer8) : Type 0 where
  pub prescaler_is : tm.prescaler ≡ prescaler
  pub select : tm.select < 8
  pub no_pin : is_pin prescaler tm.select ≡ false

-- timer 1 or 3: its clock select is one that a write is accepted with
pub record IsTimer16 (tm : Timer16) : Type 0 where
  pub select : tm.select ≤ 5

abbrev pub is_full : ReceiveBuffer → Bool
is_full Empty = false
is_full (One a) = false
is_full (Two a b) = true

pub record IsUsart (u : Usart) : Type 0 where
  -- UBRR0 has twelve bits
  pub baud : u.baud < 4096
  -- of UCSR0B, UCSZ2 is not there and RXB8 reads 0; of UCSR0C four bits are kept
  pub control_b : IsWithin 0xF9 u.control_b
  pub control_c : u.control_c < 16
  -- a byte waits only while a frame runs
  pub waits : is_some u.transmit_buffer ≡ true → is_some u.shift_register ≡ true
  -- bytes were received only with RXEN, and one was lost only where the buffer is full
  pub received : is_filled u.receive_buffer ≡ true → any_bit u.control_b 0x10 ≡ true
  pub lost : u.dor ≡ true → is_full u.receive_buffer ≡ true

pub record IsSpi (s : Spi) : Type 0 where
  -- enabled it is a master, and only enabled it transfers
  pub master : any_bit s.control 0x40 ≡ true → any_bit s.control 0x10 ≡ true
  pub transfers : is_some s.shift_register ≡ true → any_bit s.control 0x40 ≡ true

pub record IsRadio (r : Radio) : Type 0 where
  pub byte_time : r.byte_time ≤ LONGEST_BYTE

-- what a register that no device has holds by its rule: bits of its mask, and none that may not be written 1; where
-- nothing is kept, 0
abbrev pub IsKept : Rule → ℕ → Type 0
IsKept (Kept mask) x = IsWithin mask x
IsKept (Guarded bits cause mask) x = IsWithin mask x × (any_bit x bits ≡ false)
IsKept ResetFlags x = IsWithin 0x9F x
IsKept CpuControl x = IsWithin 0x7C x
IsKept _ x = x ≡ 0

pub record IsBoard (b : Board) : Type 0 where
  pub t0 : IsTimer8 Own b.t0
  pub t1 : IsTimer16 b.t1
  pub t2 : IsTimer8 Shared b.t2
  pub t3 : IsTimer16 b.t3
  pub usart : IsUsart b.usart
  pub spi : IsSpi b.spi
  pub radio : IsRadio b.radio
  pub count : length b.kept ≡ 256
  pub kept : (at : ℕ) → at < 256 → IsKept (rule_of at) (kept_at at b)
