-- The serial peripheral interface as a master, cycle by cycle (ATmega128 datasheet, "Serial Peripheral Interface - SPI"
-- and "SPI Status Register - SPSR"). The cycle of a transfer's end is this simulator's own choice.
use Rattle.std.specs.Prelude.{ℕ, ◌*◌, ◌/◌, ◌%◌, ◌==◌, ◌&&◌, if◌then◌else◌, Bool, true, false, None}
use Rattle.device_base.specs.Bits.{any_bit}
use Rattle.device_base.specs.Names.{SPIE}
use Rattle.serial_ports.specs.Transmission.{is_end}
use Rattle.serial_ports.specs.declared.spi.Spi.{Spi}

abbrev pub reset_spi : Spi
reset_spi = record {
  control = 0;
  double = false;
  receive_buffer = 0;
  spif = false;
  wcol = false;
  noted_spif = false;
  noted_wcol = false;
  shift_register = None;
}

-- what SPR1:0 of SPCR divide the clock by ("Relationship Between SCK and the Oscillator Frequency")
abbrev pub prescale : ℕ → ℕ
prescale s = if s == 0 then 4 else if s == 1 then 16 else if s == 2 then 64 else 128

-- SPI2X doubles the speed
abbrev pub divider : Spi → ℕ
divider s = if s.double then prescale (s.control % 4) / 2 else prescale (s.control % 4)

-- the cycles of a transfer, eight bits
unfoldable pub transfer_cycles : Spi → ℕ
transfer_cycles s = 8 * divider s

-- whether a transfer ends in cycle t
abbrev pub ends_at : ℕ → Spi → Bool
ends_at t s = is_end s.shift_register t

-- after a transfer that brought the byte x
abbrev pub spi_finished : ℕ → Spi → Spi
spi_finished x s = record s { receive_buffer = x; spif = true; shift_register = None }

-- whether it asks for its interrupt: SPIF and SPIE
abbrev pub asks_interrupt : Spi → Bool
asks_interrupt s = s.spif && any_bit s.control SPIE
