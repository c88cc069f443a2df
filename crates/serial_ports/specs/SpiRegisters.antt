-- The registers of the serial peripheral interface (ATmega128 datasheet, "SPI Control Register - SPCR", "SPI Status
-- Register - SPSR", "SPI Data Register - SPDR").
use Rattle.std.specs.Prelude.{ℕ, ◌+◌, ◌&&◌, not, if◌then◌else◌, true, false, Some, None, is_some, Result, Ok, Err}
use Rattle.avr_base.specs.declared.stop.StopCause.{StopCause}
use Rattle.avr_base.specs.declared.stop.StopCause.TheVariants as stop
use Rattle.device_base.specs.Bits.{any_bit, bit}
use Rattle.device_base.specs.Names.{MSTR, SPE, SPI2X, SPIF, WCOL}
use Rattle.serial_ports.specs.declared.spi_registers.SpiReg.{SpiReg}
use Rattle.serial_ports.specs.declared.spi_registers.SpiReg.TheVariants.{Control, Status, Spdr}
use Rattle.serial_ports.specs.declared.spi.Spi.{Spi}
use Rattle.serial_ports.specs.Spi.{transfer_cycles}

-- SPSR
abbrev pub status_of : Spi → ℕ
status_of s = bit s.spif SPIF + bit s.wcol WCOL + bit s.double SPI2X

-- an access of SPDR clears the flags that the last read of SPSR saw set
abbrev pub accessed : Spi → Spi
accessed s = record s {
  spif = s.spif && not s.noted_spif;
  wcol = s.wcol && not s.noted_wcol;
  noted_spif = false;
  noted_wcol = false;
}

-- what a read gives, and the port after it: a read of SPSR notes which flags are set
abbrev pub get_of : Spi → SpiReg → ℕ × Spi
get_of s Control = (s.control, s)
get_of s Status = (status_of s, record s { noted_spif = s.spif; noted_wcol = s.wcol })
get_of s Spdr = (s.receive_buffer, accessed s)

-- the byte b to transfer from cycle t on: lost where SPE is clear; a collision while a transfer runs
abbrev pub sent_out : ℕ → ℕ → Spi → Spi
sent_out t b s =
    if not (any_bit s.control SPE) then s
    else if is_some s.shift_register then record s { wcol = true }
    else record s { shift_register = Some (record { ends = t + transfer_cycles s; byte = b }) }

-- the port after a write of the byte b in cycle t, or why that stops: SPE without MSTR asks for a slave. A
-- write that clears SPE abandons the transfer that runs; of SPSR SPI2X alone is written
abbrev pub put_of : ℕ → Spi → SpiReg → ℕ → Result Spi StopCause
put_of t s Control b =
    if any_bit b SPE && not (any_bit b MSTR) then Err stop.SpiSlave
    else Ok (record s { control = b; shift_register = if any_bit b SPE then s.shift_register else None })
put_of t s Status b = Ok (record s { double = any_bit b SPI2X })
put_of t s Spdr b = Ok (sent_out t b (accessed s))
