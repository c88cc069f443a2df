-- The board: the devices beside the core, and the registers that only hold a byte. After reset, and what its other
-- parts read of it (ATmega128 datasheet, "Register Summary", "MCU Control Register - MCUCR").
use Rattle.std.specs.Prelude.{ℕ, ◌&&◌, not, if◌then◌else◌, Bool, map, slice_index, slice_set}
use Rattle.std.specs.List.{range_with_len}
use Rattle.board_io.specs.declared.board.Board.{Board}
use Rattle.board_io.specs.declared.clocked.ClockedBoard.{ClockedBoard}
use Rattle.board_io.specs.declared.board.Sleep.{Sleep}
use Rattle.board_io.specs.declared.board.Sleep.TheVariants.{Off, Idle, Other}
use Rattle.board_io.specs.Names.{DDRB, MCUCR, PORTB, SE}
use Rattle.board_io.specs.Table.{start_of}
use Rattle.serial_ports.specs.Radio.{reset_radio}
use Rattle.device_base.specs.Bits.{any_bit}
use Rattle.avr_timers.specs.declared.prescaler.Prescaler.TheVariants.{Own, Shared}
use Rattle.serial_ports.specs.Spi.{reset_spi}
use Rattle.avr_timers.specs.Timer16 as timer16
use Rattle.avr_timers.specs.Timer8 as timer8
use Rattle.serial_ports.specs.Usart.{reset_usart}

abbrev pub reset_board : ℕ → Board
reset_board byte_time = record {
  kept = map start_of (range_with_len 0 256);
  t0 = timer8.reset_timer Own;
  t1 = timer16.reset_timer;
  t2 = timer8.reset_timer Shared;
  t3 = timer16.reset_timer;
  usart = reset_usart;
  spi = reset_spi;
  radio = reset_radio byte_time;
}

-- the byte that a register holds, and with another one
abbrev pub kept_at : ℕ → Board → ℕ
kept_at at b = slice_index b.kept at

abbrev pub with_kept : ℕ → ℕ → Board → Board
with_kept at x b = record b { kept = slice_set b.kept at x }

-- a board in the cycle in which its registers are accessed
abbrev pub clocked : ℕ → Board → ClockedBoard
clocked t b = record { clock = t; board = b }

-- whether the radio is selected: bit 0 of port B is an output, by DDRB, and low, by PORTB
abbrev pub selected : Board → Bool
selected b = any_bit (kept_at DDRB b) 0x01 && not (any_bit (kept_at PORTB b) 0x01)

-- what SLEEP would do, by MCUCR: bits 4 to 2 are the sleep mode, of which 000 is idle
abbrev pub sleep_mode : Board → Sleep
sleep_mode b =
    if not (any_bit (kept_at MCUCR b) SE) then Off
    else if any_bit (kept_at MCUCR b) 0x1C then Other
    else Idle
