-- A board that lags behind its clock: the timers' cycles from `settled` on are still to be made up for, and until
-- `next` nothing of it ends and no flag of a timer changes, so that flags and lines can be told without a leap of the
-- timers. Until `steady` no timer sets a flag, be it set already or not: so none passes its top, and a flag can be cleared
-- before the cycles that are made up for. Its clock may be past `next`: whoever moved it there knew that no flag changes
-- before.
use Rattle.std.specs.Prelude.{◌≡◌, ℕ, ◌+◌, ◌-◌, ◌%◌, ◌<◌, ◌≤◌, ◌==◌, ◌&&◌, not, Bool, true, false, Ok}
use Rattle.air_base.specs.Bounds.{LAST_CYCLE}
use Rattle.board_io.specs.declared.board.Board.{Board}
use Rattle.board_io.specs.declared.clocked.ClockedBoard.{ClockedBoard}
use Rattle.board_io.specs.declared.ahead.Forecast.{Forecast}
use Rattle.board_io.specs.Board.{clocked}
use Rattle.board_io.specs.Cycle.{board_quiet, timers_leap}
use Rattle.board_io.specs.Registers.{io_get}
use Rattle.board_io.specs.Lines.{lines_of}
use Rattle.board_io.specs.Names.{ETIMSK, TIMSK}
use Rattle.board_io.specs.Passing.{changes_flag_at, sets_flag_at}
use Rattle.board_io.specs.declared.rules.Rule.{Rule}
use Rattle.board_io.specs.declared.rules.Rule.TheVariants.{Reserved, Pin, Kept, Guarded, WatchdogControl, ResetFlags, CpuControl, TimerFlags, ExtendedTimerFlags, Timer0, Timer1, Timer2, Timer3, Usart0, Spi}
use Rattle.avr_timers.specs.declared.registers16.Reg16.{Reg16}
use Rattle.avr_timers.specs.declared.registers16.Reg16.TheVariants.{ControlB, CountH, IcrH, CompH}
use Rattle.avr_timers.specs.declared.registers8.Reg8.{Reg8}
use Rattle.avr_timers.specs.declared.registers8.Reg8.TheVariants as reg8
use Rattle.serial_ports.specs.declared.spi.Spi.{Spi as SpiPort}
use Rattle.serial_ports.specs.declared.spi_registers.SpiReg.{SpiReg}
use Rattle.serial_ports.specs.declared.spi_registers.SpiReg.TheVariants as spi
use Rattle.serial_ports.specs.declared.usart_registers.UsartReg.{UsartReg}
use Rattle.serial_ports.specs.declared.usart_registers.UsartReg.TheVariants as usart

-- the board of the cycle `clock`, where its timers have done the cycles below `settled` alone
abbrev pub caught_up : ℕ → ℕ → Board → Board
caught_up settled clock b = timers_leap settled (clock - settled) b

-- what is kept of a board that lags behind the cycle `clock` is true of it
pub record IsAhead (a : Forecast) (clock : ℕ) (b : Board) : Type 0 where
  pub settled : a.settled ≤ clock
  pub now : clock ≤ LAST_CYCLE
  pub early : a.next ≤ LAST_CYCLE
  pub quiet : (t : ℕ) → clock ≤ t → t < a.next → board_quiet t b ≡ true
  pub calm : (i : ℕ) → a.settled + i < a.next → changes_flag_at a.settled b i ≡ false
  pub past : (i : ℕ) → a.settled + i < clock → changes_flag_at a.settled b i ≡ false
  pub steady : (i : ℕ) → a.settled + i < a.steady → sets_flag_at a.settled b i ≡ false
  pub lines : (lines_of b).bits ≡ a.lines
  pub clear : a.clear ≤ a.next
  pub down : 0 < a.clear → a.lines ≡ 0

-- up to the beginning of cycle `bound` nothing of a board ends and no flag of a timer changes
pub record IsUneventful (bound : ℕ) (c : ClockedBoard) : Type 0 where
  pub quiet : (t : ℕ) → c.clock ≤ t → t < bound → board_quiet t c.board ≡ true
  pub calm : (i : ℕ) → c.clock + i < bound → changes_flag_at c.clock c.board i ≡ false

-- n cycles from cycle t on in which nothing of a board ends, and each of which begins with the lines of now
pub record IsIdle (t n : ℕ) (b : Board) : Type 0 where
  pub quiet : (i : ℕ) → i < n → board_quiet (t + i) b ≡ true
  pub same : (i : ℕ) → i < n → lines_of (timers_leap t i b) ≡ lines_of b

abbrev pub is_udr : UsartReg → Bool
is_udr usart.StatusA = false
is_udr usart.ControlB = false
is_udr usart.ControlC = false
is_udr usart.BaudL = false
is_udr usart.BaudH = false
is_udr usart.Udr = true

abbrev pub is_spdr : SpiReg → Bool
is_spdr spi.Control = false
is_spdr spi.Status = false
is_spdr spi.Spdr = true

-- whether a read by a rule looks at no timer but for its flags, and leaves the lines and what may end
abbrev pub is_plain_read : Rule → Bool
is_plain_read Reserved = true
is_plain_read (Pin port) = true
is_plain_read (Kept mask) = true
is_plain_read (Guarded bits cause mask) = true
is_plain_read WatchdogControl = true
is_plain_read ResetFlags = true
is_plain_read CpuControl = true
is_plain_read TimerFlags = true
is_plain_read ExtendedTimerFlags = true
is_plain_read (Timer0 reg) = false
is_plain_read (Timer1 reg) = false
is_plain_read (Timer2 reg) = false
is_plain_read (Timer3 reg) = false
is_plain_read (Usart0 reg) = not (is_udr reg)
is_plain_read (Spi reg) = not (is_spdr reg)

-- whether a rule is one of USART0, of the serial peripheral interface, or of a byte that is kept, as TIMSK is: no timer's
abbrev pub leaves_timers : Rule → Bool
leaves_timers Reserved = false
leaves_timers (Pin port) = false
leaves_timers (Kept mask) = true
leaves_timers (Guarded bits cause mask) = false
leaves_timers WatchdogControl = false
leaves_timers ResetFlags = false
leaves_timers CpuControl = false
leaves_timers TimerFlags = false
leaves_timers ExtendedTimerFlags = false
leaves_timers (Timer0 reg) = false
leaves_timers (Timer1 reg) = false
leaves_timers (Timer2 reg) = false
leaves_timers (Timer3 reg) = false
leaves_timers (Usart0 reg) = true
leaves_timers (Spi reg) = true

-- TIFR and ETIFR
abbrev pub is_flags : Rule → Bool
is_flags TimerFlags = true
is_flags ExtendedTimerFlags = true
is_flags _ = false

-- neither TIMSK nor ETIMSK, which enable the timers' lines
abbrev pub is_no_mask : ℕ → Bool
is_no_mask at = not (at == TIMSK) && not (at == ETIMSK)

-- a high byte of a timer of sixteen bits, whose write fills TEMP alone
abbrev pub is_high : Reg16 → Bool
is_high CountH = true
is_high IcrH = true
is_high (CompH chan) = true
is_high _ = false

-- whether a write by a rule of the register at an address moves no event of a timer, and leaves the lines and what may end
abbrev pub is_plain_write : Rule → ℕ → Bool
is_plain_write Reserved at = true
is_plain_write (Pin port) at = true
is_plain_write (Kept mask) at = is_no_mask at
is_plain_write (Guarded bits cause mask) at = is_no_mask at
is_plain_write WatchdogControl at = true
is_plain_write ResetFlags at = is_no_mask at
is_plain_write CpuControl at = is_no_mask at
is_plain_write TimerFlags at = false
is_plain_write ExtendedTimerFlags at = false
is_plain_write (Timer0 reg) at = false
is_plain_write (Timer1 reg) at = is_high reg
is_plain_write (Timer2 reg) at = false
is_plain_write (Timer3 reg) at = is_high reg
is_plain_write (Usart0 reg) at = false
is_plain_write (Spi reg) at = false

-- whether a write of a register of a timer that stands leaves it standing: it chooses no clock
abbrev pub stays_8 : Reg8 → ℕ → Bool
stays_8 reg8.Control x = x % 8 == 0
stays_8 reg8.Count x = true
stays_8 reg8.Compare x = true

abbrev pub stays_16 : Reg16 → ℕ → Bool
stays_16 ControlB x = x % 8 == 0
stays_16 _ x = true

-- whether a write by a rule is one of a timer that stands before it and after it
abbrev pub is_standing : Rule → ℕ → Board → Bool
is_standing (Timer0 reg) x b = b.t0.select == 0 && stays_8 reg x
is_standing (Timer1 reg) x b = b.t1.select == 0 && stays_16 reg x
is_standing (Timer2 reg) x b = b.t2.select == 0 && stays_8 reg x
is_standing (Timer3 reg) x b = b.t3.select == 0 && stays_16 reg x
is_standing _ x b = false

-- SPSR has no flag set, and its last read saw none: so a read notes none
abbrev pub is_unflagged : SpiPort → Bool
is_unflagged s = not s.spif && not s.wcol && not s.noted_spif && not s.noted_wcol

abbrev pub is_still_port : SpiReg → SpiPort → Bool
is_still_port spi.Control s = true
is_still_port spi.Status s = is_unflagged s
is_still_port spi.Spdr s = false

-- whether a read by a rule changes nothing, and gives the same as long as the timers alone move
abbrev pub is_still_read : Rule → Board → Bool
is_still_read Reserved b = false
is_still_read (Pin port) b = true
is_still_read (Kept mask) b = true
is_still_read (Guarded bits cause mask) b = true
is_still_read WatchdogControl b = true
is_still_read ResetFlags b = true
is_still_read CpuControl b = true
is_still_read TimerFlags b = false
is_still_read ExtendedTimerFlags b = false
is_still_read (Timer0 reg) b = false
is_still_read (Timer1 reg) b = false
is_still_read (Timer2 reg) b = false
is_still_read (Timer3 reg) b = false
is_still_read (Usart0 reg) b = not (is_udr reg)
is_still_read (Spi reg) b = is_still_port reg b.spi

-- a load at a data address gives this byte and changes nothing, in whatever cycle and how far ever the timers ran
pub record ReadsStill (b : Board) (at : ℕ) : Type 0 where
  pub byte : ℕ
  pub gives : (u t n : ℕ) → io_get (clocked u (timers_leap t n b)) at ≡ Ok (byte, clocked u (timers_leap t n b))
