-- What an access to an I/O register gives, by the rule of its address (ATmega128 datasheet, the register descriptions).
-- Where a rule stops, the tests stand in the order in which they are made.
use Rattle.std.specs.Prelude.{◌≡◌, ℕ, ◌+◌, ◌&&◌, not, if◌then◌else◌, false, Result, Ok, Err, bit_and, bit_or}
use Rattle.avr_base.specs.declared.stop.StopCause.{StopCause}
use Rattle.avr_base.specs.declared.stop.StopCause.TheVariants as stop
use Rattle.board_io.specs.declared.board.Board.{Board}
use Rattle.board_io.specs.declared.clocked.ClockedBoard.{ClockedBoard}
use Rattle.board_io.specs.declared.rules.Rule.{Rule}
use Rattle.board_io.specs.declared.rules.Rule.TheVariants.{Reserved, Pin, Kept, Guarded, WatchdogControl, ResetFlags, CpuControl, TimerFlags, ExtendedTimerFlags, Timer0, Timer1, Timer2, Timer3, Usart0, Spi}
use Rattle.board_io.specs.Board.{clocked, kept_at, with_kept}
use Rattle.board_io.specs.Names.{ICF1, ICF3, IVSEL, JTD, OCF0, OCF1A, OCF1B, OCF1C, OCF2, OCF3A, OCF3B, OCF3C, SRE, TOV0, TOV1, TOV2, TOV3, WDCE, WDE}
use Rattle.board_io.specs.Table.{rule_of}
use Rattle.device_base.specs.Bits.{any_bit, bit}
use Rattle.avr_timers.specs.declared.flags.TimerFlags.{TimerFlags as Flags}
use Rattle.serial_ports.specs.declared.spi.Spi.{Spi as SpiPort}
use Rattle.serial_ports.specs.SpiRegisters as spi
use Rattle.avr_timers.specs.declared.timer16.Timer16.{Timer16}
use Rattle.avr_timers.specs.Registers16 as reg16
use Rattle.avr_timers.specs.Timer16 as timer16
use Rattle.avr_timers.specs.declared.timer8.Timer8.{Timer8}
use Rattle.avr_timers.specs.Registers8 as reg8
use Rattle.avr_timers.specs.Timer8 as timer8
use Rattle.serial_ports.specs.declared.usart.Usart.{Usart}
use Rattle.serial_ports.specs.UsartRegisters as usart

-- TIFR
abbrev pub timer_flags : Board → ℕ
timer_flags b =
    bit b.t2.ocf_a OCF2 + bit b.t2.tov TOV2 + bit b.t1.flags.icf ICF1 + bit b.t1.flags.ocf_a OCF1A
    + bit b.t1.flags.ocf_b OCF1B + bit b.t1.flags.tov TOV1 + bit b.t0.ocf_a OCF0 + bit b.t0.tov TOV0

-- ETIFR
abbrev pub extended_timer_flags : Board → ℕ
extended_timer_flags b =
    bit b.t3.flags.icf ICF3 + bit b.t3.flags.ocf_a OCF3A + bit b.t3.flags.ocf_b OCF3B + bit b.t3.flags.tov TOV3
    + bit b.t3.flags.ocf_c OCF3C + bit b.t1.flags.ocf_c OCF1C

-- a write of TIFR or ETIFR clears the flags whose bits are written 1
abbrev pub flags_cleared : ℕ → Board → Board
flags_cleared x b =
    let f0 : Flags = record { tov = any_bit x TOV0; ocf_a = any_bit x OCF0; ocf_b = false; ocf_c = false; icf = false } in
    let f1 : Flags = record { tov = any_bit x TOV1; ocf_a = any_bit x OCF1A; ocf_b = any_bit x OCF1B; ocf_c = false; icf = any_bit x ICF1 } in
    let f2 : Flags = record { tov = any_bit x TOV2; ocf_a = any_bit x OCF2; ocf_b = false; ocf_c = false; icf = false } in
    record b { t0 = timer8.cleared b.t0 f0; t1 = timer16.cleared b.t1 f1; t2 = timer8.cleared b.t2 f2 }

abbrev pub extended_flags_cleared : ℕ → Board → Board
extended_flags_cleared x b =
    let f1 : Flags = record { tov = false; ocf_a = false; ocf_b = false; ocf_c = any_bit x OCF1C; icf = false } in
    let f3 : Flags = record { tov = any_bit x TOV3; ocf_a = any_bit x OCF3A; ocf_b = any_bit x OCF3B; ocf_c = any_bit x OCF3C; icf = any_bit x ICF3 } in
    record b { t1 = timer16.cleared b.t1 f1; t3 = timer16.cleared b.t3 f3 }

-- a read, by the rule of its register: the byte and the board after it. A pin reads the register of its port, as by its
-- pull-up
abbrev pub get_by : Rule → Board → ℕ → Result (ℕ × Board) StopCause
get_by Reserved b at = Err stop.ReservedAddress
get_by (Pin port) b at = Ok (kept_at port b, b)
get_by (Kept mask) b at = Ok (kept_at at b, b)
get_by (Guarded bits cause mask) b at = Ok (kept_at at b, b)
get_by WatchdogControl b at = Ok (0, b)
get_by ResetFlags b at = Ok (kept_at at b, b)
get_by CpuControl b at = Ok (kept_at at b, b)
get_by TimerFlags b at = Ok (timer_flags b, b)
get_by ExtendedTimerFlags b at = Ok (extended_timer_flags b, b)
get_by (Timer0 reg) b at = Ok (reg8.get_of b.t0 reg, b)
get_by (Timer1 reg) b at = let got = reg16.get_of b.t1 reg in Ok (got.0, record b { t1 = got.1 })
get_by (Timer2 reg) b at = Ok (reg8.get_of b.t2 reg, b)
get_by (Timer3 reg) b at = let got = reg16.get_of b.t3 reg in Ok (got.0, record b { t3 = got.1 })
get_by (Usart0 reg) b at = let got = usart.get_of b.usart reg in Ok (got.0, record b { usart = got.1 })
get_by (Spi reg) b at = let got = spi.get_of b.spi reg in Ok (got.0, record b { spi = got.1 })

-- what a read did, where this is what it gives: a refused one changes nothing
abbrev pub IsGot : {B : Type 0} → Result (ℕ × B) StopCause → B → Result ℕ StopCause → B → Type 0
IsGot given old (Ok x) new = given ≡ Ok (x, new)
IsGot given old (Err cause) new = (given ≡ Err cause) × (new ≡ old)

-- the board with what a write made of one of its devices
abbrev pub with_t0 : Board → Result Timer8 StopCause → Result Board StopCause
with_t0 b (Ok t) = Ok (record b { t0 = t })
with_t0 b (Err cause) = Err cause

abbrev pub with_t1 : Board → Result Timer16 StopCause → Result Board StopCause
with_t1 b (Ok t) = Ok (record b { t1 = t })
with_t1 b (Err cause) = Err cause

abbrev pub with_t2 : Board → Result Timer8 StopCause → Result Board StopCause
with_t2 b (Ok t) = Ok (record b { t2 = t })
with_t2 b (Err cause) = Err cause

abbrev pub with_t3 : Board → Result Timer16 StopCause → Result Board StopCause
with_t3 b (Ok t) = Ok (record b { t3 = t })
with_t3 b (Err cause) = Err cause

abbrev pub with_usart : Board → Result Usart StopCause → Result Board StopCause
with_usart b (Ok u) = Ok (record b { usart = u })
with_usart b (Err cause) = Err cause

abbrev pub with_spi : Board → Result SpiPort StopCause → Result Board StopCause
with_spi b (Ok s) = Ok (record b { spi = s })
with_spi b (Err cause) = Err cause

-- a write of the byte x in cycle t, by the rule of its register. WDTCR: WDE without WDCE turns the watchdog on. MCUCSR:
-- JTD is kept, the reset flags 4 to 0 are cleared where written 0. MCUCR: bits 6 to 2 are kept
abbrev pub put_by : ℕ → Rule → Board → ℕ → ℕ → Result Board StopCause
put_by t Reserved b at x = Err stop.ReservedAddress
put_by t (Pin port) b at x = Ok b
put_by t (Kept mask) b at x = Ok (with_kept at (bit_and x mask) b)
put_by t (Guarded bits cause mask) b at x = if any_bit x bits then Err cause else Ok (with_kept at (bit_and x mask) b)
put_by t WatchdogControl b at x = if any_bit x WDE && not (any_bit x WDCE) then Err stop.Watchdog else Ok b
put_by t ResetFlags b at x = Ok (with_kept at (bit_or (bit_and x JTD) (bit_and (bit_and (kept_at at b) x) 0x1F)) b)
put_by t CpuControl b at x =
    if any_bit x SRE then Err stop.ExternalMemory
    else if any_bit x IVSEL then Err stop.MovedVectors
    else Ok (with_kept at (bit_and x 0x7C) b)
put_by t TimerFlags b at x = Ok (flags_cleared x b)
put_by t ExtendedTimerFlags b at x = Ok (extended_flags_cleared x b)
put_by t (Timer0 reg) b at x = with_t0 b (reg8.put_of b.t0 reg x)
put_by t (Timer1 reg) b at x = with_t1 b (reg16.put_of b.t1 reg x)
put_by t (Timer2 reg) b at x = with_t2 b (reg8.put_of b.t2 reg x)
put_by t (Timer3 reg) b at x = with_t3 b (reg16.put_of b.t3 reg x)
put_by t (Usart0 reg) b at x = with_usart b (usart.put_of t b.usart reg x)
put_by t (Spi reg) b at x = with_spi b (spi.put_of t b.spi reg x)

-- what a write did, where this is what it gives: a refused one changes nothing
abbrev pub IsPut : {B : Type 0} → Result B StopCause → B → Result (Unit {0}) StopCause → B → Type 0
IsPut given old (Ok u) new = given ≡ Ok new
IsPut given old (Err cause) new = (given ≡ Err cause) × (new ≡ old)

-- a read and a write by a rule in the cycle of the clock, which stays
abbrev pub got_in : ℕ → Result (ℕ × Board) StopCause → Result (ℕ × ClockedBoard) StopCause
got_in t (Ok g) = Ok (g.0, clocked t g.1)
got_in t (Err cause) = Err cause

abbrev pub get_in : Rule → ClockedBoard → ℕ → Result (ℕ × ClockedBoard) StopCause
get_in rule c at = got_in c.clock (get_by rule c.board at)

abbrev pub done_in : ℕ → Result Board StopCause → Result ClockedBoard StopCause
done_in t (Ok b) = Ok (clocked t b)
done_in t (Err cause) = Err cause

abbrev pub put_in : Rule → ClockedBoard → ℕ → ℕ → Result ClockedBoard StopCause
put_in rule c at x = done_in c.clock (put_by c.clock rule c.board at x)

-- and at a data address
unfoldable pub io_get : ClockedBoard → ℕ → Result (ℕ × ClockedBoard) StopCause
io_get c at = get_in (rule_of at) c at

unfoldable pub io_put : ClockedBoard → ℕ → ℕ → Result ClockedBoard StopCause
io_put c at x = put_in (rule_of at) c at x
