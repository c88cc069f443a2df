-- The registers of the 16-bit timers (ATmega128 datasheet, "16-bit Timer/Counter Register Description" and "Accessing
-- 16-bit Registers").
use Rattle.std.specs.Prelude.{ℕ, ◌+◌, ◌*◌, ◌/◌, ◌%◌, if◌then◌else◌, true, Option, Some, None, Result, Ok, Err, bit_or}
use Rattle.avr_base.specs.declared.stop.StopCause.{StopCause}
use Rattle.avr_base.specs.declared.stop.StopCause.TheVariants as stop
use Rattle.device_base.specs.Bits.{any_bit, bit}
use Rattle.device_base.specs.Names.{COM_ABC, FOC_ABC, ICES, ICNC}
use Rattle.avr_timers.specs.declared.prescaler.Prescaler.TheVariants.{Shared}
use Rattle.avr_timers.specs.Prescaler.{is_pin}
use Rattle.avr_timers.specs.declared.mode.Mode16.{Mode16}
use Rattle.avr_timers.specs.declared.registers16.Channel.{Channel}
use Rattle.avr_timers.specs.declared.registers16.Channel.TheVariants.{A, B, C}
use Rattle.avr_timers.specs.declared.registers16.Reg16.{Reg16}
use Rattle.avr_timers.specs.declared.registers16.Reg16.TheVariants.{ControlA, ControlB, ControlC, CountL, CountH, IcrL, IcrH, CompL, CompH}
use Rattle.avr_timers.specs.declared.timer16.Timer16.{Timer16}
use Rattle.avr_timers.specs.Mode.{mode_of, number_of}
use Rattle.avr_timers.specs.Timer16.{clears_at_icr}

abbrev pub compare_of : Timer16 → Channel → ℕ
compare_of tm A = tm.compare_a
compare_of tm B = tm.compare_b
compare_of tm C = tm.compare_c

abbrev pub with_compare : Timer16 → Channel → ℕ → Timer16
with_compare tm A value = record tm { compare_a = value }
with_compare tm B value = record tm { compare_b = value }
with_compare tm C value = record tm { compare_c = value }

-- a write of a low byte takes the high byte from TEMP
abbrev pub word_with : Timer16 → ℕ → ℕ
word_with tm low = tm.temp * 256 + low

-- TCCRnB: ICNC, ICES, WGM3:2 in 4 and 3, clock select in 2 to 0; bit 5 reads 0
abbrev pub control_b : Timer16 → ℕ
control_b tm =
    bit_or (bit_or (bit_or (bit tm.noise_canceler ICNC) (bit tm.rising_edge ICES)) (number_of tm.mode / 4 * 8)) tm.select

-- what a read gives, and the timer after it: reading the low byte of TCNT or ICR fills TEMP with the high one, and
-- their high byte reads TEMP; the compare values are read without it, and TCCRnC and TCCRnA read 0
abbrev pub get_of : Timer16 → Reg16 → ℕ × Timer16
get_of tm ControlA = (0, tm)
get_of tm ControlB = (control_b tm, tm)
get_of tm ControlC = (0, tm)
get_of tm CountL = (tm.count % 256, record tm { temp = tm.count / 256 })
get_of tm CountH = (tm.temp, tm)
get_of tm IcrL = (tm.icr % 256, record tm { temp = tm.icr / 256 })
get_of tm IcrH = (tm.temp, tm)
get_of tm (CompL chan) = (compare_of tm chan % 256, tm)
get_of tm (CompH chan) = (compare_of tm chan / 256, tm)

-- TCCRnA, without bits that drive pins, in the mode that WGM1:0 of the byte b make with WGM3:2 of TCCRnB
abbrev pub with_control_a : Timer16 → Option Mode16 → Result Timer16 StopCause
with_control_a tm None = Err stop.PwmMode
with_control_a tm (Some mode) = Ok (record tm { mode = mode })

-- TCCRnB with the byte b, in the mode that its WGM3:2 make with WGM1:0 of TCCRnA
abbrev pub with_control_b : Timer16 → Option Mode16 → ℕ → Result Timer16 StopCause
with_control_b tm None b = Err stop.PwmMode
with_control_b tm (Some mode) b =
    if is_pin Shared (b % 8) then Err stop.ExternalTimerClock
    else Ok (record tm { mode = mode; select = b % 8; noise_canceler = any_bit b ICNC; rising_edge = any_bit b ICES })

-- the timer after a write of the byte b, or why that stops
abbrev pub put_of : Timer16 → Reg16 → ℕ → Result Timer16 StopCause
put_of tm ControlA b = if any_bit b COM_ABC then Err stop.CompareOutput else with_control_a tm (mode_of (number_of tm.mode / 4 * 4 + b % 4))
put_of tm ControlB b = with_control_b tm (mode_of (b / 8 % 4 * 4 + number_of tm.mode % 4)) b
put_of tm ControlC b = if any_bit b FOC_ABC then Err stop.ForcedCompare else Ok tm
put_of tm CountL b = Ok (record tm { count = word_with tm b; match_blocked = true })
put_of tm CountH b = Ok (record tm { temp = b })
put_of tm IcrL b = Ok (if clears_at_icr tm.mode then record tm { icr = word_with tm b } else tm)
put_of tm IcrH b = Ok (record tm { temp = b })
put_of tm (CompL chan) b = Ok (with_compare tm chan (word_with tm b))
put_of tm (CompH chan) b = Ok (record tm { temp = b })
