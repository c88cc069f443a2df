-- The registers of the 8-bit timers (ATmega128 datasheet, "8-bit Timer/Counter Register Description").
use Rattle.std.specs.Prelude.{ℕ, ◌%◌, if◌then◌else◌, true, Result, Ok, Err, bit_or}
use Rattle.avr_base.specs.declared.stop.StopCause.{StopCause}
use Rattle.avr_base.specs.declared.stop.StopCause.TheVariants as stop
use Rattle.device_base.specs.Bits.{any_bit, bit}
use Rattle.device_base.specs.Names.{COM, FOC, WGM0, WGM1}
use Rattle.avr_timers.specs.Prescaler.{is_pin}
use Rattle.avr_timers.specs.declared.registers8.Reg8.{Reg8}
use Rattle.avr_timers.specs.declared.registers8.Reg8.TheVariants.{Control, Count, Compare}
use Rattle.avr_timers.specs.declared.timer8.Timer8.{Timer8}

-- what a register reads as; of TCCR only WGM1 and the clock select in bits 2 to 0 can be set
abbrev pub get_of : Timer8 → Reg8 → ℕ
get_of tm Control = bit_or (bit tm.ctc WGM1) tm.select
get_of tm Count = tm.count
get_of tm Compare = tm.compare

-- the timer after a write of the byte b, or why that stops
abbrev pub put_of : Timer8 → Reg8 → ℕ → Result Timer8 StopCause
put_of tm Control b =
    if any_bit b FOC then Err stop.ForcedCompare
    else if any_bit b WGM0 then Err stop.PwmMode
    else if any_bit b COM then Err stop.CompareOutput
    else if is_pin tm.prescaler (b % 8) then Err stop.ExternalTimerClock
    else Ok (record tm { ctc = any_bit b WGM1; select = b % 8 })
put_of tm Count b = Ok (record tm { count = b; match_blocked = true })
put_of tm Compare b = Ok (record tm { compare = b })
