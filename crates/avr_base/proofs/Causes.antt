-- Each cause is the one of its number.
use Rattle.std.proofs.Common.{◌≡◌, refl, Option, None, Some}
use Rattle.avr_base.specs.Causes.{cause_number, cause_of, stop_number}
use Rattle.avr_base.specs.declared.stop.StopCause.{StopCause}
use Rattle.avr_base.specs.declared.stop.StopCause.TheVariants as stop

pub cause_again : (o : Option StopCause) → cause_of (stop_number o) ≡ o
unfolding cause_number
cause_again None = refl
cause_again (Some stop.ReservedOpcode) = refl
cause_again (Some stop.UndefinedOperands) = refl
cause_again (Some stop.Spm) = refl
cause_again (Some stop.BreakOp) = refl
cause_again (Some stop.SleepMode) = refl
cause_again (Some stop.PwmMode) = refl
cause_again (Some stop.ExternalTimerClock) = refl
cause_again (Some stop.CompareOutput) = refl
cause_again (Some stop.ForcedCompare) = refl
cause_again (Some stop.InputCapture) = refl
cause_again (Some stop.Prescaler) = refl
cause_again (Some stop.UsartMode) = refl
cause_again (Some stop.SpiSlave) = refl
cause_again (Some stop.ExternalMemory) = refl
cause_again (Some stop.Watchdog) = refl
cause_again (Some stop.Eeprom) = refl
cause_again (Some stop.Adc) = refl
cause_again (Some stop.Comparator) = refl
cause_again (Some stop.Twi) = refl
cause_again (Some stop.ExternalInterrupt) = refl
cause_again (Some stop.ClockDivision) = refl
cause_again (Some stop.AsyncTimer) = refl
cause_again (Some stop.MovedVectors) = refl
cause_again (Some stop.Usart1) = refl
cause_again (Some stop.ReservedAddress) = refl
cause_again (Some stop.PastMemory) = refl
