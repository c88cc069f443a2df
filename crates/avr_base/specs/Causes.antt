-- The causes that stop a node: their numbers and their texts in a trace.
use Rattle.std.specs.Prelude.{ℕ, ◌==◌, if◌then◌else◌, List, codes, Option, None, Some}
use Rattle.avr_base.specs.declared.stop.StopCause.{StopCause}
use Rattle.avr_base.specs.declared.stop.StopCause.TheVariants as stop

unfoldable pub cause_number : StopCause → ℕ
cause_number stop.ReservedOpcode = 1
cause_number stop.UndefinedOperands = 2
cause_number stop.Spm = 3
cause_number stop.BreakOp = 4
cause_number stop.SleepMode = 5
cause_number stop.PwmMode = 6
cause_number stop.ExternalTimerClock = 7
cause_number stop.CompareOutput = 8
cause_number stop.ForcedCompare = 9
cause_number stop.InputCapture = 10
cause_number stop.Prescaler = 11
cause_number stop.UsartMode = 12
cause_number stop.SpiSlave = 13
cause_number stop.ExternalMemory = 14
cause_number stop.Watchdog = 15
cause_number stop.Eeprom = 16
cause_number stop.Adc = 17
cause_number stop.Comparator = 18
cause_number stop.Twi = 19
cause_number stop.ExternalInterrupt = 20
cause_number stop.ClockDivision = 21
cause_number stop.AsyncTimer = 22
cause_number stop.MovedVectors = 23
cause_number stop.Usart1 = 24
cause_number stop.ReservedAddress = 25
cause_number stop.PastMemory = 26

-- 0 where there is none
abbrev pub stop_number : Option StopCause → ℕ
stop_number None = 0
stop_number (Some cause) = cause_number cause

-- the cause of a number
abbrev pub cause_of : ℕ → Option StopCause
cause_of n =
    if n == 1 then Some stop.ReservedOpcode
    else if n == 2 then Some stop.UndefinedOperands
    else if n == 3 then Some stop.Spm
    else if n == 4 then Some stop.BreakOp
    else if n == 5 then Some stop.SleepMode
    else if n == 6 then Some stop.PwmMode
    else if n == 7 then Some stop.ExternalTimerClock
    else if n == 8 then Some stop.CompareOutput
    else if n == 9 then Some stop.ForcedCompare
    else if n == 10 then Some stop.InputCapture
    else if n == 11 then Some stop.Prescaler
    else if n == 12 then Some stop.UsartMode
    else if n == 13 then Some stop.SpiSlave
    else if n == 14 then Some stop.ExternalMemory
    else if n == 15 then Some stop.Watchdog
    else if n == 16 then Some stop.Eeprom
    else if n == 17 then Some stop.Adc
    else if n == 18 then Some stop.Comparator
    else if n == 19 then Some stop.Twi
    else if n == 20 then Some stop.ExternalInterrupt
    else if n == 21 then Some stop.ClockDivision
    else if n == 22 then Some stop.AsyncTimer
    else if n == 23 then Some stop.MovedVectors
    else if n == 24 then Some stop.Usart1
    else if n == 25 then Some stop.ReservedAddress
    else if n == 26 then Some stop.PastMemory
    else None

unfoldable pub cause_text : StopCause → List ℕ
cause_text stop.ReservedOpcode = codes "reserved opcode"
cause_text stop.UndefinedOperands = codes "undefined operands"
cause_text stop.Spm = codes "spm"
cause_text stop.BreakOp = codes "break"
cause_text stop.SleepMode = codes "sleep mode"
cause_text stop.PwmMode = codes "pwm mode"
cause_text stop.ExternalTimerClock = codes "external timer clock"
cause_text stop.CompareOutput = codes "compare output"
cause_text stop.ForcedCompare = codes "forced compare"
cause_text stop.InputCapture = codes "input capture enable"
cause_text stop.Prescaler = codes "prescaler control"
cause_text stop.UsartMode = codes "usart mode"
cause_text stop.SpiSlave = codes "spi slave"
cause_text stop.ExternalMemory = codes "external memory"
cause_text stop.Watchdog = codes "watchdog enable"
cause_text stop.Eeprom = codes "eeprom access"
cause_text stop.Adc = codes "adc"
cause_text stop.Comparator = codes "comparator interrupt"
cause_text stop.Twi = codes "twi"
cause_text stop.ExternalInterrupt = codes "external interrupt"
cause_text stop.ClockDivision = codes "clock division"
cause_text stop.AsyncTimer = codes "asynchronous timer"
cause_text stop.MovedVectors = codes "moved vectors"
cause_text stop.Usart1 = codes "usart1"
cause_text stop.ReservedAddress = codes "reserved address"
cause_text stop.PastMemory = codes "address past 0x10FF"
