-- The modes of the 16-bit timers (ATmega128 datasheet, "Waveform Generation Mode Bit Description"), without those
-- that drive pins.
use Rattle.std.specs.Prelude.{ℕ, ◌==◌, if◌then◌else◌, Option, Some, None}
use Rattle.avr_timers.specs.declared.mode.Mode16.{Mode16}
use Rattle.avr_timers.specs.declared.mode.Mode16.TheVariants.{Normal, ClearAtCompare, ClearAtIcr}

-- WGM3:0
abbrev pub number_of : Mode16 → ℕ
number_of Normal = 0
number_of ClearAtCompare = 4
number_of ClearAtIcr = 12

abbrev pub mode_of : ℕ → Option Mode16
mode_of n = if n == 0 then Some Normal else if n == 4 then Some ClearAtCompare else if n == 12 then Some ClearAtIcr else None
